-- What the builder's room holds between two data blocks, and what it puts: serves this crate's proofs.
use Rattle.std.specs.Prelude.{ℕ, zero, suc, ◌≡◌, ◌+◌, ◌-◌, ◌*◌, ◌/◌, ◌%◌, ◌==◌, List, [], ◌∷◌, ◌++◌, Option, Some, None, Result, IfOk, OnOk, OnErr, All, length, map, take, drop, if◌then◌else◌}
use Rattle.std.specs.List.{range_with_len}
use Rattle.std.specs.Option.{option_to_list}
use Rattle.rp_base.specs.declared.faults.Failed.{Failed}
use Rattle.rp_verity.specs.Tree.{digest, hash_block, raised, run, runs, tops}
use Rattle.rp_verity.specs.Order.{place_of}
use Rattle.rp_verity.specs.Puts.{Added, AddedPart}

-- digests have 32 bytes each
abbrev pub IsDigest : List ℕ → Type 0
IsDigest bytes = length bytes ≡ 32

abbrev pub AreDigests : List (List ℕ) → Type 0
AreDigests digests = All IsDigest digests

-- the digests of the run that isn't full yet
unfoldable pub pending : List (List ℕ) → List (List ℕ)
pending digests = drop (128 * (length digests / 128)) digests

-- the digests of the last run, full or not
unfoldable pub last_run : List (List ℕ) → List (List ℕ)
last_run digests = drop (128 * ((length digests - 1) / 128)) digests

-- the blocks of the full runs
unfoldable pub full_level : List (List ℕ) → List (List ℕ)
full_level digests = map (λ k. hash_block (run digests k)) (range_with_len 0 (length digests / 128))

-- the digests of the full runs' blocks
abbrev pub full_raised : List ℕ → List (List ℕ) → List (List ℕ)
full_raised salt digests = map (digest salt) (full_level digests)

-- a room of so many levels over these digests: a block for each level, the lowest first, with the digests of the run that
-- isn't full yet
unfoldable pub Holds : List ℕ → ℕ → List ℕ → List (List ℕ) → Type 0
Holds salt zero room digests = Unit {0}
Holds salt (suc n) room digests =
    (take 4096 room ≡ hash_block (pending digests)) × Holds salt n (drop 4096 room) (full_raised salt digests)

-- the digests that left the topmost of so many levels over these digests
unfoldable pub full_tops : List ℕ → ℕ → List (List ℕ) → List (List ℕ)
full_tops salt zero digests = digests
full_tops salt (suc n) digests = full_tops salt n (full_raised salt digests)

-- what is put when the last of these digests has come: the blocks that are full with it, under so many levels of which the
-- lowest is over a total of digests
unfoldable pub full_puts : List ℕ → ℕ → ℕ → List (List ℕ) → List (ℕ × List ℕ)
full_puts salt zero total digests = []
full_puts salt (suc n) total digests =
    if length digests % 128 == 0
    then (place_of n total (length digests), hash_block (last_run digests))
    ∷ full_puts salt n (runs total) (full_raised salt digests)
    else []

-- what is put at the end, when the last of these digests has come from below
unfoldable pub last_puts : List ℕ → ℕ → List (List ℕ) → List (ℕ × List ℕ)
last_puts salt zero digests = []
last_puts salt (suc n) digests =
    (place_of n (length digests) (length digests), hash_block (last_run digests)) ∷ last_puts salt n (raised salt digests)

-- what is put at the end, when no digest has come from below: nothing of the levels that are full
unfoldable pub rest_puts : List ℕ → ℕ → List (List ℕ) → List (ℕ × List ℕ)
rest_puts salt zero digests = []
rest_puts salt (suc n) digests =
    if length digests % 128 == 0 then rest_puts salt n (full_raised salt digests) else last_puts salt (suc n) digests

-- bytes with others written over them from a place on
abbrev pub placed_at : ℕ → List ℕ → List ℕ → List ℕ
placed_at place bytes block = take place block ++ bytes ++ drop (place + length bytes) block

-- what adding a digest to the lowest level does at Ok: the room holds it too, and the top is the digest that left the room
pub record Adds (salt : List ℕ) (levels total : ℕ) (digests : List (List ℕ)) (new : List ℕ) (room after : List ℕ)
    (told now : Option (List (ℕ × List ℕ))) (result : Result (Option (List ℕ)) Failed) : Type 0 where
  pub held : Holds salt levels room digests → OnOk result (Holds salt levels after (digests ++ new ∷ []))
  pub top : Holds salt levels room digests → IfOk result (λ top.
      full_tops salt levels (digests ++ new ∷ []) ≡ full_tops salt levels digests ++ option_to_list top)
  pub puts : Holds salt levels room digests → OnOk result (Added told (full_puts salt levels total (digests ++ new ∷ [])) now)
  pub cut : Holds salt levels room digests → OnErr result (AddedPart told (full_puts salt levels total (digests ++ new ∷ [])) now)

-- what is put when all digests have come, the last of them maybe from below
abbrev pub end_puts : List ℕ → ℕ → List (List ℕ) → Option (List ℕ) → List (ℕ × List ℕ)
end_puts salt levels digests None = rest_puts salt levels digests
end_puts salt levels digests (Some carried) = last_puts salt levels (digests ++ carried ∷ [])

-- what closing the levels does at Ok: the digests of the topmost level are those that left the room and the one given
pub record Closes (salt : List ℕ) (levels : ℕ) (digests : List (List ℕ)) (carried : Option (List ℕ)) (room : List ℕ)
    (told now : Option (List (ℕ × List ℕ))) (result : Result (Option (List ℕ)) Failed) : Type 0 where
  pub top : Holds salt levels room digests → IfOk result (λ top.
      tops salt levels (digests ++ option_to_list carried) ≡ full_tops salt levels digests ++ option_to_list top)
  pub puts : Holds salt levels room digests → OnOk result (Added told (end_puts salt levels digests carried) now)
  pub cut : Holds salt levels room digests → OnErr result (AddedPart told (end_puts salt levels digests carried) now)
