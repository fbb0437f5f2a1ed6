-- Closing the levels of a room, case by case.
use Rattle.std.proofs.Common.{◌≡◌, ◌≢◌, ℕ, suc, ◌+◌, ◌*◌, ◌/◌, ◌%◌, List, [], ◌∷◌, ◌++◌, Option, Some, None, Result, Ok, Err, IsErr, length, refl, ◌∙◌, arith, length-append, eq-eqb, append-nil}
use Rattle.std.specs.Option.{option_to_list}
use Rattle.std.proofs.lemmas.List.{map-append}
use Rattle.std.proofs.lemmas.Bool.{ne_eqb}
use Rattle.rp_base.specs.declared.faults.Failed.{Failed}
use Rattle.rp_verity.specs.Tree.{digest, hash_block, level, raised, runs, tops}
use Rattle.rp_verity.specs.Order.{place_of}
use Rattle.rp_verity.specs.Puts.{Added, AddedPart}
use Rattle.rp_verity.specs.Room.{AreDigests, Closes, end_puts, full_level, full_raised, full_tops, last_puts, last_run, pending, placed_at, rest_puts}
use Rattle.rp_verity.proofs.LevelLemmas.{last_run-push, last_run-rest, level-full, level-push, level-rest}
use Rattle.rp_verity.proofs.Added.{added_more, added_none, if_ok, on_err, on_ok, part_first, part_more}
use Rattle.rp_verity.proofs.Adding.{placed_block, room_above, room_lowest}

-- no level: the digest from below is the topmost one
pub closes_top : (salt : List ℕ) (digests : List (List ℕ)) (carried : Option (List ℕ)) (room : List ℕ) (told : Option (List (ℕ × List ℕ)))
    → Closes salt 0 digests carried room told told (Ok carried)
unfolding tops full_tops last_puts rest_puts
closes_top salt digests None room told = record { top = λ held. refl; puts = λ held. added_none told; cut = λ held. tt }
closes_top salt digests (Some d) room told = record { top = λ held. refl; puts = λ held. added_none told; cut = λ held. tt }

tops-suc : (salt : List ℕ) (n : ℕ) (digests : List (List ℕ)) → tops salt (suc n) digests ≡ tops salt n (raised salt digests)
unfolding tops
tops-suc salt n digests = refl

full_tops-suc : (salt : List ℕ) (n : ℕ) (digests : List (List ℕ)) → full_tops salt (suc n) digests ≡ full_tops salt n (full_raised salt digests)
unfolding full_tops
full_tops-suc salt n digests = refl

rest_puts-full : (salt : List ℕ) (n : ℕ) (digests : List (List ℕ)) → length digests % 128 ≡ 0
    → rest_puts salt (suc n) digests ≡ rest_puts salt n (full_raised salt digests)
unfolding rest_puts
rest_puts-full salt n digests full = rw (eq-eqb (length digests % 128) 0 full) refl

-- a level that is full and gets no digest from below
pub closes_full : (salt : List ℕ) (n : ℕ) (digests : List (List ℕ)) (block above : List ℕ) (told now : Option (List (ℕ × List ℕ)))
    (result : Result (Option (List ℕ)) Failed) → length block ≡ 4096 → length digests % 128 ≡ 0
    → Closes salt n (full_raised salt digests) None above told now result
    → Closes salt (suc n) digests None (block ++ above) told now result
closes_full salt n digests block above told now result whole full rest =
    record {
      top = λ held. if_ok result
          (λ top there. rw (append-nil, tops-suc salt n digests, full_tops-suc salt n digests, level-full digests full) (rw append-nil at there))
          (rest.top (room_above salt n block above digests whole held));
      puts = λ held. on_ok result (λ there. rw (rest_puts-full salt n digests full) there)
          (rest.puts (room_above salt n block above digests whole held));
      cut = λ held. on_err result (λ there. rw (rest_puts-full salt n digests full) there)
          (rest.cut (room_above salt n block above digests whole held));
    }

-- the level's last block isn't full, or its last digest comes from below
pub record HasLast (digests : List (List ℕ)) (carried : Option (List ℕ)) (block after : List ℕ) : Type 0 where
  pub open_run : carried ≡ None → length digests % 128 ≢ 0
  pub same : carried ≡ None → after ≡ block
  pub written : (d : List ℕ) → carried ≡ Some d → after ≡ placed_at (32 * (length digests % 128)) d block
  pub long : (d : List ℕ) → carried ≡ Some d → length d ≡ 32

pub has_last-none : (digests : List (List ℕ)) (carried : Option (List ℕ)) (block after : List ℕ) → carried ≡ None
    → length digests % 128 ≢ 0 → after ≡ block → HasLast digests carried block after
has_last-none digests carried block after none open_run same =
    record { open_run = λ e. open_run; same = λ e. same; written = λ d e. absurd (cc); long = λ d e. absurd (cc) }

pub has_last-some : (digests : List (List ℕ)) (carried : Option (List ℕ)) (d block after : List ℕ) → carried ≡ Some d → length d ≡ 32
    → after ≡ placed_at (32 * (length digests % 128)) d block → HasLast digests carried block after
has_last-some digests carried d block after some long written =
    record {
      open_run = λ e. absurd (cc);
      same = λ e. absurd (cc);
      written = λ d' e. let equal : d ≡ d' = cc in rw (← equal) written;
      long = λ d' e. let equal : d ≡ d' = cc in rw (← equal) long;
    }

-- then this is the last block of the level
pub last_is : (digests : List (List ℕ)) (carried : Option (List ℕ)) (block after : List ℕ) → AreDigests digests
    → HasLast digests carried block after → block ≡ hash_block (pending digests)
    → after ≡ hash_block (last_run (digests ++ option_to_list carried))
last_is digests None block after each has held =
    has.same refl ∙ held ∙ rw (append-nil, last_run-rest digests (has.open_run refl)) refl
last_is digests (Some d) block after each has held =
    has.written d refl ∙ placed_block digests d block each (has.long d refl) held ∙ rw (last_run-push digests d) refl

pub level_is : (digests : List (List ℕ)) (carried : Option (List ℕ)) (block after : List ℕ) → AreDigests digests
    → HasLast digests carried block after → block ≡ hash_block (pending digests)
    → level (digests ++ option_to_list carried) ≡ full_level digests ++ after ∷ []
level_is digests None block after each has held =
    rw (append-nil, level-rest digests (has.open_run refl), has.same refl, held) refl
level_is digests (Some d) block after each has held =
    rw (level-push digests d, has.written d refl, placed_block digests d block each (has.long d refl) held) refl

-- what is put of the levels, from one whose last block is put
pub end_puts-last : (salt : List ℕ) (n : ℕ) (digests : List (List ℕ)) (carried : Option (List ℕ)) → (carried ≡ None → length digests % 128 ≢ 0)
    → end_puts salt (suc n) digests carried ≡ last_puts salt (suc n) (digests ++ option_to_list carried)
unfolding rest_puts
end_puts-last salt n digests None open_run = rw (append-nil, ne_eqb (length digests % 128) 0 (open_run refl)) refl
end_puts-last salt n digests (Some d) open_run = refl

last_puts-suc : (salt : List ℕ) (n : ℕ) (digests : List (List ℕ))
    → last_puts salt (suc n) digests ≡ (place_of n (length digests) (length digests), hash_block (last_run digests)) ∷ last_puts salt n (raised salt digests)
unfolding last_puts
last_puts-suc salt n digests = refl

-- how many digests the level above has then
pub count_above : (digests : List (List ℕ)) (carried : Option (List ℕ)) (total : ℕ) → (carried ≡ None → length digests % 128 ≢ 0)
    → length (digests ++ option_to_list carried) ≡ total → length digests / 128 + 1 ≡ runs total
count_above digests None total open_run count =
    let rest : length digests % 128 ≢ 0 = open_run refl in
    let all : length digests ≡ total = rw append-nil at count in
    omega arith
count_above digests (Some d) total open_run count =
    omega (arith, length-append digests (d ∷ []))

-- that block wasn't taken
pub closes_failed : (salt : List ℕ) (n total : ℕ) (digests : List (List ℕ)) (carried : Option (List ℕ)) (block above after : List ℕ)
    (told now : Option (List (ℕ × List ℕ))) (result : Result (Option (List ℕ)) Failed) → IsErr result → AreDigests digests
    → length block ≡ 4096 → HasLast digests carried block after
    → length (digests ++ option_to_list carried) ≡ total
    → AddedPart told ((place_of n total total, after) ∷ []) now → Closes salt (suc n) digests carried (block ++ above) told now result
closes_failed salt n total digests carried block above after told now (Ok v) err each whole has all part = absurd (cc)
closes_failed salt n total digests carried block above after told now (Err e) err each whole has all part =
    record {
      top = λ held. tt;
      puts = λ held. tt;
      cut = λ held.
          let b : after ≡ hash_block (last_run (digests ++ option_to_list carried)) =
          last_is digests carried block after each has (room_lowest salt n block above digests whole held) in
          rw (end_puts-last salt n digests carried has.open_run, last_puts-suc salt n (digests ++ option_to_list carried), all, ← b)
          (part_first told now _ _ part);
    }

-- the digests of the level above, all of them
up_is : (salt : List ℕ) (digests : List (List ℕ)) (carried : Option (List ℕ)) (block after up : List ℕ) → AreDigests digests
    → HasLast digests carried block after → up ≡ digest salt after → block ≡ hash_block (pending digests)
    → raised salt (digests ++ option_to_list carried) ≡ full_raised salt digests ++ up ∷ []
up_is salt digests carried block after up each has raised_up held =
    rw (level_is digests carried block after each has held, raised_up) (map-append (digest salt) (full_level digests) (after ∷ []))

-- that block is put, and its digest goes to the level above
pub closes_more : (salt : List ℕ) (n total : ℕ) (digests : List (List ℕ)) (carried : Option (List ℕ)) (block above after up : List ℕ)
    (told mid now : Option (List (ℕ × List ℕ))) (result : Result (Option (List ℕ)) Failed)
    → AreDigests digests → length block ≡ 4096 → HasLast digests carried block after
    → length (digests ++ option_to_list carried) ≡ total → up ≡ digest salt after
    → Added told ((place_of n total total, after) ∷ []) mid
    → Closes salt n (full_raised salt digests) (Some up) above mid now result
    → Closes salt (suc n) digests carried (block ++ above) told now result
closes_more salt n total digests carried block above after up told mid now result each whole has all raised_up put rest =
    record {
      top = λ held.
          let up_level : raised salt (digests ++ option_to_list carried) ≡ full_raised salt digests ++ up ∷ [] =
          up_is salt digests carried block after up each has raised_up (room_lowest salt n block above digests whole held) in
          if_ok result
          (λ top there. rw (tops-suc salt n (digests ++ option_to_list carried), up_level, full_tops-suc salt n digests) there)
          (rest.top (room_above salt n block above digests whole held));
      puts = λ held.
          let up_level : raised salt (digests ++ option_to_list carried) ≡ full_raised salt digests ++ up ∷ [] =
          up_is salt digests carried block after up each has raised_up (room_lowest salt n block above digests whole held) in
          let b : after ≡ hash_block (last_run (digests ++ option_to_list carried)) =
          last_is digests carried block after each has (room_lowest salt n block above digests whole held) in
          on_ok result
          (λ there. rw (end_puts-last salt n digests carried has.open_run, last_puts-suc salt n (digests ++ option_to_list carried), all, ← b, up_level)
          (added_more told mid now _ _ put there))
          (rest.puts (room_above salt n block above digests whole held));
      cut = λ held.
          let up_level : raised salt (digests ++ option_to_list carried) ≡ full_raised salt digests ++ up ∷ [] =
          up_is salt digests carried block after up each has raised_up (room_lowest salt n block above digests whole held) in
          let b : after ≡ hash_block (last_run (digests ++ option_to_list carried)) =
          last_is digests carried block after each has (room_lowest salt n block above digests whole held) in
          on_err result
          (λ there. rw (end_puts-last salt n digests carried has.open_run, last_puts-suc salt n (digests ++ option_to_list carried), all, ← b, up_level)
          (part_more told mid now _ _ put there))
          (rest.cut (room_above salt n block above digests whole held));
    }
