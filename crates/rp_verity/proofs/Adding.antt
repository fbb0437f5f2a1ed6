-- Adding a digest to the levels of a room, case by case.
use Rattle.std.proofs.Common.{◌≡◌, ◌≢◌, ℕ, suc, ◌+◌, ◌*◌, ◌/◌, ◌%◌, ◌<◌, List, [], ◌∷◌, ◌++◌, Option, Some, None, Result, Ok, Err, IsErr, length, drop, replicate, refl, sym, ◌∙◌, ap, eq-eqb, append-nil, arith, length-append}
use Rattle.std.proofs.lemmas.List.{take_at, drop_at, length-replicate, map-append}
use Rattle.std.proofs.lemmas.List.Elements.{All-drop}
use Rattle.std.proofs.lemmas.Bool.{ne_eqb}
use Rattle.rp_base.specs.declared.faults.Failed.{Failed}
use Rattle.rp_verity.specs.Tree.{digest, hash_block, runs}
use Rattle.rp_verity.specs.Order.{place_of}
use Rattle.rp_verity.specs.Puts.{Added, AddedPart}
use Rattle.rp_verity.specs.Room.{Adds, AreDigests, IsDigest, Holds, full_level, full_puts, full_raised, full_tops, pending, placed_at}
use Rattle.rp_verity.proofs.LevelLemmas.{full_level-full, full_level-short, last_run-push, length-pending, pending-full, pending-short}
use Rattle.rp_verity.proofs.Blocks.{hash_block-nil, hash_block-push}
use Rattle.rp_verity.proofs.Added.{added_more, added_none, if_ok, on_err, on_ok, part_first, part_more}

-- the lowest level's block, with the levels above it behind
pub room_lowest : (salt : List ℕ) (n : ℕ) (block above : List ℕ) (digests : List (List ℕ)) → length block ≡ 4096
    → Holds salt (suc n) (block ++ above) digests → block ≡ hash_block (pending digests)
unfolding Holds
room_lowest salt n block above digests long held = sym (take_at block above 4096 long) ∙ held.0

pub room_above : (salt : List ℕ) (n : ℕ) (block above : List ℕ) (digests : List (List ℕ)) → length block ≡ 4096
    → Holds salt (suc n) (block ++ above) digests → Holds salt n above (full_raised salt digests)
unfolding Holds
room_above salt n block above digests long held = rw (drop_at block above 4096 long) at held.1

pub room_of : (salt : List ℕ) (n : ℕ) (block above : List ℕ) (digests : List (List ℕ)) → length block ≡ 4096
    → block ≡ hash_block (pending digests) → Holds salt n above (full_raised salt digests) → Holds salt (suc n) (block ++ above) digests
unfolding Holds
room_of salt n block above digests long lowest rest =
    (take_at block above 4096 long ∙ lowest, rw (drop_at block above 4096 long) rest)

-- no level: the digest leaves the room
pub adds_top : (salt : List ℕ) (total : ℕ) (digests : List (List ℕ)) (new room : List ℕ) (told : Option (List (ℕ × List ℕ)))
    → Adds salt 0 total digests new room room told told (Ok (Some new))
unfolding Holds full_tops full_puts
adds_top salt total digests new room told = record {
  held = λ held. held;
  top = λ held. refl;
  puts = λ held. added_none told;
  cut = λ held. tt;
}

-- the block with the digest written to it
pub placed_block : (digests : List (List ℕ)) (new block : List ℕ) → AreDigests digests → length new ≡ 32
    → block ≡ hash_block (pending digests) → placed_at (32 * (length digests % 128)) new block ≡ hash_block (pending digests ++ new ∷ [])
unfolding pending
placed_block digests new block each long held =
    let count : length (drop (128 * (length digests / 128)) digests) ≡ length digests % 128 = unfold pending in length-pending digests in
    hash_block-push (drop (128 * (length digests / 128)) digests) new block (32 * (length digests % 128))
    (All-drop IsDigest (128 * (length digests / 128)) digests each) long (omega arith) held (ap (λ (k : ℕ). 32 * k) (sym count))

-- what becomes of the tops and the puts where the run isn't full yet
short_tops : (salt : List ℕ) (n : ℕ) (digests : List (List ℕ)) (new : List ℕ) → length digests % 128 < 127
    → full_tops salt (suc n) (digests ++ new ∷ []) ≡ full_tops salt (suc n) digests ++ []
unfolding full_tops
short_tops salt n digests new short =
    rw (full_level-short digests new short) (sym (append-nil (full_tops salt n (full_raised salt digests))))

short_puts : (salt : List ℕ) (n total : ℕ) (digests : List (List ℕ)) → length digests % 128 ≢ 0 → full_puts salt (suc n) total digests ≡ []
unfolding full_puts
short_puts salt n total digests open_run = rw (ne_eqb (length digests % 128) 0 open_run) refl

-- the run isn't full yet
pub adds_part : (salt : List ℕ) (n total : ℕ) (digests : List (List ℕ)) (new block above after : List ℕ)
    (told : Option (List (ℕ × List ℕ))) → AreDigests digests → length new ≡ 32 → length block ≡ 4096 → length after ≡ 4096
    → length digests % 128 < 127 → after ≡ placed_at (32 * (length digests % 128)) new block
    → Adds salt (suc n) total digests new (block ++ above) (after ++ above) told told (Ok None)
adds_part salt n total digests new block above after told each long whole after_whole short written =
    let longer : length (digests ++ new ∷ []) ≡ length digests + 1 = length-append digests (new ∷ []) in
    let open_run : length (digests ++ new ∷ []) % 128 ≢ 0 = omega arith in
    record {
      held = λ held.
          room_of salt n after above (digests ++ new ∷ []) after_whole
          (rw (pending-short digests new short)
          (written ∙ placed_block digests new block each long (room_lowest salt n block above digests whole held)))
          (rw (full_level-short digests new short) (room_above salt n block above digests whole held));
      top = λ held. short_tops salt n digests new short;
      puts = λ held. rw (short_puts salt n total (digests ++ new ∷ []) open_run) (added_none told);
      cut = λ held. tt;
    }

-- what is put where the run is full
full_puts-full : (salt : List ℕ) (n total : ℕ) (digests : List (List ℕ)) (new : List ℕ) → length digests % 128 ≡ 127
    → full_puts salt (suc n) total (digests ++ new ∷ [])
    ≡ (place_of n total (length digests + 1), hash_block (pending digests ++ new ∷ []))
    ∷ full_puts salt n (runs total) (full_raised salt digests ++ digest salt (hash_block (pending digests ++ new ∷ [])) ∷ [])
unfolding full_puts
full_puts-full salt n total digests new full =
    let longer : length (digests ++ new ∷ []) ≡ length digests + 1 = length-append digests (new ∷ []) in
    let filled : (length digests + 1) % 128 ≡ 0 = omega arith in
    rw (
      longer,
      eq-eqb ((length digests + 1) % 128) 0 filled,
      last_run-push digests new,
      full_level-full digests new full,
      map-append (digest salt) (full_level digests) (hash_block (pending digests ++ new ∷ []) ∷ []),
    ) refl

full_tops-full : (salt : List ℕ) (n : ℕ) (digests : List (List ℕ)) (new : List ℕ) → length digests % 128 ≡ 127
    → full_tops salt (suc n) (digests ++ new ∷ [])
    ≡ full_tops salt n (full_raised salt digests ++ digest salt (hash_block (pending digests ++ new ∷ [])) ∷ [])
unfolding full_tops
full_tops-full salt n digests new full =
    rw (
      full_level-full digests new full,
      map-append (digest salt) (full_level digests) (hash_block (pending digests ++ new ∷ []) ∷ []),
    ) refl

full_tops-suc : (salt : List ℕ) (n : ℕ) (digests : List (List ℕ)) → full_tops salt (suc n) digests ≡ full_tops salt n (full_raised salt digests)
unfolding full_tops
full_tops-suc salt n digests = refl

-- the run is full, and its block wasn't taken
pub adds_failed : (salt : List ℕ) (n total : ℕ) (digests : List (List ℕ)) (new block above after then' : List ℕ)
    (told now : Option (List (ℕ × List ℕ))) (result : Result (Option (List ℕ)) Failed) → IsErr result → AreDigests digests
    → length new ≡ 32 → length block ≡ 4096 → length digests % 128 ≡ 127 → after ≡ placed_at (32 * (length digests % 128)) new block
    → AddedPart told ((place_of n total (length digests + 1), after) ∷ []) now
    → Adds salt (suc n) total digests new (block ++ above) then' told now result
adds_failed salt n total digests new block above after then' told now (Ok v) err each long whole full written part = absurd (cc)
adds_failed salt n total digests new block above after then' told now (Err e) err each long whole full written part =
    record {
      held = λ held. tt;
      top = λ held. tt;
      puts = λ held. tt;
      cut = λ held.
          let b : after ≡ hash_block (pending digests ++ new ∷ []) =
          written ∙ placed_block digests new block each long (room_lowest salt n block above digests whole held) in
          rw (full_puts-full salt n total digests new full, ← b) (part_first told now _ _ part);
    }

-- the run is full: its block is put, and its digest is added to the level above
pub adds_more : (salt : List ℕ) (n total : ℕ) (digests : List (List ℕ)) (new block above after up above' : List ℕ)
    (told mid now : Option (List (ℕ × List ℕ))) (result : Result (Option (List ℕ)) Failed)
    → AreDigests digests → length new ≡ 32 → length block ≡ 4096
    → length digests % 128 ≡ 127 → after ≡ placed_at (32 * (length digests % 128)) new block → up ≡ digest salt after
    → Added told ((place_of n total (length digests + 1), after) ∷ []) mid
    → Adds salt n (runs total) (full_raised salt digests) up above above' mid now result
    → Adds salt (suc n) total digests new (block ++ above) (replicate 4096 0 ++ above') told now result
adds_more salt n total digests new block above after up above' told mid now result each long whole full written raised put rest =
    let longer : length (digests ++ new ∷ []) ≡ length digests + 1 = length-append digests (new ∷ []) in
    let filled : length (digests ++ new ∷ []) % 128 ≡ 0 = omega arith in
    record {
      held = λ held.
          let b : after ≡ hash_block (pending digests ++ new ∷ []) =
          written ∙ placed_block digests new block each long (room_lowest salt n block above digests whole held) in
          let u : up ≡ digest salt (hash_block (pending digests ++ new ∷ [])) = raised ∙ ap (digest salt) b in
          on_ok result
          (λ there. room_of salt n (replicate 4096 0) above' (digests ++ new ∷ []) (length-replicate {A = ℕ} 4096 0)
          (rw (pending-full (digests ++ new ∷ []) filled) (sym hash_block-nil))
          (rw (full_level-full digests new full, map-append (digest salt) (full_level digests) (hash_block (pending digests ++ new ∷ []) ∷ []), ← u) there))
          (rest.held (room_above salt n block above digests whole held));
      top = λ held.
          let b : after ≡ hash_block (pending digests ++ new ∷ []) =
          written ∙ placed_block digests new block each long (room_lowest salt n block above digests whole held) in
          let u : up ≡ digest salt (hash_block (pending digests ++ new ∷ [])) = raised ∙ ap (digest salt) b in
          if_ok result (λ top there. rw (full_tops-full salt n digests new full, ← u, full_tops-suc salt n digests) there)
          (rest.top (room_above salt n block above digests whole held));
      puts = λ held.
          let b : after ≡ hash_block (pending digests ++ new ∷ []) =
          written ∙ placed_block digests new block each long (room_lowest salt n block above digests whole held) in
          let u : up ≡ digest salt (hash_block (pending digests ++ new ∷ [])) = raised ∙ ap (digest salt) b in
          on_ok result (λ there. rw (full_puts-full salt n total digests new full, ← u, ← b) (added_more told mid now _ _ put there))
          (rest.puts (room_above salt n block above digests whole held));
      cut = λ held.
          let b : after ≡ hash_block (pending digests ++ new ∷ []) =
          written ∙ placed_block digests new block each long (room_lowest salt n block above digests whole held) in
          let u : up ≡ digest salt (hash_block (pending digests ++ new ∷ [])) = raised ∙ ap (digest salt) b in
          on_err result (λ there. rw (full_puts-full salt n total digests new full, ← u, ← b) (part_more told mid now _ _ put there))
          (rest.cut (room_above salt n block above digests whole held));
    }
