-- Worked values of the definitions, by computing.
use Rattle.std.proofs.Common.{◌≡◌, ℕ, List, [], ◌∷◌, length, zero, refl, ap, ◌∙◌, arith}
use Rattle.rp_base.specs.Image.{bytes_at}
use Rattle.rp_base.specs.declared.geometry.Which.TheVariants.{Primary, Backup}
use Rattle.rp_base.specs.declared.plan.Plan.{Plan}
use Rattle.rp_disk.specs.declared.call.Call.{Call}
use Rattle.rp_disk.specs.declared.call.Call.TheVariants.{Write, Sync, SetLen}
use Rattle.rp_disk.specs.Blocks.{flat}
use Rattle.rp_disk.specs.Calls.{all_done}
use Rattle.rp_stops.specs.Order.{contents_blocks, copies}
use Rattle.rp_stops.specs.Sectors.{HasWholeSectors, IsAsAfterSome}
use Rattle.rp_stops.specs.Writers.{Event, mine, theirs, before, behind, calls_of, ours, others}

-- two copies are six writes, each with its sync; one is three
two_copies : (plan : Plan) → length (flat (copies plan (Backup ∷ Primary ∷ []))) ≡ 12
two_copies plan = refl

one_copy : (plan : Plan) → length (flat (copies plan (Primary ∷ []))) ≡ 6
one_copy plan = refl

-- without contents there is no sync for them
no_contents : contents_blocks [] ≡ []
no_contents = refl

-- our calls and those of others, before and behind the last sync
abbrev events : List Event
events = mine (SetLen 9) ∷ theirs 3 (1 ∷ []) ∷ mine Sync ∷ theirs 4 (2 ∷ []) ∷ mine (Write 0 (7 ∷ [])) ∷ []

all_calls : calls_of events ≡ SetLen 9 ∷ Write 3 (1 ∷ []) ∷ Sync ∷ Write 4 (2 ∷ []) ∷ Write 0 (7 ∷ []) ∷ []
all_calls = refl

our_calls : ours events ≡ SetLen 9 ∷ Sync ∷ Write 0 (7 ∷ []) ∷ []
our_calls = refl

others_before : others (before events) ≡ Write 3 (1 ∷ []) ∷ []
others_before = refl

others_behind : others (behind events) ≡ Write 4 (2 ∷ []) ∷ []
others_behind = refl

-- nothing is before a sync that isn't there
none_before : before (theirs 4 (2 ∷ []) ∷ mine (SetLen 9) ∷ []) ≡ []
none_before = refl

-- four bytes in sectors of two, of which a write covers the middle
abbrev image : List ℕ
image = 1 ∷ 1 ∷ 1 ∷ 1 ∷ []

abbrev calls : List Call
calls = Write 1 (2 ∷ 2 ∷ []) ∷ []

-- a sector that was written beside one that wasn't is as after some of the calls, each by itself
first_after : IsAsAfterSome image calls (1 ∷ 2 ∷ 1 ∷ 1 ∷ []) 0 2
first_after = (calls, ([], refl), refl)

second_before : IsAsAfterSome image calls (1 ∷ 2 ∷ 1 ∷ 1 ∷ []) 2 2
second_before = ([], (calls, refl), refl)

-- a byte that is neither isn't
torn_sector : HasWholeSectors 2 image calls (1 ∷ 3 ∷ 1 ∷ 1 ∷ []) → ⊥
torn_sector whole = by_front (whole 0 (
  zero,
  Write 1 (2 ∷ 2 ∷ []),
  omega arith,
  refl,
  (1, omega arith, omega arith, (omega arith, omega arith)),
)) where
  by_front : IsAsAfterSome image calls (1 ∷ 3 ∷ 1 ∷ 1 ∷ []) 0 2 → ⊥
  by_front ([], front, same) = cc
  by_front (Write at bytes ∷ [], (rest, is), same) =
      let call : Write at bytes ≡ Write 1 (2 ∷ 2 ∷ []) = cc in
      let after : ◌≡◌ {A = List ℕ} (1 ∷ 3 ∷ []) (1 ∷ 2 ∷ []) = same ∙ ap (λ c. bytes_at (all_done image (c ∷ [])) 0 2) call in
      cc
  by_front (Sync ∷ [], (rest, is), same) = cc
  by_front (SetLen len ∷ [], (rest, is), same) = cc
  by_front (call ∷ more ∷ others, (rest, is), same) = cc
