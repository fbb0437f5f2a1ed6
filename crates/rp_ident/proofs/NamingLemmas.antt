-- Steps of naming, one after another.
use Rattle.std.proofs.Common.{◌≡◌, ℕ, zero, suc, ◌<◌, ◌+◌, ◌-◌, List, [], ◌∷◌, length, get_or, set, drop, map, refl, ap, arith}
use Rattle.std.specs.Prelude.{Bool, true, false, Some, Result, Ok, Err, find}
use Rattle.std.specs.List.{range_with_len}
use Rattle.std.proofs.lemmas.List.{take_at}
use Rattle.rp_base.specs.List.{rewritten}
use Rattle.rp_base.specs.declared.guid.Guid.{Guid}
use Rattle.rp_base.specs.declared.table.Row.{Row}
use Rattle.rp_ident.specs.declared.naming.Naming.{Naming}
use Rattle.rp_ident.specs.declared.fault.IdentFault.{IdentFault}
use Rattle.rp_ident.specs.Naming.{changed, in_turn, leaves}

-- the row at a place changed, as a write
pub changed-set : (f : Row → Row) (rows : List Row) (place : ℕ) (d : Row) → place < length rows
    → set rows place (f (get_or rows place d)) ≡ changed f rows place
unfolding changed
changed-set f [] place d below = absurd (omega arith)
changed-set f (r ∷ rows) zero d below = refl
changed-set f (r ∷ rows) (suc place) d below = ap (λ (rest : List Row). r ∷ rest) (changed-set f rows place d (omega arith))

pub in_turn-next : (step : List Row → Naming → Result (List Row) IdentFault) (rows : List Row) (naming : Naming) (namings : List Naming)
    (after : List Row) → Ok after ≡ step rows naming → in_turn step rows (naming ∷ namings) ≡ in_turn step after namings
unfolding in_turn
in_turn-next step rows naming namings after done = rw (← done) refl

pub in_turn-fault : {A : Type 0} (step : List Row → Naming → Result (List Row) IdentFault) (rows : List Row) (naming : Naming)
    (namings : List Naming) (fault : IdentFault) (result : Result A IdentFault) (left : List Row) → Err fault ≡ step rows naming
    → result ≡ Err fault → leaves result left ≡ in_turn step rows (naming ∷ namings)
unfolding in_turn
in_turn-fault step rows naming namings fault result left failed is = rw (is, ← failed) refl

pub in_turn-none : (step : List Row → Naming → Result (List Row) IdentFault) (rows : List Row) → in_turn step rows [] ≡ Ok rows
unfolding in_turn
in_turn-none step rows = refl

-- what was written through a whole loan
pub rewritten-whole : (old items : List Row) → length items ≡ length old → rewritten old items ≡ items
rewritten-whole old items long = take_at items (drop (length items) old) (length old) long

-- one candidate fewer
pub find-next : (p : Guid → Bool) (f : ℕ → Guid) (k n : ℕ) → k < n → p (f k) ≡ false
    → find p (map f (range_with_len k (n - k))) ≡ find p (map f (range_with_len (k + 1) (n - (k + 1))))
find-next p f k n below fails =
    let count : n - k ≡ suc (n - (k + 1)) = omega arith in
    rw (count) (rw fails refl)

pub find-here : (p : Guid → Bool) (f : ℕ → Guid) (k n : ℕ) → k < n → p (f k) ≡ true
    → find p (map f (range_with_len k (n - k))) ≡ Some (f k)
find-here p f k n below passes =
    let count : n - k ≡ suc (n - (k + 1)) = omega arith in
    rw (count) (rw passes refl)
