-- The root hash of the first pair, row by row.
use Rattle.std.proofs.Common.{◌≡◌, ℕ, suc, ◌+◌, ◌<◌, ◌≤◌, List, length, drop, get_or, Option, None, true, false, add-one, drop-cons, refl}
use Rattle.std.specs.Prelude.{is_some}
use Rattle.std.proofs.Math.ListN.{drop_of_length-le}
use Rattle.rp_base.specs.declared.plan.Note.{Note}
use Rattle.rp_base.specs.declared.plan.Role.{Role}
use Rattle.rp_base.specs.declared.plan.Role.TheVariants.{Plain, Data, Hash}
use Rattle.rp_make_command.specs.Summary.{or_root, root_in}

has : (later : Option (List ℕ)) (role : Role) → is_some (or_root None role) ≡ true → or_root later role ≡ or_root None role
has later Plain is = absurd (cc)
has later (Data partner root) is = absurd (cc)
has later (Hash partner blocks salt uuid root) is = refl

hasnt : (later : Option (List ℕ)) (role : Role) → is_some (or_root None role) ≡ false → or_root later role ≡ later
hasnt later Plain is = refl
hasnt later (Data partner root) is = refl
hasnt later (Hash partner blocks salt uuid root) is = absurd (cc)

-- the one at an index
pub root_here : (notes : List Note) (i : ℕ) (d : Note) → i < length notes → is_some (or_root None (get_or notes i d).role) ≡ true
    → root_in (drop i notes) ≡ or_root None (get_or notes i d).role
root_here notes i d below is = rw (drop-cons notes i d below) (has (root_in (drop (suc i) notes)) (get_or notes i d).role is)

-- one behind it
pub root_later : (notes : List Note) (i : ℕ) (d : Note) → i < length notes → is_some (or_root None (get_or notes i d).role) ≡ false
    → root_in (drop i notes) ≡ root_in (drop (i + 1) notes)
root_later notes i d below is =
    rw (drop-cons notes i d below, add-one) (hasnt (root_in (drop (suc i) notes)) (get_or notes i d).role is)

-- none is left
pub root_end : (notes : List Note) (i : ℕ) → length notes ≤ i → root_in (drop i notes) ≡ None
root_end notes i past = rw (drop_of_length-le notes past) refl
