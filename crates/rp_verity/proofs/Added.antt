-- What was put by one call and then by another.
use Rattle.std.proofs.Common.{◌≡◌, ℕ, zero, suc, List, [], ◌∷◌, ◌++◌, Option, Some, None, Result, Ok, Err, take, sym, ◌∙◌, ap, append_assoc, append-nil, OnOk, OnErr, IfOk}
use Rattle.rp_verity.specs.Puts.{Added, AddedPart, AddedSome}

pub on_ok : {T E : Type 0} {P Q : Type 0} (r : Result T E) → (P → Q) → OnOk r P → OnOk r Q
on_ok (Ok v) f p = f p
on_ok (Err e) f p = tt

pub on_ok_always : {T E : Type 0} {P : Type 0} (r : Result T E) → P → OnOk r P
on_ok_always (Ok v) p = p
on_ok_always (Err e) p = tt

pub on_err_always : {T E : Type 0} {P : Type 0} (r : Result T E) → P → OnErr r P
on_err_always (Ok v) p = tt
on_err_always (Err e) p = p

pub on_err : {T E : Type 0} {P Q : Type 0} (r : Result T E) → (P → Q) → OnErr r P → OnErr r Q
on_err (Ok v) f p = tt
on_err (Err e) f p = f p

pub if_ok : {T E : Type 0} {P Q : T → Type 0} (r : Result T E) → ((v : T) → P v → Q v) → IfOk r P → IfOk r Q
if_ok (Ok v) f p = f v p
if_ok (Err e) f p = tt

pub added_none : (told : Option (List (ℕ × List ℕ))) → Added told [] told
added_none None = tt
added_none (Some before) = ap Some (sym (append-nil before))

pub added_more : (told mid now : Option (List (ℕ × List ℕ))) (put : ℕ × List ℕ) (puts : List (ℕ × List ℕ))
    → Added told (put ∷ []) mid → Added mid puts now → Added told (put ∷ puts) now
added_more None mid now put puts first rest = tt
added_more (Some before) mid now put puts first rest = rw (first) at rest ∙ ap Some (append_assoc before (put ∷ []) puts)

pub part_more : (told mid now : Option (List (ℕ × List ℕ))) (put : ℕ × List ℕ) (puts : List (ℕ × List ℕ))
    → Added told (put ∷ []) mid → AddedPart mid puts now → AddedPart told (put ∷ puts) now
part_more None mid now put puts first rest = tt
part_more (Some before) mid now put puts first rest =
    let some = rw first at rest in
    (suc some.0, some.1 ∙ ap Some (append_assoc before (put ∷ []) (take some.0 puts)))

first_of : (before : List (ℕ × List ℕ)) (now : Option (List (ℕ × List ℕ))) (put : ℕ × List ℕ) (puts : List (ℕ × List ℕ)) (count : ℕ)
    → now ≡ Some (before ++ take count (put ∷ [])) → AddedSome before (put ∷ puts) now
first_of before now put puts zero e = (zero, e)
first_of before now put puts (suc zero) e = (1, e)
first_of before now put puts (suc (suc count)) e = (1, e)

pub part_first : (told now : Option (List (ℕ × List ℕ))) (put : ℕ × List ℕ) (puts : List (ℕ × List ℕ))
    → AddedPart told (put ∷ []) now → AddedPart told (put ∷ puts) now
part_first None now put puts part = tt
part_first (Some before) now put puts part = first_of before now put puts part.0 part.1
