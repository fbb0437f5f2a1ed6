-- An ordered map from starts to extents holds them as `by_start` has them.
use Rattle.std.proofs.Common.{◌≡◌, ◌≢◌, ℕ, ◌+◌, ◌<◌, List, [], ◌∷◌, length, get_or, take, arith, length-take, refl, ap, sym, ◌∙◌, ltb, nat_cmp, map, fold, All, AllPairs, inl, inr}
use Rattle.std.specs.BTreeMap.{insert_entry}
use Rattle.std.proofs.lemmas.Bool.{cases_lt, lt-ltb, le-ltb, ne_eqb, cond_both}
use Rattle.std.proofs.lemmas.List.Elements.{All-tail, All-cons, All-head, All-nil, All-from_get_or}
use Rattle.std.proofs.lemmas.List.{get_or-take}
use Rattle.std.proofs.lemmas.List.Sums.{fold_more}
use Rattle.rp_areas.specs.declared.extents.Extent.{Extent}
use Rattle.rp_areas.specs.Areas.{insert_extent, by_start}

-- an extent under its start
abbrev pub keyed : Extent → ℕ × Extent
keyed e = (e.start, e)

step : (e : Extent) (es : List Extent) (x : Extent) → e.start ≢ x.start
    → insert_entry nat_cmp (map keyed es) x.start x ≡ map keyed (insert_extent x es)
    → insert_entry nat_cmp (map keyed (e ∷ es)) x.start x ≡ map keyed (insert_extent x (e ∷ es))
step e es x apart rest = elim (cases_lt x.start e.start) [
  | inl h ↦ rw (lt-ltb x.start e.start h) refl
  | inr h ↦ let ne : x.start ≢ e.start = λ q. apart (sym q) in rw (le-ltb x.start e.start h, ne_eqb x.start e.start ne)
      (ap (λ t. keyed e ∷ t) rest)
]

pub insert-keyed : (es : List Extent) (x : Extent) → All (λ (e : Extent). e.start ≢ x.start) es
    → insert_entry nat_cmp (map keyed es) x.start x ≡ map keyed (insert_extent x es)
insert-keyed [] x absent = refl
insert-keyed (e ∷ es) x absent = step e es x (All-head (λ (e : Extent). e.start ≢ x.start) e es absent)
    (insert-keyed es x (All-tail (λ (e : Extent). e.start ≢ x.start) e es absent))

-- what holds of each extent holds of each in order
pub All-insert : (P : Extent → Type 0) (x : Extent) (es : List Extent) → P x → All P es → All P (insert_extent x es)
All-insert P x [] here rest = All-cons P x [] here rest
All-insert P x (e ∷ es) here rest = cond_both (ltb x.start e.start) (x ∷ e ∷ es) (e ∷ insert_extent x es) (All P)
    (λ _. All-cons P x (e ∷ es) here rest)
    (λ _. All-cons P e (insert_extent x es) (All-head P e es rest) (All-insert P x es here (All-tail P e es rest)))

All-insert_each : (P : Extent → Type 0) (sorted es : List Extent) → All P sorted → All P es
    → All P (fold (λ s e. insert_extent e s) sorted es)
All-insert_each P sorted [] before rest = before
All-insert_each P sorted (e ∷ es) before rest = All-insert_each P (insert_extent e sorted) es
    (All-insert P e sorted (All-head P e es rest) before) (All-tail P e es rest)

pub All-by_start : (P : Extent → Type 0) (es : List Extent) → All P es → All P (by_start es)
All-by_start P es each = All-insert_each P [] es (All-nil P) each

-- one more extent in the map
pub insert_more : (m n : List (ℕ × Extent)) (xs : List Extent) (i : ℕ) (d : Extent) → AllPairs (λ (a b : Extent). a.start ≢ b.start) xs
    → i < length xs
    → m ≡ map keyed (by_start (take i xs)) → n ≡ insert_entry nat_cmp m (get_or xs i d).start (get_or xs i d)
    → n ≡ map keyed (by_start (take (i + 1) xs))
insert_more m n xs i d apart below before after =
    let P : Extent → Type 0 = λ (e : Extent). e.start ≢ (get_or xs i d).start in
    let absent : All P (take i xs) = All-from_get_or P (take i xs) d (λ k h.
    let l : k < i = omega (arith, length-take i xs, h) in
    rw get_or-take (apart k i d l below)) in
    after ∙ (rw before (insert-keyed (by_start (take i xs)) (get_or xs i d) (All-by_start P (take i xs) absent)))
    ∙ ap (map keyed) (sym (fold_more (λ s e. insert_extent e s) [] xs i d below))

-- the extents under their starts, without these
pub values-keyed : (es : List Extent) → map (λ (p : ℕ × Extent). p.1) (map keyed es) ≡ es
values-keyed [] = refl
values-keyed (e ∷ es) = ap (λ t. e ∷ t) (values-keyed es)
