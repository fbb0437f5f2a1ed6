-- The n-th row of a type is the one that has n of its type before it.
use Rattle.std.proofs.Common.{◌≡◌, ◌≢◌, ◌↔◌, ℕ, zero, suc, ◌+◌, ◌<◌, Bool, true, false, cond, List, [], ◌∷◌, length, get_or, take, filter, map, slice_get, count_by, Option, Some, None, IfSome, All, AllPairs, arith, refl, ap, sym, ◌∙◌, zero-add, add-zero}
use Rattle.std.specs.List.{enumerate_from}
use Rattle.std.specs.Option.{option_map}
use Rattle.std.proofs.lemmas.Cmp.{nat_list_eq_equiv}
use Rattle.std.proofs.lemmas.List.{take-map}
use Rattle.std.proofs.lemmas.List.Folds.{fold-map}
use Rattle.std.proofs.lemmas.List.Sums.{sum_by-cons}
use Rattle.rp_base.specs.declared.guid.Guid.{Guid}
use Rattle.rp_base.specs.declared.table.Row.{Row}
use Rattle.std.proofs.lemmas.Option.{slice_get_within}
use Rattle.rp_areas.proofs.Places.{length-map-enumerate, read_at}
use Rattle.rp_areas.proofs.Ranks.{same_kind}
use Rattle.rp_areas.specs.Matching.{IsMatched, is_kind, match_of, matches_of, rank_of, rows_of}

-- the elements that pass, with their places from n on
abbrev pub passing : {X : Type 0} → (X → Bool) → ℕ → List X → List (ℕ × X)
passing p n xs = filter (λ e. p e.1) (enumerate_from n xs)

-- an element that passes, so many of which stand before it
pub record IsNth {X : Type 0} (p : X → Bool) (n : ℕ) (xs : List X) (rank place : ℕ) (x : X) : Type 0 where
  pub at : ℕ
  pub place_is : place ≡ n + at
  pub element : slice_get xs at ≡ Some x
  pub passes : p x ≡ true
  pub before : count_by p (take at xs) ≡ rank

later : {X : Type 0} (p : X → Bool) (n : ℕ) (y : X) (ys : List X) (rank place : ℕ) (x : X) (c all : ℕ) → cond (p y) 1 0 ≡ c
    → all ≡ c + rank → IsNth p (n + 1) ys rank place x → IsNth p n (y ∷ ys) all place x
later p n y ys rank place x c all one sum nth = record {
  at = suc nth.at;
  place_is = omega (arith, nth.place_is);
  element = nth.element;
  passes = nth.passes;
  before = sum_by-cons (λ z. cond (p z) 1 0) y (take nth.at ys) ∙ omega (arith, one, nth.before, sum);
}

nth_step : {X : Type 0} (p : X → Bool) (n : ℕ) (y : X) (ys : List X) (rank place : ℕ) (x : X) (b : Bool) → p y ≡ b
    → ((r : ℕ) → slice_get (passing p (n + 1) ys) r ≡ Some (place, x) → IsNth p (n + 1) ys r place x)
    → slice_get (cond b ((n, y) ∷ passing p (n + 1) ys) (passing p (n + 1) ys)) rank ≡ Some (place, x) → IsNth p n (y ∷ ys) rank place x
nth_step {X = X} p n y ys zero place x true is rest h =
    let e : ◌≡◌ {A = Option (ℕ × X)} (Some (n, y)) (Some (place, x)) = h in
    let both : ◌≡◌ {A = ℕ × X} (n, y) (place, x) = cc in
    let here : n ≡ place = ap (λ q. q.0) both in
    let same : y ≡ x = ap (λ q. q.1) both in
    record { at = 0; place_is = omega (arith, here); element = ap (λ z. Some z) same; passes = sym (ap p same) ∙ is; before = refl }
nth_step p n y ys (suc r) place x true is rest h = later p n y ys r place x 1 (suc r) (ap (λ b. cond b 1 0) is) (omega arith) (rest r h)
nth_step p n y ys rank place x false is rest h = later p n y ys rank place x 0 rank (ap (λ b. cond b 1 0) is) (omega arith) (rest rank h)

nth_from : {X : Type 0} (p : X → Bool) (n : ℕ) (xs : List X) (rank place : ℕ) (x : X) → slice_get (passing p n xs) rank ≡ Some (place, x)
    → IsNth p n xs rank place x
nth_from p n [] rank place x h = absurd (let k : None ≡ Some (place, x) = h in cc)
nth_from p n (y ∷ ys) rank place x h = nth_step p n y ys rank place x (p y) refl (λ r. nth_from p (n + 1) ys r place x) h

past_one : {X : Type 0} (b : Bool) (e : X) (rest : List X) (c : ℕ) → slice_get (cond b (e ∷ rest) rest) (cond b 1 0 + c) ≡ slice_get rest c
past_one true e rest c = let s : 1 + c ≡ suc c = omega arith in ap (slice_get (e ∷ rest)) s
past_one false e rest c = ap (slice_get rest) (zero-add c)

nth_at : {X : Type 0} (p : X → Bool) (n : ℕ) (xs : List X) (k : ℕ) (x : X) → slice_get xs k ≡ Some x → p x ≡ true
    → slice_get (passing p n xs) (count_by p (take k xs)) ≡ Some (n + k, x)
nth_at p n [] k x h passes = absurd (let e : None ≡ Some x = h in cc)
nth_at p n (y ∷ ys) zero x h passes =
    let e : Some y ≡ Some x = h in
    let same : y ≡ x = cc in
    ap (λ b. slice_get (cond b ((n, y) ∷ passing p (n + 1) ys) (passing p (n + 1) ys)) 0) (ap p same ∙ passes)
    ∙ ap (λ z. Some (n, z)) same ∙ ap (λ m. Some (m, x)) (sym (add-zero n))
nth_at p n (y ∷ ys) (suc k) x h passes =
    let s : n + 1 + k ≡ n + suc k = omega arith in
    ap (slice_get (passing p n (y ∷ ys))) (sum_by-cons (λ z. cond (p z) 1 0) y (take k ys))
    ∙ past_one (p y) (n, y) (passing p (n + 1) ys) (count_by p (take k ys)) ∙ nth_at p (n + 1) ys k x h passes ∙ ap (λ m. Some (m, x)) s

pub slice_get-map-enumerate : {X Y : Type 0} (f : ℕ × X → Y) (n : ℕ) (xs : List X) (k : ℕ)
    → slice_get (map f (enumerate_from n xs)) k ≡ option_map (λ x. f (n + k, x)) (slice_get xs k)
slice_get-map-enumerate f n [] k = refl
slice_get-map-enumerate f n (x ∷ xs) zero = ap (λ m. Some (f (m, x))) (sym (add-zero n))
slice_get-map-enumerate f n (x ∷ xs) (suc k) =
    let s : n + 1 + k ≡ n + suc k = omega arith in
    slice_get-map-enumerate f (n + 1) xs k ∙ ap (λ m. option_map (λ y. f (m, y)) (slice_get xs k)) s

-- the types of rows count as the rows do
pub rank-rows : (rows : List Row) (place : ℕ) (kind : Guid) → rank_of (map (λ (r : Row). r.kind) rows) place kind ≡ count_by
    (λ (r : Row). is_kind r.kind kind) (take place rows)
rank-rows rows place kind = ap (count_by (λ k. is_kind k kind)) (take-map (λ (r : Row). r.kind) place rows)
    ∙ fold-map (λ a k. a + cond (is_kind k kind) 1 0) (λ (r : Row). r.kind) 0 (take place rows)

pub own_kind : (kind : Guid) → is_kind kind kind ≡ true
own_kind kind = nat_list_eq_equiv.refl kind.0

from_row : (rows : List Row) (kinds : List Guid) (file place : ℕ) (kind : Guid) (o : Option (ℕ × Row)) → slice_get kinds file ≡ Some kind
    → slice_get (rows_of rows kind) (rank_of kinds file kind) ≡ o → option_map (λ (r : ℕ × Row). r.0) o ≡ Some place
    → IsMatched rows kinds file place
from_row rows kinds file place kind None definition is h = absurd (let e : None ≡ Some place = h in cc)
from_row rows kinds file place kind (Some r) definition is h =
    let e : Some r.0 ≡ Some place = h in
    let same : r.0 ≡ place = cc in
    let nth = nth_from (λ (row : Row). is_kind row.kind kind) 0 rows (rank_of kinds file kind) r.0 r.1 is in
    let at : nth.at ≡ place = omega (arith, nth.place_is, same) in
    record {
      kind = kind;
      row = r.1;
      definition = definition;
      found = rw at at nth.element;
      same_kind = same_kind r.1.kind kind nth.passes;
      same_rank = rank-rows rows place kind ∙ (rw at at nth.before);
    }

from_match : (rows : List Row) (kinds : List Guid) (file place : ℕ) (o : Option Guid) → slice_get kinds file ≡ o
    → option_map (λ kind. match_of rows kinds (0 + file, kind)) o ≡ Some (Some place)
    → IsMatched rows kinds file place
from_match rows kinds file place None is h = absurd (let e : None ≡ Some (Some place) = h in cc)
from_match rows kinds file place (Some kind) is h =
    let e : Some (match_of rows kinds (0 + file, kind)) ≡ Some (Some place) = h in
    let m : match_of rows kinds (0 + file, kind) ≡ Some place = cc in
    from_row rows kinds file place kind (slice_get (rows_of rows kind) (rank_of kinds file kind)) is refl
    (sym (ap (λ n. match_of rows kinds (n, kind)) (zero-add file)) ∙ m)

to_match : (rows : List Row) (kinds : List Guid) (file place : ℕ) → IsMatched rows kinds file place
    → slice_get (matches_of rows kinds) file ≡ Some (Some place)
to_match rows kinds file place matched =
    let nth : slice_get (rows_of rows matched.kind) (count_by (λ (r : Row). is_kind r.kind matched.kind) (take place rows)) ≡ Some
    (0 + place, matched.row) =
    nth_at (λ (row : Row). is_kind row.kind matched.kind) 0 rows place matched.row matched.found
    (ap (λ k. is_kind k matched.kind) matched.same_kind ∙ own_kind matched.kind) in
    let rank : count_by (λ (r : Row). is_kind r.kind matched.kind) (take place rows) ≡ rank_of kinds file matched.kind = sym
    (rank-rows rows place matched.kind) ∙ matched.same_rank in
    slice_get-map-enumerate (match_of rows kinds) 0 kinds file ∙ ap (option_map (λ kind. match_of rows kinds (0 + file, kind)))
    matched.definition
    ∙ ap (λ n. Some (match_of rows kinds (n, matched.kind))) (zero-add file)
    ∙ ap (λ o. Some (option_map (λ (r : ℕ × Row). r.0) o)) (ap (slice_get (rows_of rows matched.kind)) (sym rank) ∙ nth)
    ∙ ap (λ n. Some (Some n)) (zero-add place)

pub matched_both : (rows : List Row) (kinds : List Guid) (file place : ℕ)
    → (slice_get (matches_of rows kinds) file ≡ Some (Some place)) ↔ IsMatched rows kinds file place
matched_both rows kinds file place = (
  (λ h. from_match rows kinds file place (slice_get kinds file) refl
      (sym (slice_get-map-enumerate (match_of rows kinds) 0 kinds file) ∙ h)),
  to_match rows kinds file place,
)

-- a definition's row is among the rows
match_at : (rows : List Row) (kinds : List Guid) (k : ℕ) (o : Option ℕ) → slice_get (matches_of rows kinds) k ≡ Some o
    → IfSome o (λ p. p < length rows)
match_at rows kinds k None is = tt
match_at rows kinds k (Some p) is = slice_get_within rows p ((matched_both rows kinds k p).0 is).row
    ((matched_both rows kinds k p).0 is).found

pub matched_places : (rows : List Row) (kinds : List Guid) → All (λ o. IfSome o (λ p. p < length rows)) (matches_of rows kinds)
matched_places rows kinds k d below = match_at rows kinds k (get_or (matches_of rows kinds) k d)
    (read_at (matches_of rows kinds) k d (get_or (matches_of rows kinds) k d) below refl)

count_rises : {X : Type 0} (p : X → Bool) (xs : List X) (i j : ℕ) (x : X) → slice_get xs i ≡ Some x → p x ≡ true → i < j
    → count_by p (take i xs) < count_by p (take j xs)
count_rises p [] i j x is passes less = absurd (let e : None ≡ Some x = is in cc)
count_rises p (y ∷ ys) i zero x is passes less = absurd (omega (arith, less))
count_rises p (y ∷ ys) zero (suc j) x is passes less =
    let e : Some y ≡ Some x = is in
    let same : y ≡ x = cc in
    let one : ◌≡◌ {A = ℕ} (cond (p y) 1 0) 1 = ap (λ b. cond b 1 0) (ap p same ∙ passes) in
    omega (arith, one, sum_by-cons (λ z. cond (p z) 1 0) y (take j ys))
count_rises p (y ∷ ys) (suc i) (suc j) x is passes less =
    omega (
      arith,
      count_rises p ys i j x is passes (omega (arith, less)),
      sum_by-cons (λ z. cond (p z) 1 0) y (take i ys),
      sum_by-cons
          (λ z. cond (p z) 1 0) y (take j ys),
    )

-- no two definitions have one row
one_row : (rows : List Row) (kinds : List Guid) (i j p : ℕ) → i < j → IsMatched rows kinds i p → IsMatched rows kinds j p → ⊥
one_row rows kinds i j p less a b =
    let e : Some a.row ≡ Some b.row = sym a.found ∙ b.found in
    let row : a.row ≡ b.row = cc in
    let kind : a.kind ≡ b.kind = sym a.same_kind ∙ ap (λ (r : Row). r.kind) row ∙ b.same_kind in
    let rise : rank_of kinds i a.kind < rank_of kinds j a.kind = count_rises (λ k. is_kind k a.kind) kinds i j a.kind a.definition
    (own_kind a.kind) less in
    let same : rank_of kinds i a.kind ≡ rank_of kinds j a.kind = sym a.same_rank ∙ ap (rank_of (map (λ (r : Row). r.kind) rows) p) kind
    ∙ b.same_rank ∙ ap (rank_of kinds j) (sym kind) in
    omega (arith, rise, same)

match_differs : (rows : List Row) (kinds : List Guid) (i j : ℕ) (a b : Option ℕ) → i < j → slice_get (matches_of rows kinds) i ≡ Some a
    → slice_get (matches_of rows kinds) j ≡ Some b → IfSome a (λ p. b ≢ Some p)
match_differs rows kinds i j None b less at next = tt
match_differs rows kinds i j (Some p) b less at next = λ same. one_row rows kinds i j p less ((matched_both rows kinds i p).0 at)
    ((matched_both rows kinds j p).0 (next ∙ ap (λ o. Some o) same))

pub matched_distinct : (rows : List Row) (kinds : List Guid) → AllPairs (λ a b. IfSome a (λ p. b ≢ Some p)) (matches_of rows kinds)
matched_distinct rows kinds i j d less below =
    match_differs rows kinds i j (get_or (matches_of rows kinds) i d) (get_or (matches_of rows kinds) j d) less
    (read_at (matches_of rows kinds) i d (get_or (matches_of rows kinds) i d) (omega (arith, less, below)) refl)
    (read_at (matches_of rows kinds) j d (get_or (matches_of rows kinds) j d) below refl)

pub matched_len : (rows : List Row) (kinds : List Guid) → length (matches_of rows kinds) ≡ length kinds
matched_len rows kinds = length-map-enumerate (match_of rows kinds) kinds
