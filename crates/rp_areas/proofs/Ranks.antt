-- The steps of the loops that count rows and definitions by their types.
use Rattle.std.proofs.Common.{◌≡◌, ℕ, ◌+◌, ◌<◌, ◌≤◌, Bool, true, false, cond, ◌&&◌, nat_eq, List, [], ◌∷◌, ◌++◌, length, get_or, take, filter, Option, Some, slice_get, suc, zero, arith, append-nil, length-append, length-take, refl, ap, sym, ◌∙◌, inl, inr, zero-add}
use Rattle.std.specs.List.{enumerate_from}
use Rattle.std.specs.Option.{option_map}
use Rattle.std.specs.Cmp.Lexicographic.{same_text}
use Rattle.std.proofs.Math.Dec.{eqb-suc-zero, eqb-zero-suc, eqb-suc-suc}
use Rattle.std.proofs.lemmas.Bool.{cases_Bool}
use Rattle.std.proofs.lemmas.List.{take_all}
use Rattle.std.proofs.lemmas.List.Elements.{filter_more}
use Rattle.std.proofs.lemmas.List.Sums.{length-filter, count_by-le-length}
use Rattle.std.proofs.lemmas.List.FromFn.{get_or-enumerate_from, length-enumerate_from}
use Rattle.rp_base.specs.declared.guid.Guid.{Guid}
use Rattle.rp_base.specs.declared.table.Row.{Row}
use Rattle.rp_areas.specs.Matching.{is_kind, rows_of}

-- the rows of a type among the first, with their places
abbrev pub first_of : List Row → ℕ → Guid → List (ℕ × Row)
first_of rows n kind = filter (λ e. is_kind e.1.kind kind) (take n (enumerate_from 0 rows))

pub first_more : (rows : List Row) (i : ℕ) (d : Row) (kind : Guid) → i < length rows
    → first_of rows (i + 1) kind ≡ first_of rows i kind ++ cond (is_kind (get_or rows i d).kind kind) ((i, get_or rows i d) ∷ []) []
first_more rows i d kind below =
    let l : i < length (enumerate_from 0 rows) = rw length-enumerate_from below in
    let e : get_or (enumerate_from 0 rows) i (0, d) ≡ (i, get_or rows i d) = get_or-enumerate_from 0 rows i (0, d) below
    ∙ ap (λ n. (n, get_or rows i d)) (zero-add i) in
    filter_more (λ e. is_kind e.1.kind kind) (enumerate_from 0 rows) i (0, d) l
    ∙ ap (λ e. first_of rows i kind ++ cond (is_kind e.1.kind kind) (e ∷ []) []) e

slice_get-push : {X : Type 0} (xs : List X) (x : X) (n : ℕ) → slice_get (xs ++ x ∷ []) n ≡ cond (nat_eq (length xs) n) (Some x)
    (slice_get xs n)
slice_get-push [] x zero = refl
slice_get-push [] x (suc n) = rw eqb-zero-suc refl
slice_get-push (y ∷ ys) x zero = rw eqb-suc-zero refl
slice_get-push (y ∷ ys) x (suc n) = rw eqb-suc-suc (slice_get-push ys x n)

pub same_kind : (a b : Guid) → is_kind a b ≡ true → a ≡ b
same_kind a b h = let guid : List ℕ → Guid = λ bytes. record { 0 = bytes } in ap guid (same_text a.0 b.0 (sym h))

option_map-cond : {X Y : Type 0} (f : X → Y) (b : Bool) (x : X) (o : Option X)
    → cond b (Some (f x)) (option_map f o) ≡ option_map f (cond b (Some x) o)
option_map-cond f true x o = refl
option_map-cond f false x o = refl

-- the place of one more row goes under its type and the count so far
pub place_more : (rows : List Row) (i : ℕ) (d : Row) (kind : Guid) (rank r : ℕ) (old new : Option ℕ) → i < length rows
    → r ≡ length (first_of rows i (get_or rows i d).kind)
    → old ≡ option_map (λ p. p.0) (slice_get (first_of rows i kind) rank)
    → new ≡ cond (is_kind (get_or rows i d).kind kind && nat_eq r rank) (Some i) old
    → new ≡ option_map (λ p. p.0) (slice_get (first_of rows (i + 1) kind) rank)
place_more rows i d kind rank r old new below seen before after = elim (cases_Bool (is_kind (get_or rows i d).kind kind)) [
  | inl h ↦
      let s : r ≡ length (first_of rows i kind) = seen ∙ ap (λ q. length (first_of rows i q)) (same_kind (get_or rows i d).kind kind h) in
      let e : first_of rows (i + 1) kind ≡ first_of rows i kind ++ (i, get_or rows i d) ∷ [] =
      first_more rows i d kind below ∙ ap (λ b. first_of rows i kind ++ cond b ((i, get_or rows i d) ∷ []) []) h in
      let g : slice_get (first_of rows (i + 1) kind) rank ≡ cond (nat_eq r rank) (Some (i, get_or rows i d))
      (slice_get (first_of rows i kind) rank) =
      ap (λ ps. slice_get ps rank) e ∙ slice_get-push (first_of rows i kind) (i, get_or rows i d) rank
      ∙ ap (λ n. cond (nat_eq n rank) (Some (i, get_or rows i d)) (slice_get (first_of rows i kind) rank)) (sym s) in
      after ∙ ap (λ b. cond (b && nat_eq r rank) (Some i) old) h ∙ ap (λ o. cond (nat_eq r rank) (Some i) o) before
      ∙ option_map-cond (λ (p : ℕ × Row). p.0) (nat_eq r rank) (i, get_or rows i d) (slice_get (first_of rows i kind) rank)
      ∙ ap (option_map (λ (p : ℕ × Row). p.0)) (sym g)
  | inr h ↦
      let e : first_of rows (i + 1) kind ≡ first_of rows i kind =
      first_more rows i d kind below ∙ ap (λ b. first_of rows i kind ++ cond b ((i, get_or rows i d) ∷ []) []) h
      ∙ append-nil (first_of rows i kind) in
      after ∙ ap (λ b. cond (b && nat_eq r rank) (Some i) old) h ∙ before
      ∙ ap (λ ps. option_map (λ (p : ℕ × Row). p.0) (slice_get ps rank)) (sym e)
]

length-cond : {X : Type 0} (b : Bool) (x : X) → length (cond b (x ∷ []) []) ≡ cond b 1 0
length-cond true x = refl
length-cond false x = refl

-- one more row is counted under its type
pub length-first_more : (rows : List Row) (i : ℕ) (d : Row) (kind : Guid) → i < length rows
    → length (first_of rows (i + 1) kind) ≡ length (first_of rows i kind) + cond (is_kind (get_or rows i d).kind kind) 1 0
length-first_more rows i d kind below = ap length (first_more rows i d kind below)
    ∙ length-append (first_of rows i kind) (cond (is_kind (get_or rows i d).kind kind) ((i, get_or rows i d) ∷ []) [])
    ∙ ap (λ n. length (first_of rows i kind) + n) (length-cond (is_kind (get_or rows i d).kind kind) (i, get_or rows i d))

pub length-first_of : (rows : List Row) (n : ℕ) (kind : Guid) → length (first_of rows n kind) ≤ length rows
length-first_of rows n kind = omega (
  arith,
  length-filter (λ (e : ℕ × Row). is_kind e.1.kind kind) (take n (enumerate_from 0 rows)),
  count_by-le-length (λ (e : ℕ × Row). is_kind e.1.kind kind) (take n (enumerate_from 0 rows)),
  length-take n (enumerate_from 0 rows),
  length-enumerate_from 0 rows,
)

-- all rows of a type
pub first_all : (rows : List Row) (n : ℕ) (kind : Guid) → length rows ≤ n → first_of rows n kind ≡ rows_of rows kind
first_all rows n kind all = ap (filter (λ (e : ℕ × Row). is_kind e.1.kind kind))
    (take_all n (enumerate_from 0 rows) (rw length-enumerate_from all))
