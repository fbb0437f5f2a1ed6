-- Paths with colons between them, as a loop over the bytes comes upon them.
use Rattle.std.proofs.Common.{◌≡◌, ℕ, suc, ◌+◌, ◌<◌, ◌≤◌, List, [], ◌∷◌, Bool, true, false, cond, not, ◌&&◌, ◌||◌, eqb, length, get_or, drop, refl, ap, ◌∙◌, arith, ne_eqb}
use Rattle.std.specs.List.{list_all, onto_first, slice_split}
use Rattle.std.proofs.Math.Seq.{drop-cons}
use Rattle.std.proofs.Math.ListN.{drop_of_length-le}
use Rattle.std.proofs.lemmas.List.Splits.{length-slice_split}

abbrev pub is_colon : ℕ → Bool
is_colon byte = eqb byte 58

abbrev pub has_bytes : List ℕ → Bool
has_bytes path = not (eqb (length path) 0)

-- no path is empty, but the first may be where it is begun already
abbrev pub all_but : Bool → List (List ℕ) → Bool
all_but begun [] = begun
all_but begun (path ∷ paths) = (begun || has_bytes path) && list_all has_bytes paths

and_true : (a : Bool) → (a && true) ≡ a
and_true true = refl
and_true false = refl

or_false : (a : Bool) → (a || false) ≡ a
or_false true = refl
or_false false = refl

or_true : (a : Bool) → (a || true) ≡ true
or_true true = refl
or_true false = refl

pub one_at_least : (xs : List ℕ) → 1 ≤ length (slice_split is_colon xs)
one_at_least xs = omega (arith, length-slice_split is_colon xs)

-- none is begun
pub all_from_first : (paths : List (List ℕ)) → 1 ≤ length paths → list_all has_bytes paths ≡ all_but false paths
all_from_first [] some = absurd (omega arith)
all_from_first (path ∷ paths) some = refl

-- a byte begins the first
begun_by : (begun : Bool) (byte : ℕ) (paths : List (List ℕ)) → 1 ≤ length paths → all_but begun (onto_first byte paths) ≡ all_but true paths
begun_by begun byte [] some = absurd (omega arith)
begun_by begun byte (path ∷ paths) some =
    let long : eqb (length (byte ∷ path)) 0 ≡ false = ne_eqb (length (byte ∷ path)) 0 (λ e. omega (arith, e)) in
    ap (λ b. b && list_all has_bytes paths) (ap (λ b. begun || not b) long ∙ or_true begun)

-- what is left from a place on
abbrev pub left : List ℕ → ℕ → List (List ℕ)
left text i = slice_split is_colon (drop i text)

module _ (text : List ℕ) (i d : ℕ) (within : i < length text) where
  cons : left text i ≡ cond (is_colon (get_or text i d)) ([] ∷ left text (i + 1)) (onto_first (get_or text i d) (left text (i + 1)))
  cons =
      let next : suc i ≡ i + 1 = omega arith in
      ap (slice_split is_colon) (drop-cons text i d within)
      ∙ ap (λ k. cond (is_colon (get_or text i d)) ([] ∷ left text k) (onto_first (get_or text i d) (left text k))) next

  -- a colon ends a path, which has to have bytes
  pub at_colon : (begun : Bool) → eqb (get_or text i d) 58 ≡ true → all_but begun (left text i) ≡ begun && all_but false (left text (i + 1))
  at_colon begun is =
      ap (all_but begun) (cons ∙ ap (λ b. cond b ([] ∷ left text (i + 1)) (onto_first (get_or text i d) (left text (i + 1)))) is)
      ∙ ap (λ b. b && list_all has_bytes (left text (i + 1))) (or_false begun)
      ∙ ap (λ b. begun && b) (all_from_first (left text (i + 1)) (one_at_least (drop (i + 1) text)))

  -- any other byte begins it
  pub at_other : (begun : Bool) → eqb (get_or text i d) 58 ≡ false → all_but begun (left text i) ≡ all_but true (left text (i + 1))
  at_other begun isnt =
      ap (all_but begun) (cons ∙ ap (λ b. cond b ([] ∷ left text (i + 1)) (onto_first (get_or text i d) (left text (i + 1)))) isnt)
      ∙ begun_by begun (get_or text i d) (left text (i + 1)) (one_at_least (drop (i + 1) text))

-- behind the last byte
pub at_end : (text : List ℕ) (i : ℕ) (begun : Bool) → length text ≤ i → all_but begun (left text i) ≡ begun
at_end text i begun past =
    ap (λ xs. all_but begun (slice_split is_colon xs)) (drop_of_length-le text past) ∙ and_true (begun || false) ∙ or_false begun
