-- The steps of a search and of a walk over a list with places.
use Rattle.std.proofs.Common.{◌≡◌, ◌∙◌, ℕ, ◌+◌, ◌<◌, ◌≤◌, Bool, true, false, List, ◌++◌, Option, length, get_or, drop, ap, sym}
use Rattle.std.specs.Prelude.{◌||◌}
use Rattle.std.specs.List.{enumerate_from, filter_map, list_any}
use Rattle.std.specs.Option.{option_to_list}
use Rattle.std.proofs.lemmas.List.{drop_all, drop_more, get_or_default}
use Rattle.rp_sizes.proofs.Walks.{answers_more}

-- the head of what is left
opened : {X : Type 0} (f : ℕ × X → Bool) (xs : List X) (i : ℕ) (x : X) (b : Bool) → i < length xs → x ≡ get_or xs i x → f (i, x) ≡ b
    → (b || list_any f (enumerate_from (i + 1) (drop (i + 1) xs))) ≡ list_any f (enumerate_from i (drop i xs))
opened f xs i x b below at is =
    let rest = list_any f (enumerate_from (i + 1) (drop (i + 1) xs)) in
    ap (λ c. c || rest) (sym is ∙ ap (λ y. f (i, y)) at)
    ∙ ap (λ ys. list_any f (enumerate_from i ys)) (sym (drop_more xs i x below))

-- one that isn't it is passed
pub any_past : {X : Type 0} (f : ℕ × X → Bool) (xs : List X) (i : ℕ) (x : X) (whole : Bool) → i < length xs → x ≡ get_or xs i x
    → f (i, x) ≡ false → list_any f (enumerate_from i (drop i xs)) ≡ whole
    → list_any f (enumerate_from (i + 1) (drop (i + 1) xs)) ≡ whole
any_past f xs i x whole below at none is = opened f xs i x false below at none ∙ is

-- one is found
pub any_here : {X : Type 0} (f : ℕ × X → Bool) (xs : List X) (i : ℕ) (x : X) (whole : Bool) → i < length xs → x ≡ get_or xs i x
    → f (i, x) ≡ true → list_any f (enumerate_from i (drop i xs)) ≡ whole → true ≡ whole
any_here f xs i x whole below at some is = opened f xs i x true below at some ∙ is

-- none is
pub any_none : {X : Type 0} (f : ℕ × X → Bool) (xs : List X) (i : ℕ) (whole : Bool) → length xs ≤ i
    → list_any f (enumerate_from i (drop i xs)) ≡ whole → false ≡ whole
any_none f xs i whole all is = ap (λ ys. list_any f (enumerate_from i ys)) (sym (drop_all i xs all)) ∙ is

-- one more answer, if there is one, for an item that is copied
pub copied_more : {X Y : Type 0} (f : ℕ × X → Option Y) (out now : List Y) (xs : List X) (i : ℕ) (d : X) (o : Option Y) (whole : List Y)
    → i < length xs → o ≡ f (i, get_or xs i d) → now ≡ out ++ option_to_list o
    → out ++ filter_map f (enumerate_from i (drop i xs)) ≡ whole → now ++ filter_map f (enumerate_from (i + 1) (drop (i + 1) xs)) ≡ whole
copied_more f out now xs i d o whole below answer pushed is =
    answers_more f out now xs i (get_or xs i d) o whole below (get_or_default xs i d (get_or xs i d) below) answer pushed is
