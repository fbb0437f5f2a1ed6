-- The steps of walks over a list with places.
use Rattle.std.proofs.Common.{◌≡◌, ℕ, ◌+◌, ◌<◌, ◌≤◌, List, [], ◌∷◌, ◌++◌, length, get_or, drop, map, Option, Some, None, ap, sym, ◌∙◌, append_assoc}
use Rattle.std.specs.List.{cons_option, enumerate_from, filter_map}
use Rattle.std.specs.Option.{option_or, option_to_list}
use Rattle.std.proofs.lemmas.List.{append-nil, drop_all, drop_more}
use Rattle.rp_sizes.specs.Sizes.{first_of}

push_cons : {Y : Type 0} (out : List Y) (o : Option Y) (rest : List Y) → (out ++ option_to_list o) ++ rest ≡ out ++ cons_option o rest
push_cons out None rest = append_assoc out [] rest
push_cons out (Some y) rest = append_assoc out (y ∷ []) rest

-- one more answer, if there is one
pub answers_more : {X Y : Type 0} (f : ℕ × X → Option Y) (out now : List Y) (xs : List X) (i : ℕ) (x : X) (o : Option Y) (whole : List Y)
    → i < length xs → x ≡ get_or xs i x → o ≡ f (i, x) → now ≡ out ++ option_to_list o
    → out ++ filter_map f (enumerate_from i (drop i xs)) ≡ whole → now ++ filter_map f (enumerate_from (i + 1) (drop (i + 1) xs)) ≡ whole
answers_more f out now xs i x o whole below at answer pushed is =
    let rest = filter_map f (enumerate_from (i + 1) (drop (i + 1) xs)) in
    ap (λ n. n ++ rest) pushed ∙ push_cons out o rest ∙ ap (λ (o : Option _). out ++ cons_option o rest) answer
    ∙ ap (λ y. out ++ cons_option (f (i, y)) rest) at
    ∙ ap (λ ys. out ++ filter_map f (enumerate_from i ys)) (sym (drop_more xs i x below)) ∙ is

-- all have come
pub answers_all : {X Y : Type 0} (f : ℕ × X → Option Y) (out : List Y) (xs : List X) (i : ℕ) (whole : List Y) → length xs ≤ i
    → out ++ filter_map f (enumerate_from i (drop i xs)) ≡ whole → out ≡ whole
answers_all f out xs i whole all is = sym (append-nil out) ∙ ap (λ ys. out ++ filter_map f (enumerate_from i ys)) (sym (drop_all i xs all)) ∙ is

-- one more item
pub items_more : {X Y : Type 0} (f : ℕ × X → Y) (out now : List Y) (xs : List X) (i : ℕ) (x : X) (y : Y) (whole : List Y)
    → i < length xs → x ≡ get_or xs i x → y ≡ f (i, x) → now ≡ out ++ y ∷ []
    → out ++ map f (enumerate_from i (drop i xs)) ≡ whole → now ++ map f (enumerate_from (i + 1) (drop (i + 1) xs)) ≡ whole
items_more f out now xs i x y whole below at item pushed is =
    let rest = map f (enumerate_from (i + 1) (drop (i + 1) xs)) in
    ap (λ n. n ++ rest) pushed ∙ append_assoc out (y ∷ []) rest ∙ ap (λ z. out ++ z ∷ rest) (item ∙ ap (λ z. f (i, z)) at)
    ∙ ap (λ ys. out ++ map f (enumerate_from i ys)) (sym (drop_more xs i x below)) ∙ is

-- the same where the item is copied
pub copies_more : {X Y : Type 0} (f : ℕ × X → Y) (out now : List Y) (xs : List X) (i : ℕ) (d : X) (y : Y) (whole : List Y)
    → i < length xs → y ≡ f (i, get_or xs i d) → now ≡ out ++ y ∷ []
    → out ++ map f (enumerate_from i (drop i xs)) ≡ whole → now ++ map f (enumerate_from (i + 1) (drop (i + 1) xs)) ≡ whole
copies_more f out now xs i d y whole below item pushed is =
    let rest = map f (enumerate_from (i + 1) (drop (i + 1) xs)) in
    ap (λ n. n ++ rest) pushed ∙ append_assoc out (y ∷ []) rest ∙ ap (λ z. out ++ z ∷ rest) item
    ∙ ap (λ ys. out ++ map f (enumerate_from i ys)) (sym (drop_more xs i d below)) ∙ is

pub items_all : {X Y : Type 0} (f : ℕ × X → Y) (out : List Y) (xs : List X) (i : ℕ) (whole : List Y) → length xs ≤ i
    → out ++ map f (enumerate_from i (drop i xs)) ≡ whole → out ≡ whole
items_all f out xs i whole all is = sym (append-nil out) ∙ ap (λ ys. out ++ map f (enumerate_from i ys)) (sym (drop_all i xs all)) ∙ is

-- an item without an answer is passed
pub first_past : {X Y : Type 0} (f : ℕ × X → Option Y) (xs : List X) (i : ℕ) (x : X) (whole : Option Y) → i < length xs → x ≡ get_or xs i x
    → f (i, x) ≡ None → first_of f (enumerate_from i (drop i xs)) ≡ whole → first_of f (enumerate_from (i + 1) (drop (i + 1) xs)) ≡ whole
first_past f xs i x whole below at none is =
    let rest = first_of f (enumerate_from (i + 1) (drop (i + 1) xs)) in
    ap (λ o. option_or o rest) (sym none ∙ ap (λ y. f (i, y)) at)
    ∙ ap (λ ys. first_of f (enumerate_from i ys)) (sym (drop_more xs i x below)) ∙ is

-- the first answer
pub first_here : {X Y : Type 0} (f : ℕ × X → Option Y) (xs : List X) (i : ℕ) (x : X) (y : Y) (whole : Option Y) → i < length xs
    → x ≡ get_or xs i x → f (i, x) ≡ Some y → first_of f (enumerate_from i (drop i xs)) ≡ whole → Some y ≡ whole
first_here f xs i x y whole below at some is =
    let rest = first_of f (enumerate_from (i + 1) (drop (i + 1) xs)) in
    ap (λ o. option_or o rest) (sym some ∙ ap (λ y. f (i, y)) at)
    ∙ ap (λ ys. first_of f (enumerate_from i ys)) (sym (drop_more xs i x below)) ∙ is

-- no item has one
pub first_none : {X Y : Type 0} (f : ℕ × X → Option Y) (xs : List X) (i : ℕ) (whole : Option Y) → length xs ≤ i
    → first_of f (enumerate_from i (drop i xs)) ≡ whole → None ≡ whole
first_none f xs i whole all is = ap (λ ys. first_of f (enumerate_from i ys)) (sym (drop_all i xs all)) ∙ is
