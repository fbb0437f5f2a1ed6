-- The steps of walks over definitions that take those that are kept, and of searches.
use Rattle.std.proofs.Common.{◌≡◌, ℕ, ◌+◌, ◌<◌, ◌≤◌, Bool, true, false, cond, List, [], ◌∷◌, ◌++◌, length, get_or, drop, map, ap, sym, ◌∙◌, append_assoc}
use Rattle.std.specs.List.{enumerate_from, filter}
use Rattle.std.proofs.lemmas.List.{append-nil, drop_all, drop_more}

-- one more that is kept
pub kept_more : {X Y : Type 0} (p : ℕ × X → Bool) (f : ℕ × (ℕ × X) → Y) (out now : List Y) (xs : List X) (i slot : ℕ) (x : X) (y : Y)
    (whole : List Y) → i < length xs → x ≡ get_or xs i x → p (i, x) ≡ true → y ≡ f (slot, (i, x)) → now ≡ out ++ y ∷ []
    → out ++ map f (enumerate_from slot (filter p (enumerate_from i (drop i xs)))) ≡ whole
    → now ++ map f (enumerate_from (slot + 1) (filter p (enumerate_from (i + 1) (drop (i + 1) xs)))) ≡ whole
kept_more p f out now xs i slot x y whole below at kept item pushed is =
    let others = filter p (enumerate_from (i + 1) (drop (i + 1) xs)) in
    ap (λ n. n ++ map f (enumerate_from (slot + 1) others)) pushed
    ∙ append_assoc out (y ∷ []) (map f (enumerate_from (slot + 1) others))
    ∙ ap (λ z. out ++ z ∷ map f (enumerate_from (slot + 1) others)) item
    ∙ ap (λ b. out ++ map f (enumerate_from slot (cond b ((i, x) ∷ others) others))) (sym kept)
    ∙ ap (λ z. out ++ map f (enumerate_from slot (cond (p (i, z)) ((i, z) ∷ others) others))) at
    ∙ ap (λ ys. out ++ map f (enumerate_from slot (filter p (enumerate_from i ys)))) (sym (drop_more xs i x below)) ∙ is

-- one that isn't
pub kept_past : {X Y : Type 0} (p : ℕ × X → Bool) (f : ℕ × (ℕ × X) → Y) (out : List Y) (xs : List X) (i slot : ℕ) (x : X)
    (whole : List Y) → i < length xs → x ≡ get_or xs i x → p (i, x) ≡ false
    → out ++ map f (enumerate_from slot (filter p (enumerate_from i (drop i xs)))) ≡ whole
    → out ++ map f (enumerate_from slot (filter p (enumerate_from (i + 1) (drop (i + 1) xs)))) ≡ whole
kept_past p f out xs i slot x whole below at other is =
    let others = filter p (enumerate_from (i + 1) (drop (i + 1) xs)) in
    ap (λ b. out ++ map f (enumerate_from slot (cond b ((i, x) ∷ others) others))) (sym other)
    ∙ ap (λ z. out ++ map f (enumerate_from slot (cond (p (i, z)) ((i, z) ∷ others) others))) at
    ∙ ap (λ ys. out ++ map f (enumerate_from slot (filter p (enumerate_from i ys)))) (sym (drop_more xs i x below)) ∙ is

pub kept_all : {X Y : Type 0} (p : ℕ × X → Bool) (f : ℕ × (ℕ × X) → Y) (out : List Y) (xs : List X) (i slot : ℕ) (whole : List Y)
    → length xs ≤ i → out ++ map f (enumerate_from slot (filter p (enumerate_from i (drop i xs)))) ≡ whole → out ≡ whole
kept_all p f out xs i slot whole all is =
    sym (append-nil out) ∙ ap (λ ys. out ++ map f (enumerate_from slot (filter p (enumerate_from i ys)))) (sym (drop_all i xs all)) ∙ is
