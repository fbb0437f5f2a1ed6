-- Extents that share no sector follow one another when they are in order.
use Rattle.std.proofs.Common.{zero, suc, ◌+◌, ◌<◌, ◌≤◌, ◌⊎◌, List, [], ◌∷◌, get_or, fold, All, AllPairs, arith, inl, inr}
use Rattle.std.proofs.lemmas.Bool.{cond_both, ltb-true, ltb-false}
use Rattle.std.proofs.lemmas.List.Elements.{All-cons, All-head, All-nil, All-tail, All-weaker}
use Rattle.std.proofs.Common.{ltb}
use Rattle.rp_areas.specs.declared.extents.Extent.{Extent}
use Rattle.rp_areas.specs.Areas.{by_start, insert_extent}
use Rattle.rp_areas.proofs.Order.{All-insert}

-- two extents share no sector
abbrev pub IsApart : Extent → Extent → Type 0
IsApart a b = (a.start + a.size ≤ b.start) ⊎ (b.start + b.size ≤ a.start)

-- an extent has a sector
abbrev pub IsSized : Extent → Type 0
IsSized e = 1 ≤ e.size

-- an extent ends before another begins
abbrev pub IsBefore : Extent → Extent → Type 0
IsBefore a b = a.start + a.size ≤ b.start

-- each ends before the later ones begin
abbrev pub IsChained : List Extent → Type 0
IsChained [] = Unit {0}
IsChained (e ∷ es) = All (IsBefore e) es × IsChained es

apart-sym : (a b : Extent) → IsApart a b → IsApart b a
apart-sym a b (inl h) = inr h
apart-sym a b (inr h) = inl h

before_when_lower : (a b : Extent) → IsSized a → IsSized b → IsApart a b → a.start < b.start → IsBefore a b
before_when_lower a b sa sb (inl h) l = h
before_when_lower a b sa sb (inr h) l = absurd (omega (arith, h, l, sb))

before_when_higher : (a b : Extent) → IsSized a → IsApart a b → b.start ≤ a.start → IsBefore b a
before_when_higher a b sa (inl h) l = absurd (omega (arith, h, l, sa))
before_when_higher a b sa (inr h) l = h

IsChained-insert : (x : Extent) (es : List Extent) → IsSized x → All IsSized es → All (IsApart x) es → IsChained es
    → IsChained (insert_extent x es)
IsChained-insert x [] sized each apart chain = (All-nil (IsBefore x), tt)
IsChained-insert x (e ∷ es) sized each apart chain =
    let he : IsSized e = All-head IsSized e es each in
    let ae : IsApart x e = All-head (IsApart x) e es apart in
    cond_both (ltb x.start e.start) (x ∷ e ∷ es) (e ∷ insert_extent x es) IsChained
    (λ t. let first : IsBefore x e = before_when_lower x e sized he ae (ltb-true x.start e.start t) in
    (All-cons (IsBefore x) e es first (All-weaker (IsBefore e) (IsBefore x) (λ f h. omega (arith, first, h)) es chain.0), chain))
    (λ t. (
      All-insert (IsBefore e) x es (before_when_higher x e sized ae (ltb-false x.start e.start t)) chain.0,
      IsChained-insert x es sized (All-tail IsSized e es each) (All-tail (IsApart x) e es apart) chain.1,
    ))

-- what holds of a pair with the first holds of the first with each later one
pub AllPairs-head : {X : Type 0} (R : X → X → Type 0) (x : X) (xs : List X) → AllPairs R (x ∷ xs) → All (R x) xs
AllPairs-head R x xs pairs k d below = pairs zero (suc k) d (omega arith) (omega (arith, below))

pub AllPairs-tail : {X : Type 0} (R : X → X → Type 0) (x : X) (xs : List X) → AllPairs R (x ∷ xs) → AllPairs R xs
AllPairs-tail R x xs pairs i j d before below = pairs (suc i) (suc j) d (omega (arith, before)) (omega (arith, below))

IsChained-insert_each : (sorted es : List Extent) → All IsSized sorted → All IsSized es → IsChained sorted → AllPairs IsApart es
    → All (λ x. All (IsApart x) sorted) es
    → IsChained (fold (λ s e. insert_extent e s) sorted es)
IsChained-insert_each sorted [] ss es chain apart across = chain
IsChained-insert_each sorted (x ∷ xs) ss es chain apart across =
    let sx : IsSized x = All-head IsSized x xs es in
    let ax : All (IsApart x) sorted = All-head (λ y. All (IsApart y) sorted) x xs across in
    let rest : All (λ y. All (IsApart y) sorted) xs = All-tail (λ y. All (IsApart y) sorted) x xs across in
    let to_x : All (IsApart x) xs = AllPairs-head IsApart x xs apart in
    IsChained-insert_each (insert_extent x sorted) xs (All-insert IsSized x sorted sx ss) (All-tail IsSized x xs es)
    (IsChained-insert x sorted sx ss ax chain)
    (AllPairs-tail IsApart x xs apart)
    (λ k d below. All-insert (IsApart (get_or xs k d)) x sorted (apart-sym x (get_or xs k d) (to_x k d below)) (rest k d below))

pub IsChained-by_start : (es : List Extent) → All IsSized es → AllPairs IsApart es → IsChained (by_start es)
IsChained-by_start es sized apart = IsChained-insert_each [] es (All-nil IsSized) sized tt apart
    (λ k d below. All-nil (IsApart (get_or es k d)))
