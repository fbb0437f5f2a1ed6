-- Facts on lists of one to three.
use Rattle.std.proofs.Common.{◌⊎◌, zero, suc, [], ◌∷◌, All, inl, inr, sym, subst, arith}
use Rattle.std.specs.Prelude.{AllPairs, Any}
use Rattle.std.proofs.lemmas.List.Elements.{All-cons, All-nil}
use Rattle.std.proofs.lemmas.List.Kept.{AllPairs-cons}

pub all_of_one : {X : Type 0} (P : X → Type 0) (a : X) → P a → All P (a ∷ [])
all_of_one P a first = All-cons P a [] first (All-nil P)

pub all_of_two : {X : Type 0} (P : X → Type 0) (a b : X) → P a → P b → All P (a ∷ b ∷ [])
all_of_two P a b first second = All-cons P a (b ∷ []) first (all_of_one P b second)

pub all_of_three : {X : Type 0} (P : X → Type 0) (a b c : X) → P a → P b → P c → All P (a ∷ b ∷ c ∷ [])
all_of_three P a b c first second third = All-cons P a (b ∷ c ∷ []) first (all_of_two P b c second third)

pub pairs_of_one : {X : Type 0} (R : X → X → Type 0) (a : X) → AllPairs R (a ∷ [])
pairs_of_one R a i j d before below = absurd (omega arith)

pub pairs_of_two : {X : Type 0} (R : X → X → Type 0) (a b : X) → R a b → AllPairs R (a ∷ b ∷ [])
pairs_of_two R a b first = AllPairs-cons R a (b ∷ []) (all_of_one (R a) b first) (pairs_of_one R b)

pub pairs_of_three : {X : Type 0} (R : X → X → Type 0) (a b c : X) → R a b → R a c → R b c → AllPairs R (a ∷ b ∷ c ∷ [])
pairs_of_three R a b c first second third = AllPairs-cons R a (b ∷ c ∷ []) (all_of_two (R a) b c first second) (pairs_of_two R b c third)

pub any_of_three : {X : Type 0} (P : X → Type 0) (a b c : X) → Any P (a ∷ b ∷ c ∷ []) → P a ⊎ P b ⊎ P c
any_of_three P a b c (zero, x, below, same, holds) = inl (subst P (sym same) holds)
any_of_three P a b c (suc zero, x, below, same, holds) = inr (inl (subst P (sym same) holds))
any_of_three P a b c (suc (suc zero), x, below, same, holds) = inr (inr (subst P (sym same) holds))
any_of_three P a b c (suc (suc (suc k)), x, below, same, holds) = absurd (omega arith)
