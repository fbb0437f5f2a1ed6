-- The new definitions of a list.
use Rattle.std.proofs.Common.{◌≡◌, ℕ, suc, ◌+◌, ◌<◌, Bool, true, false, cond, List, [], ◌∷◌, Option, Some, None, IfSome, All, AllPairs, arith, refl, slice_get}
use Rattle.std.specs.List.{cons_option, enumerate_from, filter_map}
use Rattle.std.proofs.lemmas.List.Elements.{All-cons}
use Rattle.std.proofs.lemmas.List.Kept.{AllPairs-cons}
use Rattle.rp_base.specs.declared.want.Want.{Want}
use Rattle.rp_areas.specs.Areas.{want_at}
use Rattle.rp_place.specs.declared.fit.New.{New}
use Rattle.rp_defs.specs.declared.definition.Definition.{Definition}
use Rattle.rp_sizes.specs.Needs.{is_new}
use Rattle.rp_sizes.specs.News.{new_of, news_of}

All-cons_option : {Y : Type 0} (P : Y → Type 0) (o : Option Y) (ys : List Y) → IfSome o P → All P ys → All P (cons_option o ys)
All-cons_option P None ys one all = all
All-cons_option P (Some y) ys one all = All-cons P y ys one all

-- what holds of each answer for an item with its place holds of all answers
pub All-answers : {X Y : Type 0} (P : Y → Type 0) (f : ℕ × X → Option Y) (n : ℕ) (xs : List X)
    → ((k m : ℕ) (x : X) → m ≡ n + k → slice_get xs k ≡ Some x → IfSome (f (m, x)) P) → All P (filter_map f (enumerate_from n xs))
All-answers P f n [] each = λ k d below. absurd (omega (arith, below))
All-answers P f n (x ∷ xs) each = All-cons_option P (f (n, x)) (filter_map f (enumerate_from (n + 1) xs)) (each 0 n x (omega arith) refl)
    (All-answers P f (n + 1) xs (λ k m y e is. each (suc k) m y (omega (arith, e)) is))

-- an answer under a test
pub if_passes : {Y : Type 0} (P : Y → Type 0) (b : Bool) (y : Y) → (b ≡ true → P y) → IfSome (cond b (Some y) None) P
if_passes P true y p = p refl
if_passes P false y p = tt

module _ (matched : List (Option ℕ)) (wants : List Want) where
  rising_cons : (o : Option New) (n : ℕ) (rest : List New) → IfSome o (λ y. y.file ≡ n) → All (λ b. n < b.file) rest
      → AllPairs (λ a b. a.file < b.file) rest → AllPairs (λ a b. a.file < b.file) (cons_option o rest)
  rising_cons None n rest is more pairs = pairs
  rising_cons (Some y) n rest is more pairs =
      AllPairs-cons (λ (a b : New). a.file < b.file) y rest (λ k d below. omega (arith, is, more k d below)) pairs

  rising_from : (n : ℕ) (defs : List Definition)
      → AllPairs (λ a b. a.file < b.file) (filter_map (new_of matched wants) (enumerate_from n defs))
  rising_from n [] = λ i j d before below. absurd (omega (arith, below))
  rising_from n (def ∷ defs) = rising_cons (new_of matched wants (n, def)) n (filter_map (new_of matched wants) (enumerate_from (n + 1) defs))
      (if_passes (λ (y : New). y.file ≡ n) (is_new matched n) _ (λ _. refl))
      (All-answers (λ (b : New). n < b.file) (new_of matched wants) (n + 1) defs
      (λ k m x e is. if_passes (λ (b : New). n < b.file) (is_new matched m) _ (λ _. omega (arith, e))))
      (rising_from (n + 1) defs)

  -- they come in the order of their files
  pub news_rise : (defs : List Definition) → AllPairs (λ a b. a.file < b.file) (news_of matched wants defs)
  news_rise defs = rising_from 0 defs

  -- what holds of each definition that has no row holds of the new ones
  pub All-news : (P : New → Type 0) (defs : List Definition)
      → ((k : ℕ) (def : Definition) → slice_get defs k ≡ Some def → is_new matched k ≡ true
      → P (record { file = k; need = (want_at wants k).min + (want_at wants k).pad_min; priority = def.priority }))
      → All P (news_of matched wants defs)
  All-news P defs each = All-answers P (new_of matched wants) 0 defs (λ k m x e is.
      let same : m ≡ k = omega (arith, e) in
      if_passes P (is_new matched m) _ (λ new. each m x (rw same is) new))
