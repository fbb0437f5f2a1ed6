-- Sources that are asked one after another.
use Rattle.std.proofs.Common.{ℕ, ◌≡◌, ◌<◌, ◌+◌, ◌++◌, ◌∙◌, List, [], ◌∷◌, length, map, get_or, take, Option, Some, None, Result, Ok, Err, IfSome, refl, sym, ap, subst, inl, inr, arith}
use Rattle.std.specs.Prelude.{IfOk, IsSome, filter_map, is_some, option_map}
use Rattle.std.proofs.lemmas.List.{get_or-map, length-append, map-append, take_more}
use Rattle.std.proofs.lemmas.List.Elements.{All-cons, All-nil, filter_map-append}
use Rattle.rp_base.specs.declared.guid.Guid.{Guid}
use Rattle.rp_defs.specs.declared.definition.Definition.{Definition}
use Rattle.rp_facts.specs.declared.fault.FactFault.{FactFault}
use Rattle.rp_facts.specs.declared.fault.FactFault.TheVariants.{SourceFault}
use Rattle.rp_facts.specs.Sourced.{AreLengths, AreThere, IsLength, StraysAtMissing, bytes_at, fact_on, facts_on}
use Rattle.rp_io.specs.declared.stored.Stored.{Stored}
use Rattle.rp_sizes.specs.Needs.{AreFactsOn}
use Rattle.rp_sizes.specs.declared.need.Fact.{Fact}
use Rattle.rp_sizes.specs.declared.need.Need.{Need}

-- what holds where the sources tell holds where they tell the same
pub at_told : {X : Type 0} (P : X → Type 0) (a b : Option X) → a ≡ b → IfSome a P → IfSome b P
at_told P a b e p = subst (λ o. IfSome o P) e p

-- both facts on what is told give a third
pub both_told : {X : Type 0} (P Q R : X → Type 0) (o : Option X) → ((x : X) → P x → Q x → R x) → IfSome o P → IfSome o Q → IfSome o R
both_told P Q R None f p q = tt
both_told P Q R (Some x) f p q = f x p q

module _ (list : List Definition) (needs : List Need) (i : ℕ) (d : Need) (o p : Option (List Stored)) (s0 s1 s2 : ℕ) where
  -- a call that answered strayed nowhere
  pub strays_ok : {T : Type 0} (value : T) → p ≡ o → IfSome o (λ files. s1 ≡ s0)
      → IfSome p (λ files. StraysAtMissing files list (get_or needs i d ∷ []) s1 s2 (Ok value)) → IfSome o (λ files. s2 ≡ s0)
  strays_ok {T = T} value same before strays =
      both_told (λ files. s1 ≡ s0) (λ files. StraysAtMissing files list (get_or needs i d ∷ []) s1 s2 (Ok value)) (λ files. s2 ≡ s0) o go before
      (at_told (λ files. StraysAtMissing files list (get_or needs i d ∷ []) s1 s2 (Ok value)) p o same strays) where
        go : (files : List Stored) → s1 ≡ s0 → StraysAtMissing files list (get_or needs i d ∷ []) s1 s2 (Ok value) → s2 ≡ s0
        go files before (inl kept) = kept ∙ before
        go files before (inr (fault, missing)) = absurd (no_err fault) where
          no_err : ◌≡◌ {A = Result T FactFault} (Ok value) (Err SourceFault) → ⊥
          no_err e = absurd (cc)

-- a list with one more is one longer
pub one_longer : (xs new : List ℕ) (x n : ℕ) → new ≡ xs ++ x ∷ [] → length xs ≡ n → length new ≡ n + 1
one_longer xs new x n pushed count = ap length pushed ∙ length-append xs (x ∷ []) ∙ ap (λ (k : ℕ). k + 1) count

-- one more length
pub lengths_more : (list : List Definition) (needs : List Need) (lens new : List ℕ) (i : ℕ) (d : Need) (len : ℕ) (o p : Option (List Stored))
    → i < length needs → p ≡ o → new ≡ lens ++ len ∷ []
    → IfSome o (λ files. AreLengths files list (take i needs) lens) → IfSome p (λ files. IsLength files list (get_or needs i d) len)
    → IfSome o (λ files. AreLengths files list (take (i + 1) needs) new)
lengths_more list needs lens new i d len o p below same pushed before is =
    both_told (λ files. AreLengths files list (take i needs) lens) (λ files. IsLength files list (get_or needs i d) len)
    (λ files. AreLengths files list (take (i + 1) needs) new) o go before
    (at_told (λ files. IsLength files list (get_or needs i d) len) p o same is) where
      go : (files : List Stored) → AreLengths files list (take i needs) lens → IsLength files list (get_or needs i d) len
          → AreLengths files list (take (i + 1) needs) new
      go files before is =
          let lengths : Need → Option ℕ = λ need. option_map length (bytes_at files list need) in
          ap (map lengths) (take_more needs i d below)
          ∙ map-append lengths (take i needs) (get_or needs i d ∷ [])
          ∙ ap (λ front. front ++ lengths (get_or needs i d) ∷ []) before
          ∙ ap (λ last. map Some lens ++ last ∷ []) is
          ∙ sym (ap (map Some) pushed ∙ map-append Some lens (len ∷ []))

-- the facts on one need more
pub facts_more : (seed : Guid) (files : List Stored) (list : List Definition) (needs : List Need) (facts : List Fact) (i : ℕ) (d : Need) (fact : Fact)
    → i < length needs → facts ≡ facts_on seed files list (take i needs) → fact_on seed files list (get_or needs i d) ≡ Some fact
    → facts ++ fact ∷ [] ≡ facts_on seed files list (take (i + 1) needs)
facts_more seed files list needs facts i d fact below before is =
    ap (λ front. front ++ fact ∷ []) before
    ∙ ap (λ last. facts_on seed files list (take i needs) ++ last) (sym (one (fact_on seed files list (get_or needs i d)) is))
    ∙ sym (ap (facts_on seed files list) (take_more needs i d below) ∙ filter_map-append (fact_on seed files list) (take i needs) (get_or needs i d ∷ [])) where
      one : (known : Option Fact) → known ≡ Some fact → filter_map (λ (o : Option Fact). o) (known ∷ []) ≡ fact ∷ []
      one known e = ap (λ o. filter_map (λ (o : Option Fact). o) (o ∷ [])) e

-- what is told of one more is what is asked of it
along : {X Y Z : Type 0} (f : Y → Z) (g : X → Z) (xs : List X) (ys : List Y) (i : ℕ) (d : X) (y : Y)
    → i < length xs → map f ys ≡ map g (take i xs) → f y ≡ g (get_or xs i d) → map f (ys ++ y ∷ []) ≡ map g (take (i + 1) xs)
along f g xs ys i d y below before same =
    map-append f ys (y ∷ [])
    ∙ ap (λ front. front ++ f y ∷ []) before
    ∙ ap (λ last. map g (take i xs) ++ last ∷ []) same
    ∙ sym (ap (map g) (take_more xs i d below) ∙ map-append g (take i xs) (get_or xs i d ∷ []))

-- they are facts on one need more
pub each_more : (needs : List Need) (facts : List Fact) (i : ℕ) (d : Need) (fact : Fact)
    → i < length needs → AreFactsOn (take i needs) facts → fact.file ≡ (get_or needs i d).file → is_some fact.root ≡ (get_or needs i d).pair
    → AreFactsOn (take (i + 1) needs) (facts ++ fact ∷ [])
each_more needs facts i d fact below before file pair = record {
  files = along (λ (f : Fact). f.file) (λ (n : Need). n.file) needs facts i d fact below before.files file;
  roots = along (λ (f : Fact). is_some f.root) (λ (n : Need). n.pair) needs facts i d fact below before.roots pair;
}

-- the length of one need among all
length_at : (files : List Stored) (list : List Definition) (needs : List Need) (lens : List ℕ) (i : ℕ) (d : Need) (e : ℕ) → i < length needs → length lens ≡ length needs
    → AreLengths files list needs lens → IsLength files list (get_or needs i d) (get_or lens i e)
length_at files list needs lens i d e below count are =
    let lengths : Need → Option ℕ = λ need. option_map length (bytes_at files list need) in
    sym (get_or-map lengths needs i d None below) ∙ ap (λ (xs : List (Option ℕ)). get_or xs i None) are ∙ get_or-map Some lens i e None (omega arith)

module _ (list : List Definition) (needs : List Need) (lens : List ℕ) (i : ℕ) (d : Need) (e : ℕ) (o p : Option (List Stored)) where
  -- a fact on one need more
  pub facts_step : (seed : Guid) (facts new : List Fact) (fact : Fact) → i < length needs → length lens ≡ length needs → p ≡ o → new ≡ facts ++ fact ∷ []
      → IfSome o (λ files. AreLengths files list needs lens → facts ≡ facts_on seed files list (take i needs))
      → IfSome p (λ files. IsLength files list (get_or needs i d) (get_or lens i e) → fact_on seed files list (get_or needs i d) ≡ Some fact)
      → IfSome o (λ files. AreLengths files list needs lens → new ≡ facts_on seed files list (take (i + 1) needs))
  facts_step seed facts new fact below count same pushed before is =
      both_told (λ files. AreLengths files list needs lens → facts ≡ facts_on seed files list (take i needs))
      (λ files. IsLength files list (get_or needs i d) (get_or lens i e) → fact_on seed files list (get_or needs i d) ≡ Some fact)
      (λ files. AreLengths files list needs lens → new ≡ facts_on seed files list (take (i + 1) needs)) o
      (λ files before is are. pushed ∙ facts_more seed files list needs facts i d fact below (before are)
      (is (length_at files list needs lens i d e below count are))) before
      (at_told (λ files. IsLength files list (get_or needs i d) (get_or lens i e) → fact_on seed files list (get_or needs i d) ≡ Some fact) p o same is)

  -- no call strays where the lengths are those of the sources
  pub strays_step : (s0 s1 s2 : ℕ) → i < length needs → length lens ≡ length needs → p ≡ o
      → IfSome o (λ files. AreLengths files list needs lens → s1 ≡ s0)
      → IfSome p (λ files. IsLength files list (get_or needs i d) (get_or lens i e) → s2 ≡ s1)
      → IfSome o (λ files. AreLengths files list needs lens → s2 ≡ s0)
  strays_step s0 s1 s2 below count same before is =
      both_told (λ files. AreLengths files list needs lens → s1 ≡ s0)
      (λ files. IsLength files list (get_or needs i d) (get_or lens i e) → s2 ≡ s1)
      (λ files. AreLengths files list needs lens → s2 ≡ s0) o
      (λ files before is are. is (length_at files list needs lens i d e below count are) ∙ before are) before
      (at_told (λ files. IsLength files list (get_or needs i d) (get_or lens i e) → s2 ≡ s1) p o same is)

-- sources that have lengths are there
lengths_there : (files : List Stored) (list : List Definition) (needs : List Need) (lens : List ℕ) → AreLengths files list needs lens → AreThere files list needs
lengths_there files list [] lens are = All-nil (λ need. IsSome (bytes_at files list need))
lengths_there files list (need ∷ needs) [] are = absurd (cc)
lengths_there files list (need ∷ needs) (len ∷ lens) are =
    All-cons (λ need. IsSome (bytes_at files list need)) need needs (one (bytes_at files list need) (cc)) (lengths_there files list needs lens (cc)) where
      one : (bytes : Option (List ℕ)) → option_map length bytes ≡ Some len → IsSome bytes
      one None is = absurd (cc)
      one (Some bytes) is = refl

pub told_there : {T E : Type 0} (o : Option (List Stored)) (list : List Definition) (needs : List Need) (lens : List ℕ) (result : Result T E)
    → IfSome o (λ files. AreLengths files list needs lens) → IfSome o (λ files. IfOk result (λ _. AreThere files list needs))
told_there None list needs lens result are = tt
told_there (Some files) list needs lens (Ok value) are = lengths_there files list needs lens are
told_there (Some files) list needs lens (Err fault) are = tt
