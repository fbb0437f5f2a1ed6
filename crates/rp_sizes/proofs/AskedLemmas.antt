-- What is asked for definitions that aren't refused.
use Rattle.std.proofs.Common.{◌≡◌, ◌∙◌, ℕ, zero, suc, ◌^◌, ◌<◌, ◌≤◌, min, Bool, true, false, cond, List, [], ◌∷◌, length, get_or, Option, Some, None, arith, refl, ap, sym, subst, zero-add, slice_get}
use Rattle.std.specs.Prelude.{◌&&◌}
use Rattle.std.specs.List.{enumerate_from}
use Rattle.std.specs.Option.{option_map, option_map_or, option_or}
use Rattle.std.proofs.lemmas.Bool.{le-leb, ltb-false}
use Rattle.std.proofs.lemmas.List.{length-map}
use Rattle.std.proofs.lemmas.List.FromFn.{get_or-enumerate_from, length-enumerate_from}
use Rattle.std.proofs.lemmas.Option.{get_or_from_slice_get, slice_get-get_or, slice_get-map, slice_get_within}
use Rattle.rp_base.specs.Wants.{AreWants, IsWant}
use Rattle.rp_base.specs.declared.want.Want.{Want}
use Rattle.rp_defs.specs.declared.definition.Definition.{Definition}
use Rattle.rp_defs.specs.declared.definition.Verity.{Verity}
use Rattle.rp_defs.specs.declared.definition.Verity.TheVariants.{Off, Data, Hash}
use Rattle.rp_defs.specs.WellFormed.{HasPartner, IsSound, IsWellFormed}
use Rattle.rp_sizes.specs.declared.need.Fact.{Fact}
use Rattle.rp_sizes.specs.Needs.{is_new, len_of}
use Rattle.rp_sizes.specs.Pairs.{pair_blocks}
use Rattle.rp_sizes.specs.Sizes.{asked, asked_of, blocks_at, differ, first_demand, first_of, half_alone, half_demand, is_judged, is_split, least_by, least_of, most_of, size_demand, sized, too_large}

or_none : {A : Type 0} (a b : Option A) → option_or a b ≡ None → (a ≡ None) × (b ≡ None)
or_none None b is = (refl, is)
or_none (Some x) b is = cc

none_each : {X Y : Type 0} (f : X → Option Y) (es : List X) → first_of f es ≡ None → (k : ℕ) (d : X) → k < length es → f (get_or es k d) ≡ None
none_each f [] is k d below = absurd (omega (arith, below))
none_each f (e ∷ es) is zero d below = (or_none (f e) (first_of f es) is).0
none_each f (e ∷ es) is (suc k) d below = none_each f es (or_none (f e) (first_of f es) is).1 k d (omega (arith, below))

-- the element at a place with its place
pub placed_at : {X : Type 0} (xs : List X) (k : ℕ) (x : X) → slice_get xs k ≡ Some x → get_or (enumerate_from 0 xs) k (0, x) ≡ (k, x)
placed_at xs k x is =
    let below : k < length xs = slice_get_within xs k x is in
    get_or-enumerate_from 0 xs k (0, x) below ∙ ap (λ n. (n, get_or xs k x)) (zero-add k)
    ∙ ap (λ y. (k, y)) (get_or_from_slice_get xs k x x is)

-- no item with its place has an answer
none_at : {X Y : Type 0} (f : ℕ × X → Option Y) (xs : List X) (k : ℕ) (x : X) → first_of f (enumerate_from 0 xs) ≡ None
    → slice_get xs k ≡ Some x → f (k, x) ≡ None
none_at f xs k x none is =
    let below : k < length xs = slice_get_within xs k x is in
    let l : k < length (enumerate_from 0 xs) = rw length-enumerate_from below in
    ap f (sym (placed_at xs k x is)) ∙ none_each f (enumerate_from 0 xs) none k (0, x) l

cond_none : {A : Type 0} (b : Bool) (x : A) → cond b (Some x) None ≡ None → b ≡ false
cond_none true x is = cc
cond_none false x is = refl

and_last : (a b c : Bool) → a ≡ true → b ≡ true → (a && b && c) ≡ false → c ≡ false
and_last true true c p q h = h
and_last true false c p q h = cc
and_last false b c p q h = cc

both_new : (a b : Bool) → a ≡ true → differ a b ≡ false → b ≡ true
both_new true true p h = refl
both_new true false p h = cc
both_new false b p h = cc

-- a new definition that is judged and not refused has its size
judged_fits : (matched : List (Option ℕ)) (defs : List Definition) (facts : List Fact) (k : ℕ) (def : Definition)
    → too_large matched defs facts (k, def) ≡ None → is_new matched k ≡ true → is_judged defs facts def.verity ≡ true
    → least_of defs facts (k, def) ≤ most_of def
judged_fits matched defs facts k def none new judged =
    ltb-false (most_of def) (least_of defs facts (k, def)) (and_last _ _ _ new judged (cond_none _ _ none))

-- the blocks of the data at a place
pub blocks_are : (defs : List Definition) (facts : List Fact) (file : ℕ) (def : Definition) → slice_get defs file ≡ Some def
    → blocks_at defs facts file ≡ pair_blocks def (len_of facts file)
blocks_are defs facts file def is = ap (λ o. option_map_or (λ (d : Definition). pair_blocks d (len_of facts file)) o 1) is

module _ (matched : List (Option ℕ)) (defs : List Definition) (facts : List Fact) (wf : IsWellFormed defs)
    (none : first_demand matched defs facts ≡ None) where
  halves_none : half_demand matched defs ≡ None
  halves_none = (or_none (half_demand matched defs) (size_demand matched defs facts) none).0

  sizes_none : size_demand matched defs facts ≡ None
  sizes_none = (or_none (half_demand matched defs) (size_demand matched defs facts) none).1

  -- the data of a pair whose hash is new is new too
  partner_new : (k : ℕ) (def : Definition) (partner : ℕ) → slice_get defs k ≡ Some def → is_new matched k ≡ true
      → is_split matched k def.verity ≡ differ (is_new matched k) (is_new matched partner) → is_new matched partner ≡ true
  partner_new k def partner is new split =
      both_new (is_new matched k) (is_new matched partner) new
      (sym split ∙ cond_none (is_split matched k def.verity) _ (none_at (half_alone matched) defs k def halves_none is))

  -- the data of a new pair has at most 2^32 blocks
  data_fits : (partner k : ℕ) (other : Definition) → slice_get defs partner ≡ Some other → is_new matched partner ≡ true
      → other.verity ≡ Data k → blocks_at defs facts partner ≤ 2 ^ 32
  data_fits partner k other is new half =
      let fits : least_of defs facts (partner, other) ≤ most_of other = judged_fits matched defs facts partner other
      (none_at (too_large matched defs facts) defs partner other sizes_none is) new (ap (is_judged defs facts) half) in
      let same : least_of defs facts (partner, other) ≡ pair_blocks other (len_of facts partner) = ap (least_by defs facts (partner, other)) half in
      let blocks = blocks_are defs facts partner other is in
      omega (arith, fits, same, blocks)

  judged_by : (v : Verity) (k : ℕ) (def : Definition) → def.verity ≡ v → slice_get defs k ≡ Some def → is_new matched k ≡ true
      → HasPartner defs k def v → is_judged defs facts v ≡ true
  judged_by Off k def half is new partner = refl
  judged_by (Data p) k def half is new partner = refl
  judged_by (Hash p) k def half is new (other, at, pair) =
      let new_too = partner_new k def p is new (ap (is_split matched k) half) in
      le-leb (blocks_at defs facts p) (2 ^ 32) (data_fits p k other at new_too pair.data_names)

  -- a new definition has its size
  pub size_fits : (k : ℕ) (def : Definition) → slice_get defs k ≡ Some def → is_new matched k ≡ true
      → least_of defs facts (k, def) ≤ most_of def
  size_fits k def is new =
      judged_fits matched defs facts k def (none_at (too_large matched defs facts) defs k def sizes_none is) new
      (judged_by def.verity k def refl is new (wf.partners k def is))

  -- the halves of a pair are both new, and the data has at most 2^32 blocks
  pub hash_partner : (k p : ℕ) (def : Definition) → slice_get defs k ≡ Some def → is_new matched k ≡ true → def.verity ≡ Hash p
      → (is_new matched p ≡ true) × (blocks_at defs facts p ≤ 2 ^ 32)
  hash_partner k p def is new half =
      let new_too = partner_new k def p is new (ap (is_split matched k) half) in
      let found = subst (λ v. HasPartner defs k def v) half (wf.partners k def is) in
      (new_too, data_fits p k found.0 found.1 new_too found.2.data_names)

  pub data_partner : (k p : ℕ) (def : Definition) → slice_get defs k ≡ Some def → is_new matched k ≡ true → def.verity ≡ Data p
      → is_new matched p ≡ true
  data_partner k p def is new half = partner_new k def p is new (ap (is_split matched k) half)

sized_want : (v : Verity) (least : ℕ) (want : Want) → IsWant want → least ≤ min want.max (2 ^ 32) → IsWant (sized v least want)
sized_want Off least want is fits = record {
  size = omega (arith, fits);
  size_min = omega (arith, fits);
  size_max = is.size_max;
  weight = is.weight;
  padding = is.padding;
  padding_min = is.padding_min;
  padding_max = is.padding_max;
  padding_weight = is.padding_weight;
}
sized_want (Data p) least want is fits = record {
  size = omega arith;
  size_min = omega (arith, fits);
  size_max = omega (arith, fits);
  weight = is.weight;
  padding = is.padding;
  padding_min = is.padding_min;
  padding_max = is.padding_max;
  padding_weight = is.padding_weight;
}
sized_want (Hash p) least want is fits = record {
  size = omega arith;
  size_min = omega (arith, fits);
  size_max = omega (arith, fits);
  weight = is.weight;
  padding = is.padding;
  padding_min = is.padding_min;
  padding_max = is.padding_max;
  padding_weight = is.padding_weight;
}

asked_by : (new : Bool) (v : Verity) (least : ℕ) (want : Want) → IsWant want → (new ≡ true → least ≤ min want.max (2 ^ 32))
    → IsWant (cond new (sized v least want) want)
asked_by true v least want is fits = sized_want v least want is (fits refl)
asked_by false v least want is fits = is

no_past : {X : Type 0} (xs : List X) (k : ℕ) → k < length xs → slice_get xs k ≡ None → ⊥
no_past [] k below e = omega (arith, below)
no_past (x ∷ xs) zero below e = cc
no_past (x ∷ xs) (suc k) below e = no_past xs k (omega (arith, below)) e

-- a definition of the list is sound
pub sound_at : (defs : List Definition) (k : ℕ) (def : Definition) → IsWellFormed defs → slice_get defs k ≡ Some def → IsSound def
sound_at defs k def wf is =
    subst IsSound (get_or_from_slice_get defs k def def is) (wf.each k def (slice_get_within defs k def is))

pub asked_length : (matched : List (Option ℕ)) (defs : List Definition) (facts : List Fact) → length (asked matched defs facts) ≡ length defs
asked_length matched defs facts =
    length-map (enumerate_from 0 defs) (asked_of matched defs facts) ∙ length-enumerate_from 0 defs

-- what is asked for a definition
pub want_is : (matched : List (Option ℕ)) (defs : List Definition) (facts : List Fact) (k : ℕ) (def : Definition) → slice_get defs k ≡ Some def
    → slice_get (asked matched defs facts) k ≡ Some (asked_of matched defs facts (k, def))
want_is matched defs facts k def is =
    let below : k < length defs = slice_get_within defs k def is in
    let l : k < length (enumerate_from 0 defs) = rw length-enumerate_from below in
    slice_get-map (asked_of matched defs facts) (enumerate_from 0 defs) k
    ∙ ap (option_map (asked_of matched defs facts)) (slice_get-get_or (enumerate_from 0 defs) k (0, def) l)
    ∙ ap (λ e. Some (asked_of matched defs facts e)) (placed_at defs k def is)

pub asked_are_wants : (matched : List (Option ℕ)) (defs : List Definition) (facts : List Fact) → IsWellFormed defs
    → first_demand matched defs facts ≡ None → AreWants (asked matched defs facts)
asked_are_wants matched defs facts wf none = record {
  few = rw asked_length wf.few;
  each = λ k d below.
      let l : k < length defs = omega (arith, below, asked_length matched defs facts) in
      let o : Option Definition = slice_get defs k in
      elim o as (λ p. o ≡ p → IsWant (get_or (asked matched defs facts) k d)) [
        | None ↦ λ e. absurd (no_past defs k l e)
        | Some def ↦ λ e.
            let w = want_is matched defs facts k def e in
            let is = asked_by (is_new matched k) def.verity (least_of defs facts (k, def)) def.want (sound_at defs k def wf e).want
            (λ new. size_fits matched defs facts wf none k def e new) in
            subst IsWant (sym (get_or_from_slice_get (asked matched defs facts) k (asked_of matched defs facts (k, def)) d w)) is
      ] refl;
}
