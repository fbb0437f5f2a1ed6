-- Sources fit in the rows of their definitions.
use Rattle.std.proofs.Common.{◌≡◌, ◌∙◌, ℕ, suc, ◌*◌, ◌%◌, ◌≤◌, Bool, true, false, cond, List, [], ◌∷◌, map, Option, Some, None, IsNone, All, arith, refl, ap, sym, subst, slice_get}
use Rattle.std.specs.Prelude.{◌==◌, ◌&&◌, find, is_some}
use Rattle.std.specs.Option.{option_map, option_map_or}
use Rattle.std.proofs.lemmas.Bool.{eqb-true}
use Rattle.std.proofs.lemmas.Option.{get_or_from_slice_get, slice_get-map, slice_get_within}
use Rattle.rp_base.specs.declared.table.Table.{Table}
use Rattle.rp_areas.specs.Areas.{grains_up}
use Rattle.rp_defs.specs.declared.definition.Definition.{Definition}
use Rattle.rp_defs.specs.declared.definition.Verity.{Verity}
use Rattle.rp_defs.specs.declared.definition.Verity.TheVariants.{Off, Data, Hash}
use Rattle.rp_defs.specs.WellFormed.{HasPartner, IsWellFormed}
use Rattle.rp_sizes.specs.declared.need.Fact.{Fact}
use Rattle.rp_sizes.specs.declared.need.Need.{Need}
use Rattle.rp_sizes.specs.Needs.{AreFactsOn, fact_of, is_new, len_of, matched_of, need_of, needs_of, wanted_of}
use Rattle.rp_sizes.specs.Pairs.{bytes_grains}
use Rattle.rp_sizes.specs.Sizes.{least_by, least_of}
use Rattle.rp_sizes.proofs.NewsLemmas.{All-answers, if_passes}

found_cons : {X : Type 0} (p : X → Bool) (b : Bool) (x y : X) (xs : List X) → p x ≡ b → cond b (Some x) (find p xs) ≡ Some y
    → (find p xs ≡ Some y → (i : ℕ) × (slice_get xs i ≡ Some y) × (p y ≡ true)) → (i : ℕ) × (slice_get (x ∷ xs) i ≡ Some y) × (p y ≡ true)
found_cons p true x y xs test is more = let same : x ≡ y = cc in (0, is, subst (λ z. p z ≡ true) same test)
found_cons p false x y xs test is more = let found = more is in (suc found.0, found.1, found.2)

-- what is found stands somewhere, and passes
find_index : {X : Type 0} (p : X → Bool) (xs : List X) (y : X) → find p xs ≡ Some y → (i : ℕ) × (slice_get xs i ≡ Some y) × (p y ≡ true)
find_index p [] y is = absurd (cc)
find_index p (x ∷ xs) y is = found_cons p (p x) x y xs refl is (find_index p xs y)

some_map : {X Y : Type 0} (f : X → Y) (o : Option X) (y : Y) → option_map f o ≡ Some y → (x : X) × (o ≡ Some x) × (f x ≡ y)
some_map f None y is = absurd (cc)
some_map f (Some x) y is = (x, refl, cc)

-- each need is of a definition that has a source

and_second : (a b : Bool) → (a && b) ≡ true → b ≡ true
and_second true b is = is
and_second false b is = absurd (cc)

needs_have : (matched : List (Option ℕ)) (defs : List Definition) → All (λ (n : Need). (def : Definition) × (slice_get defs n.file ≡ Some def) × (is_some def.source ≡ true)) (needs_of matched defs)
needs_have matched defs = All-answers (λ (n : Need). (def : Definition) × (slice_get defs n.file ≡ Some def) × (is_some def.source ≡ true)) (need_of matched) 0 defs
    (λ k m def e at. if_passes (λ (n : Need). (def : Definition) × (slice_get defs n.file ≡ Some def) × (is_some def.source ≡ true))
    (is_new matched m && is_some def.source) _
    (λ both. let same : m ≡ k = omega (arith, e) in (def, ap (slice_get defs) same ∙ at, and_second (is_new matched m) (is_some def.source) both)))

-- a definition on whose source there is a fact has a source
pub fact_has : (table : Table) (defs : List Definition) (facts : List Fact) → AreFactsOn (wanted_of table defs) facts → (k : ℕ) (fact : Fact)
    → fact_of facts k ≡ Some fact → (def : Definition) → slice_get defs k ≡ Some def → is_some def.source ≡ true
fact_has table defs facts are k fact is def at =
    let found = find_index (λ (f : Fact). f.file == k) facts fact is in
    let file : fact.file ≡ k = eqb-true fact.file k found.2 in
    let in_facts : slice_get (map (λ (f : Fact). f.file) facts) found.0 ≡ Some fact.file = slice_get-map (λ (f : Fact). f.file) facts found.0
    ∙ ap (option_map (λ (f : Fact). f.file)) found.1 in
    let in_needs = sym (slice_get-map (λ (n : Need). n.file) (wanted_of table defs) found.0) ∙ ap (λ fs. slice_get fs found.0) (sym are.files) ∙ in_facts in
    let need = some_map (λ (n : Need). n.file) (slice_get (wanted_of table defs) found.0) fact.file in_needs in
    let below = slice_get_within (wanted_of table defs) found.0 need.0 need.1 in
    let has = subst (λ (n : Need). (def : Definition) × (slice_get defs n.file ≡ Some def) × (is_some def.source ≡ true))
    (get_or_from_slice_get (wanted_of table defs) found.0 need.0 need.0 need.1) (needs_have (matched_of table defs) defs found.0 need.0 below) in
    let here : slice_get defs k ≡ Some has.0 = ap (slice_get defs) (sym file ∙ sym need.2) ∙ has.1 in
    let same : has.0 ≡ def = cc in
    subst (λ (d : Definition). is_some d.source ≡ true) same has.2

none_some : {X : Type 0} (o : Option X) → IsNone o → is_some o ≡ true → ⊥
none_some None n is = cc
none_some (Some x) n is = cc

-- the source of a definition fits its least size
fits_least : (defs : List Definition) (facts : List Fact) (k : ℕ) (def : Definition) (v : Verity) → HasPartner defs k def v
    → is_some def.source ≡ true → bytes_grains (len_of facts k) ≤ least_by defs facts (k, def) v
fits_least defs facts k def Off partner has = omega arith
fits_least defs facts k def (Data p) partner has = omega arith
fits_least defs facts k def (Hash p) (other, at, pair) has = absurd (none_some def.source pair.no_source has)

pub source_fits : (table : Table) (defs : List Definition) (facts : List Fact) → AreFactsOn (wanted_of table defs) facts → IsWellFormed defs
    → (k : ℕ) (def : Definition) (fact : Fact) → slice_get defs k ≡ Some def → fact_of facts k ≡ Some fact → (size : ℕ)
    → least_of defs facts (k, def) ≤ grains_up size → size % 8 ≡ 0 → fact.len ≤ 512 * size
source_fits table defs facts are wf k def fact at is size least whole =
    let has = fact_has table defs facts are k fact is def at in
    let fits = fits_least defs facts k def def.verity (wf.partners k def at) has in
    let len : len_of facts k ≡ fact.len = ap (λ (o : Option Fact). option_map_or (λ (f : Fact). f.len) o 0) is in
    omega (arith, fits, len, least, whole)
