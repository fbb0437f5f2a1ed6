-- A row that has no identifier is given the one that its naming says.
use Rattle.std.proofs.Common.{◌≡◌, ◌≢◌, ◌∙◌, ℕ, zero, suc, ◌==◌, Bool, true, false, cond, List, [], ◌∷◌, Option, Some, None, Result, Ok, Err, All, inl, inr, refl, ap, sym, slice_get, true≢false}
use Rattle.std.specs.Prelude.{◌⊎◌, ◌||◌, fold, option_map, slice_index, unwrap_or}
use Rattle.std.proofs.lemmas.Bool.Decides.{eqb_tells}
use Rattle.std.proofs.lemmas.List.Elements.{All-cons, All-head, All-nil, All-tail}
use Rattle.rp_base.specs.declared.guid.Guid.{Guid}
use Rattle.rp_base.specs.declared.table.Row.{Row}
use Rattle.rp_ident.specs.declared.fault.IdentFault.{IdentFault}
use Rattle.rp_ident.specs.declared.fault.IdentFault.TheVariants.{TakenIdentifier}
use Rattle.rp_ident.specs.declared.naming.Naming.{Naming}
use Rattle.rp_ident.specs.Naming.{changed, derived_one, fixed_one, fixed_to, given, in_turn, is_used, is_zero, labeled, rows_named, then_with, waits}
use Rattle.rp_ident.proofs.LawLemmas.{Steps, derived-steps, fixed-steps, in_turn-keeps, labels-keep, steps-other}

-- the identifier of the row at a place
abbrev pub id_at : List Row → ℕ → Option Guid
id_at rows place = option_map (λ row. row.id) (slice_get rows place)

abbrev pub Has : List Row → ℕ → Guid → Type 0
Has rows place id = id_at rows place ≡ Some id

-- something holds of one of them
abbrev pub Somewhere : {X : Type 0} → (X → Type 0) → List X → Type 0
Somewhere P [] = ⊥
Somewhere P (x ∷ xs) = P x ⊎ Somewhere P xs

any_naming : (namings : List Naming) → All (λ (naming : Naming). Unit {0}) namings
any_naming [] = All-nil (λ (naming : Naming). Unit {0})
any_naming (naming ∷ namings) = All-cons (λ (n : Naming). Unit {0}) naming namings tt (any_naming namings)

waits_as : (o : Option Row) (id : Guid) → option_map (λ row. row.id) o ≡ Some id
    → unwrap_or (option_map (λ row. is_zero row.id) o) false ≡ is_zero id
waits_as None id is = absurd (cc)
waits_as (Some row) id is = let same : row.id ≡ id = cc in ap is_zero same

waits_is : (rows : List Row) (place : ℕ) (id : Guid) → Has rows place id → waits rows place ≡ is_zero id
waits_is rows place id has = waits_as (slice_get rows place) id has

given_has : (rows : List Row) (place : ℕ) (old id : Guid) → Has rows place old → Has (given rows place id) place id
unfolding changed
given_has [] place old id has = absurd (cc)
given_has (row ∷ rows) zero old id has = refl
given_has (row ∷ rows) (suc place) old id has = given_has rows place old id has

-- a label changes no identifier
label_or : (b : Bool) (row : Row) (label : List ℕ) → (cond b (record row { name = label }) row).id ≡ row.id
label_or true row label = refl
label_or false row label = refl

label_ids : (rows : List Row) (place : ℕ) (label : List ℕ) (k : ℕ)
    → id_at (changed (λ row. cond (slice_index row.name 0 == 0) (record row { name = label }) row) rows place) k ≡ id_at rows k
unfolding changed
label_ids [] place label k = refl
label_ids (row ∷ rows) zero label zero = ap (λ (id : Guid). Some id) (label_or (slice_index row.name 0 == 0) row label)
label_ids (row ∷ rows) zero label (suc k) = refl
label_ids (row ∷ rows) (suc place) label zero = refl
label_ids (row ∷ rows) (suc place) label (suc k) = label_ids rows place label k

module _ (place : ℕ) (id : Guid) where
  labels_has : (old : Guid) (rows : List Row) (namings : List Naming) → Has rows place old → Has (fold labeled rows namings) place old
  labels_has old rows namings has =
      labels-keep (λ (naming : Naming). Unit {0}) (λ now. Has now place old)
      (λ now naming q is. label_ids now naming.row naming.label place ∙ is) rows namings (any_naming namings) has

  -- an identifier stays
  steps_has : (some : is_zero id ≡ false) (rows : List Row) (at : ℕ) (after : List Row) → Steps rows at after → Has rows place id
      → Has after place id
  steps_has some rows at after (inl same) has = rw same has
  steps_has some rows at after (inr (new, g)) has = elim (eqb_tells at place) [
    | inl w ↦
        let waited : waits rows place ≡ true = ap (waits rows) (sym w.1) ∙ g.waited in
        absurd (true≢false (sym waited ∙ waits_is rows place id has ∙ some))
    | inr w ↦ ap (option_map (λ row. row.id)) (steps-other rows at place after w.1 (inr (new, g))) ∙ has
  ]

  fixed_has : (some : is_zero id ≡ false) (rows : List Row) (namings : List Naming) (after : List Row)
      → in_turn fixed_one rows namings ≡ Ok after → Has rows place id → Has after place id
  fixed_has some rows namings after done has =
      in_turn-keeps fixed_one (λ (naming : Naming). Unit {0}) (λ now. Has now place id)
      (λ now naming later q step is. steps_has some now naming.row later (fixed-steps now naming later step) is)
      rows namings after (any_naming namings) done has

  derived_has : (some : is_zero id ≡ false) (seed : Guid) (rows : List Row) (namings : List Naming) (after : List Row)
      → in_turn (derived_one seed) rows namings ≡ Ok after → Has rows place id → Has after place id
  derived_has some seed rows namings after done has =
      in_turn-keeps (derived_one seed) (λ (naming : Naming). Unit {0}) (λ now. Has now place id)
      (λ now naming later q step is. steps_has some now naming.row later (derived-steps seed now naming later step) is)
      rows namings after (any_naming namings) done has

  -- a naming of the row at this place says this identifier
  abbrev pub Says : Naming → Type 0
  Says naming = naming.row ≡ place → naming.fixed ≡ Some id

  -- the row has it, and it isn't zero
  abbrev Got : List Row → Type 0
  Got rows = (is_zero id ≡ false) × Has rows place id

  got_by : (rows : List Row) (naming : Naming) (old : Guid) (after : List Row) (b : Bool) → (is_zero id || is_used rows id) ≡ b
      → naming.row ≡ place → Has rows place old → cond b (Err (TakenIdentifier naming.file)) (Ok (given rows naming.row id)) ≡ Ok after
      → Got after
  got_by rows naming old after true is at has done = absurd (cc)
  got_by rows naming old after false is at has done =
      let same : given rows naming.row id ≡ after = cc in (
        first_false (is_zero id) (is_used rows id) is,
        ap (λ (rs : List Row). id_at rs place) (sym same ∙ ap (λ p. given rows p id) at) ∙ given_has rows place old id has,
      )
    where
      first_false : (a b : Bool) → (a || b) ≡ false → a ≡ false
      first_false true b is = absurd (true≢false is)
      first_false false b is = refl

  -- the naming of the row gives it
  got_here : (rows : List Row) (naming : Naming) (old : Guid) (after : List Row) → is_zero old ≡ true → Has rows place old
      → naming.row ≡ place → naming.fixed ≡ Some id → fixed_one rows naming ≡ Ok after → Got after
  got_here rows naming old after zeros has at fixed done =
      let waited : waits rows naming.row ≡ true = ap (waits rows) at ∙ waits_is rows place old has ∙ zeros in
      got_by rows naming old after (is_zero id || is_used rows id) refl at has
      (sym (ap (λ b. cond b (fixed_to rows naming naming.fixed) (Ok rows)) waited ∙ ap (fixed_to rows naming) fixed) ∙ done)

  fixed_gets : (old : Guid) (rows : List Row) (namings : List Naming) (after : List Row) → is_zero old ≡ true → All Says namings
      → Somewhere (λ (naming : Naming). naming.row ≡ place) namings → Has rows place old → in_turn fixed_one rows namings ≡ Ok after
      → Got after
  unfolding in_turn
  fixed_gets old rows [] after zeros says there has done = absurd there
  fixed_gets old rows (naming ∷ namings) after zeros says there has done =
      by_step (fixed_one rows naming) refl done (λ mid rest kept other.
      fixed_gets old mid namings after zeros (All-tail Says naming namings says) (later there other) kept rest)
    where
      later : Somewhere (λ (n : Naming). n.row ≡ place) (naming ∷ namings) → naming.row ≢ place
          → Somewhere (λ (n : Naming). n.row ≡ place) namings
      later (inl here) other = absurd (other here)
      later (inr behind) other = behind

      by_step : (r : Result (List Row) IdentFault) → fixed_one rows naming ≡ r
          → then_with r (λ mid. in_turn fixed_one mid namings) ≡ Ok after
          → ((mid : List Row) → in_turn fixed_one mid namings ≡ Ok after → Has mid place old → naming.row ≢ place → Got after) → Got after
      by_step (Err fault) is done more = absurd (cc)
      by_step (Ok mid) is done more = elim (eqb_tells naming.row place) [
        | inl w ↦
            let got = got_here rows naming old mid zeros has w.1 (All-head Says naming namings says w.1) is in
            (got.0, fixed_has got.0 mid namings after done got.1)
        | inr w ↦
            more mid done (ap (option_map (λ row. row.id)) (steps-other rows naming.row place mid w.1 (fixed-steps rows naming mid is))
            ∙ has) w.1
      ]

  -- so it has it when all are named
  pub named_gets : (old : Guid) (rows : List Row) (namings : List Naming) (seed : Guid) (after : List Row) → is_zero old ≡ true
      → All Says namings → Somewhere (λ (naming : Naming). naming.row ≡ place) namings → Has rows place old
      → rows_named rows namings seed ≡ Ok after → Has after place id
  unfolding rows_named
  named_gets old rows namings seed after zeros says there has done =
      by_fixed (in_turn fixed_one (fold labeled rows namings) namings) refl done
    where
      by_fixed : (r : Result (List Row) IdentFault) → in_turn fixed_one (fold labeled rows namings) namings ≡ r
          → then_with r (λ fixed. in_turn (derived_one seed) fixed namings) ≡ Ok after → Has after place id
      by_fixed (Err fault) is done = absurd (cc)
      by_fixed (Ok fixed) is done =
          let got = fixed_gets old (fold labeled rows namings) namings fixed zeros says there (labels_has old rows namings has) is in
          derived_has got.0 seed fixed namings after done got.1
