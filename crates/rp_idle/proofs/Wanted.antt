-- Where each definition has a row, nothing is demanded or new, and each asks for what it says itself.
use Rattle.std.proofs.Common.{◌≡◌, ◌∙◌, ℕ, ℤ, suc, ◌+◌, ◌≤◌, Bool, true, false, cond, List, [], ◌∷◌, length, Option, Some, None, arith, inl, inr, refl, ap, sym, subst, slice_get}
use Rattle.std.specs.Prelude.{◌&&◌, unwrap_or, int_le}
use Rattle.std.specs.List.{enumerate_from}
use Rattle.std.specs.Option.{option_or}
use Rattle.std.proofs.lemmas.Option.{slice_get_past}
use Rattle.std.proofs.lemmas.Bool.{cases_lt}
use Rattle.rp_base.specs.declared.want.Want.{Want}
use Rattle.rp_areas.specs.Areas.{want_at}
use Rattle.rp_defs.specs.WellFormed.{HasPartner, IsSized, IsWellFormed}
use Rattle.rp_defs.specs.declared.definition.Definition.{Definition}
use Rattle.rp_defs.specs.declared.definition.Verity.{Verity}
use Rattle.rp_defs.specs.declared.definition.Verity.TheVariants.{Off, Data, Hash}
use Rattle.rp_demand.specs.declared.demand.Demand.TheVariants.{VerityHalf}
use Rattle.rp_layout.specs.Again.{AsksFor, exactly}
use Rattle.rp_sizes.specs.declared.need.Fact.{Fact}
use Rattle.rp_sizes.specs.Needs.{is_new, need_of, needs_of}
use Rattle.rp_sizes.specs.News.{new_of, news_of}
use Rattle.rp_sizes.specs.Sizes.{asked, asked_of, differ, first_demand, first_of, half_alone, half_demand, is_split, least_by, least_of, size_demand, sized, too_large}
use Rattle.rp_sizes.proofs.AskedLemmas.{asked_length, sound_at, want_is}
use Rattle.rp_plan.specs.Kept.{is_kept, kept_of}
use Rattle.rp_idle.proofs.Lists.{no_answers, no_past, none_passes}

-- each definition of a list has a row
abbrev pub AllHave : List (Option ℕ) → List Definition → Type 0
AllHave matched defs = (file : ℕ) (def : Definition) → slice_get defs file ≡ Some def → is_new matched file ≡ false

no_first_step : {A : Type 0} (o rest : Option A) → o ≡ None → rest ≡ None → option_or o rest ≡ None
no_first_step None rest lacks is = is
no_first_step (Some a) rest lacks is = absurd (cc)

no_first : {X Y : Type 0} (f : ℕ × X → Option Y) (n : ℕ) (xs : List X)
    → ((k m : ℕ) (x : X) → m ≡ n + k → slice_get xs k ≡ Some x → f (m, x) ≡ None) → first_of f (enumerate_from n xs) ≡ None
no_first f n [] lacks = refl
no_first f n (x ∷ xs) lacks = no_first_step (f (n, x)) (first_of f (enumerate_from (n + 1) xs)) (lacks 0 n x (omega arith) refl)
    (no_first f (n + 1) xs (λ k m y e at. lacks (suc k) m y (omega (arith, e)) at))

module _ (matched : List (Option ℕ)) (defs : List Definition) (have : AllHave matched defs) where
  pub here : (k m : ℕ) (def : Definition) → m ≡ 0 + k → slice_get defs k ≡ Some def → slice_get defs m ≡ Some def
  here k m def e at = let same : m ≡ k = omega (arith, e) in ap (slice_get defs) same ∙ at

  pub no_news : (wants : List Want) → news_of matched wants defs ≡ []
  no_news wants = no_answers (new_of matched wants) 0 defs (λ k m def e at. rw (have m def (here k m def e at)) refl)

  pub no_needs : needs_of matched defs ≡ []
  no_needs = no_answers (need_of matched) 0 defs (λ k m def e at. rw (have m def (here k m def e at)) refl)

  pub none_kept : (t : ℤ) → kept_of matched t defs ≡ []
  none_kept t = none_passes (is_kept matched t) 0 defs (λ k m def e at.
      ap (λ b. b && int_le def.priority t) (have m def (here k m def e at)))

module _ (matched : List (Option ℕ)) (defs : List Definition) (facts : List Fact) (have : AllHave matched defs) (wf : IsWellFormed defs)
  where
    whole_by : (file : ℕ) (def : Definition) (v : Verity) → slice_get defs file ≡ Some def → HasPartner defs file def v
        → is_split matched file v ≡ false
    whole_by file def Off at partner = refl
    whole_by file def (Data p) at (other, there, pair) =
        ap (λ a. differ a (is_new matched p)) (have file def at) ∙ have p other there
    whole_by file def (Hash p) at (other, there, pair) =
        ap (λ a. differ a (is_new matched p)) (have file def at) ∙ have p other there

    no_halves : half_demand matched defs ≡ None
    no_halves = no_first (half_alone matched) 0 defs (λ k m def e at.
        ap (λ b. cond b (Some (VerityHalf m)) None) (whole_by m def def.verity (here matched defs have k m def e at)
        (wf.partners m def (here matched defs have k m def e at))))

    no_sizes : size_demand matched defs facts ≡ None
    no_sizes = no_first (too_large matched defs facts) 0 defs (λ k m def e at. rw (have m def (here matched defs have k m def e at)) refl)

    pub no_demand : first_demand matched defs facts ≡ None
    no_demand = ap (λ o. option_or o (size_demand matched defs facts)) no_halves ∙ no_sizes

    -- what a definition asks for
    pub own_want : (file : ℕ) (def : Definition) → slice_get defs file ≡ Some def → want_at (asked matched defs facts) file ≡ def.want
    own_want file def at =
        ap (λ o. unwrap_or o (record { min = 0; max = 0; weight = 0; pad_min = 0; pad_max = 0; pad_weight = 0 }))
        (want_is matched defs facts file def at)
        ∙ ap (λ b. cond b (sized def.verity (least_of defs facts (file, def)) def.want) def.want) (have file def at)

no_want : (matched : List (Option ℕ)) (defs : List Definition) (facts : List Fact) (file : ℕ) → slice_get defs file ≡ None
    → want_at (asked matched defs facts) file ≡ record { min = 0; max = 0; weight = 0; pad_min = 0; pad_max = 0; pad_weight = 0 }
no_want matched defs facts file none =
    ap (λ o. unwrap_or o (record { min = 0; max = 0; weight = 0; pad_min = 0; pad_max = 0; pad_weight = 0 }))
    (slice_get_past (asked matched defs facts) file (elim (cases_lt file (length defs)) [
      | inl below ↦ absurd (no_past defs file below none)
      | inr past ↦ omega (arith, past, asked_length matched defs facts)
    ]))

weightless : (want : Want) (least : ℕ) → want.weight ≡ 0 → record want { min = least; max = least } ≡ exactly least want
weightless want least none = ap (λ w. record want { min = least; max = least; weight = w }) none

-- what is asked of a new definition is what it says itself, or more
sized_asks : (defs : List Definition) (facts : List Fact) (file has : ℕ) (def : Definition) (v : Verity) → IsSized v def → has ≡ 0
    → AsksFor def.want has (sized v (least_by defs facts (file, def) v) def.want)
sized_asks defs facts file has def Off is none = inr (none, omega arith, inl refl)
sized_asks defs facts file has def (Data p) is none = inr (
  none,
  omega arith,
  inr (is, weightless def.want (least_by defs facts (file, def) (Data p)) is),
)
sized_asks defs facts file has def (Hash p) is none = inr (
  none,
  omega arith,
  inr (is, weightless def.want (least_by defs facts (file, def) (Hash p)) is),
)

asks_by : (b : Bool) (own : Want) (has : ℕ) (more : Want) → (b ≡ true → AsksFor own has more) → AsksFor own has (cond b more own)
asks_by true own has more is = is refl
asks_by false own has more is = inl refl

module _ (matched again : List (Option ℕ)) (defs : List Definition) (facts others : List Fact) (have : AllHave again defs)
    (wf : IsWellFormed defs)
    (units : ℕ → ℕ) (no_units : (file : ℕ) (def : Definition) → slice_get defs file ≡ Some def → is_new matched file ≡ true → units
    file ≡ 0) where
  asks_at : (file : ℕ) (o : Option Definition) → slice_get defs file ≡ o
      → AsksFor (want_at (asked again defs others) file) (units file) (want_at (asked matched defs facts) file)
  asks_at file None none = inl (no_want matched defs facts file none ∙ sym (no_want again defs others file none))
  asks_at file (Some def) at =
      let asked_is : want_at (asked matched defs facts) file ≡ asked_of matched defs facts (file, def) =
      ap (λ o. unwrap_or o (record { min = 0; max = 0; weight = 0; pad_min = 0; pad_max = 0; pad_weight = 0 }))
      (want_is matched defs facts file def at) in
      subst (λ (w : Want). AsksFor w (units file) (want_at (asked matched defs facts) file))
      (sym (own_want again defs others have wf file def at))
      (subst (λ (w : Want). AsksFor def.want (units file) w) (sym asked_is)
      (asks_by (is_new matched file) def.want (units file) (sized def.verity (least_of defs facts (file, def)) def.want)
      (λ new. sized_asks defs facts file (units file) def def.verity (sound_at defs file def wf at).sized (no_units file def at new))))

  -- what was asked for is what the definitions say themselves, or more for new ones
  pub asks_for : (file : ℕ) → AsksFor (want_at (asked again defs others) file) (units file) (want_at (asked matched defs facts) file)
  asks_for file = asks_at file (slice_get defs file) refl

  limits_at : (file : ℕ) (o : Option Definition) → slice_get defs file ≡ o
      → (want_at (asked again defs others) file).min ≤ (want_at (asked again defs others) file).max
  limits_at file None none = rw (no_want again defs others file none) (omega arith)
  limits_at file (Some def) at = rw (own_want again defs others have wf file def at) (sound_at defs file def wf at).want.size

  pub in_limits : (file : ℕ) → (want_at (asked again defs others) file).min ≤ (want_at (asked again defs others) file).max
  in_limits file = limits_at file (slice_get defs file) refl
