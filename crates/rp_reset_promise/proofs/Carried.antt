-- What was carried out of what is planned with a factory reset.
use Rattle.std.proofs.Common.{◌≡◌, ◌∙◌, ◌%◌, ◌^◌, ◌≤◌, List, [], ◌∷◌, ◌++◌, Bool, false, Option, Some, None, Ok, Err, refl, sym, ap, subst}
use Rattle.rp_apply_command.proofs.Moments.{carries_all, carries_some}
use Rattle.rp_apply_command.specs.Applies.{CarriesOut, Outcome, PlanFits}
use Rattle.rp_base.specs.Geometry.{IsSector}
use Rattle.rp_base.specs.declared.plan.Plan.{Plan}
use Rattle.rp_base.specs.declared.seen.Seen.{Seen}
use Rattle.rp_defs.specs.WellFormed.{IsWellFormed}
use Rattle.rp_defs.specs.declared.definition.Definitions.{Definitions}
use Rattle.rp_disk.specs.Made.{dones}
use Rattle.rp_disk.specs.declared.call.Call.{Call}
use Rattle.rp_disk.specs.declared.call.Call.TheVariants.{Sync}
use Rattle.rp_io.specs.declared.stored.Stored.{Stored}
use Rattle.rp_outcome.specs.Device.{Device}
use Rattle.rp_outcome.specs.Store.{Store}
use Rattle.rp_planned.specs.Planning.{PlansImage, PlansUnless, with_seen}
use Rattle.rp_planned.specs.declared.planned.Planned.{Planned}
use Rattle.rp_planned.specs.declared.request.Request.{Request}
use Rattle.rp_reset_command.proofs.Known.{Aimed, Known, aimed, known}
use Rattle.rp_reset_command.specs.Applies.{CarriesBoth, CarriesRenewal, GoesOn}
use Rattle.rp_reset_command.specs.Renewing.{RenewsImage, seen_left, with_reset}
use Rattle.rp_reset_command.specs.declared.renewal.Renewal.{Renewal}
use Rattle.rp_reset_ends.proofs.Public.{all_of_both, broken_off, some_of_both}
use Rattle.rp_reset_ends.specs.Planned.{PlansWithReset, behind_reset}
use Rattle.rp_stops.specs.After.{seen_after}
use Rattle.rp_reset.specs.Reset.{reset as reset_of}
use Rattle.rp_reset_promise.specs.Ends.{CarriesAllBy, CarriesSomeBy, ResetsNothing}

module _ (request : Request) (definitions : Definitions) (disk opened read later : Device) (sources asked drained : Store (List Stored))
    (renewal : Renewal) (of_sector : IsSector request.sector) (whole : request.size % 4096 ≡ 0) (most : request.size ≤ 2 ^ 44)
    (formed : IsWellFormed definitions.list) (fits : PlanFits renewal.planned)
    (synced : opened.calls ≡ disk.calls ++ dones (Sync ∷ []))
    (renews : RenewsImage request definitions.list opened read sources asked (Ok renewal)) where
  told : Known request definitions.list opened read sources asked renewal
  told = known request definitions.list opened read sources asked renewal renews

  -- where no row is taken out, it is planned for the image as it was seen
  plans_alone : renewal.reset ≡ None → PlansImage request definitions.list opened read sources asked (Ok renewal.planned)
  plans_alone none =
      let over : PlansUnless false request definitions.list renewal.seen sources asked (Ok renewal.planned) =
      subst (λ (r : Option Plan). PlansUnless false request definitions.list (seen_left renewal.seen r) sources asked (Ok renewal.planned)) none
      told.plans in (
        Ok renewal.seen,
        told.reads,
        subst (λ (b : Bool). PlansUnless b request definitions.list renewal.seen sources asked (Ok renewal.planned)) (sym told.repaired) over,
      )

  nothing_out : renewal.reset ≡ None → ResetsNothing definitions.list renewal
  nothing_out none =
      let same : renewal.planned.seen ≡ renewal.seen =
      (aimed request definitions.list (seen_left renewal.seen renewal.reset) sources asked renewal.planned told.plans).same
      ∙ ap (λ (r : Option Plan). seen_left renewal.seen r) none in
      ap (λ (s : Seen). reset_of s definitions.list) same ∙ told.made ∙ ap (λ (r : Option Plan). Ok r) none

  module _ (reset : Plan) (some : renewal.reset ≡ Some reset) where
    abbrev left : Seen
    left = seen_after renewal.seen reset

    aim : Aimed request definitions.list (seen_after renewal.seen reset) sources asked renewal.planned
    aim = subst (λ (r : Option Plan). Aimed request definitions.list (seen_left renewal.seen r) sources asked renewal.planned) some
        (aimed request definitions.list (seen_left renewal.seen renewal.reset) sources asked renewal.planned told.plans)

    plans_both : PlansWithReset request definitions.list opened read sources asked renewal.seen reset renewal.planned.plan
    plans_both = record {
      known = aim.facts;
      reads = told.reads;
      unbroken = told.repaired;
      reset_is = told.made ∙ ap (λ (r : Option Plan). Ok r) some;
      asks = aim.asks;
      goal_is = aim.is;
    }

    planned_is : renewal.planned ≡ behind_reset renewal.seen reset renewal.planned.plan
    planned_is = ap (λ (s : Seen). with_seen s renewal.planned.plan) aim.same

    fits_so : PlanFits (behind_reset renewal.seen reset renewal.planned.plan)
    fits_so = subst PlanFits planned_is fits

    some_by : (answer : Outcome) (carries : CarriesBoth definitions renewal reset read later asked drained answer)
        → (outcome : Outcome) → CarriesOut definitions (with_reset renewal reset) read carries.middle asked carries.between outcome
        → GoesOn definitions renewal.planned carries.middle later carries.between drained outcome answer
        → CarriesSomeBy request definitions.list disk later sources renewal (Some reset)
    some_by answer carries (Ok done) resets goes_on =
        some_of_both request definitions disk opened read sources asked renewal.seen reset renewal.planned.plan of_sector whole most formed
        fits_so synced plans_both later drained carries.middle carries.between answer resets
        (subst (λ (p : Planned). CarriesOut definitions p carries.middle later carries.between drained answer) planned_is goes_on)
    some_by answer carries (Err refusal) resets (same, same_sources, is) =
        broken_off request definitions disk opened read sources asked renewal.seen reset renewal.planned.plan of_sector whole most formed
        fits_so synced plans_both later drained refusal
        (subst (λ (d : Device). CarriesOut definitions (with_reset renewal reset) read d asked drained (Err refusal)) (sym same)
        (subst (λ (s : Store (List Stored)). CarriesOut definitions (with_reset renewal reset) read carries.middle asked s (Err refusal))
        (sym same_sources) resets))

    all_by : (carries : CarriesBoth definitions renewal reset read later asked drained (Ok tt))
        → (outcome : Outcome) → CarriesOut definitions (with_reset renewal reset) read carries.middle asked carries.between outcome
        → GoesOn definitions renewal.planned carries.middle later carries.between drained outcome (Ok tt)
        → CarriesAllBy request definitions.list disk later sources renewal (Some reset)
    all_by carries (Ok done) resets goes_on =
        all_of_both request definitions disk opened read sources asked renewal.seen reset renewal.planned.plan of_sector whole most formed
        fits_so synced plans_both later drained carries.middle carries.between (Ok tt) resets
        (subst (λ (p : Planned). CarriesOut definitions p carries.middle later carries.between drained (Ok tt)) planned_is goes_on)
        (λ o behind second. second.ran.ok)
    all_by carries (Err refusal) resets (same, same_sources, is) = absurd (not_err is) where
      not_err : ◌≡◌ {A = Outcome} (Ok tt) (Err refusal) → ⊥
      not_err e = absurd (cc)

  some_renewed : (answer : Outcome) (o : Option Plan) → renewal.reset ≡ o
      → CarriesRenewal definitions renewal o read later asked drained answer → CarriesSomeBy request definitions.list disk later sources renewal o
  some_renewed answer None is carries = (
    nothing_out is,
    carries_some request definitions disk opened read later sources asked drained renewal.planned answer of_sector whole most formed fits
        synced (plans_alone is) carries,
  )
  some_renewed answer (Some reset) is carries = some_by reset is answer carries carries.outcome carries.resets carries.goes_on

  all_renewed : (o : Option Plan) → renewal.reset ≡ o
      → CarriesRenewal definitions renewal o read later asked drained (Ok tt) → CarriesAllBy request definitions.list disk later sources renewal o
  all_renewed None is carries = (
    nothing_out is,
    carries_all request definitions disk opened read later sources asked drained renewal.planned of_sector whole most formed fits synced
        (plans_alone is) carries,
  )
  all_renewed (Some reset) is carries = all_by reset is carries carries.outcome carries.resets carries.goes_on

  -- the first of what is planned was carried out
  pub carried_some : (answer : Outcome) → CarriesRenewal definitions renewal renewal.reset read later asked drained answer
      → CarriesSomeBy request definitions.list disk later sources renewal renewal.reset
  carried_some answer carries = some_renewed answer renewal.reset refl carries

  -- all of it was
  pub carried_all : CarriesRenewal definitions renewal renewal.reset read later asked drained (Ok tt)
      → CarriesAllBy request definitions.list disk later sources renewal renewal.reset
  carried_all carries = all_renewed renewal.reset refl carries
