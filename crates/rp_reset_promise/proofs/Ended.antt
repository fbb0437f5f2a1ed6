-- How a run of `apply` with a factory reset ends on the disk.
use Rattle.std.proofs.Common.{◌≡◌, ◌∙◌, ℕ, ◌%◌, ◌^◌, ◌≤◌, Bool, true, List, [], ◌∷◌, ◌++◌, Option, Some, None, Result, Ok, Err, refl, sym, ap, subst, inl, inr}
use Rattle.std.specs.Prelude.{IfOk, IfSome}
use Rattle.rp_apply_command.proofs.Ended.{finished, is_commit}
use Rattle.rp_apply_command.proofs.Goals.{settled_ok}
use Rattle.rp_apply_command.proofs.Moments.{leaves_all}
use Rattle.rp_apply_command.proofs.Runs.{made_none, made_sync}
use Rattle.rp_apply_command.specs.Applies.{CarriesOut, EndsHere, IsCommitRefusal, Opens, Outcome, PlanFits}
use Rattle.rp_apply_command.specs.Ends.{AreRead, IsBefore, IsBetween, LeavesAll}
use Rattle.rp_base.specs.Geometry.{IsSector}
use Rattle.rp_base.specs.declared.plan.Plan.{Plan}
use Rattle.rp_defs.specs.declared.definition.Definitions.{Definitions}
use Rattle.rp_disk.specs.Made.{dones}
use Rattle.rp_disk.specs.Runs.{MadeFirst}
use Rattle.rp_disk.specs.declared.call.Call.{Call}
use Rattle.rp_disk.specs.declared.call.Call.TheVariants.{Sync}
use Rattle.rp_disk.proofs.Runs.{made_first}
use Rattle.rp_io.specs.Files.{Tree}
use Rattle.rp_io.specs.declared.stored.Stored.{Stored}
use Rattle.rp_outcome.specs.Device.{Device}
use Rattle.rp_outcome.specs.Output.{Output, Refuses}
use Rattle.rp_outcome.specs.Refusals.{Refusal, folder_refusal, memory_refusal}
use Rattle.rp_outcome.specs.Store.{Store}
use Rattle.rp_planned.specs.declared.request.Request.{Request}
use Rattle.rp_reading.specs.Reading.{IsReadingRefusal, ReadsDefinitions, definitions_in}
use Rattle.rp_reading.specs.Stages.{Settles}
use Rattle.rp_reset_command.proofs.Refused.{IsRefused, none_renewed}
use Rattle.rp_reset_command.specs.Applies.{AppliesBehind, AppliesOpened, AppliesPlanned, AppliesReset, CarriesRenewal, GoesOn, TellsApplied}
use Rattle.rp_reset_command.specs.Renewing.{RenewsImage, with_reset}
use Rattle.rp_reset_command.specs.Reports.{renewal_report}
use Rattle.rp_reset_command.specs.declared.renewal.Renewal.{Renewal}
use Rattle.rp_reset_promise.proofs.Carried.{carried_all, carried_some}
use Rattle.rp_reset_promise.specs.Ends.{IsRenewalRefusal, ResetEnds}
use Rattle.rp_reset_promise.specs.Ends.ResetEnds.{before, behind, broken, between}

is_reading : (refusal : Refusal) → IsReadingRefusal refusal → IsRefused refusal
is_reading refusal (inl three) = inl (inl three)
is_reading refusal (inr (inl failed)) = inr (inr (inl (ap (λ (r : Refusal). r.status) failed)))
is_reading refusal (inr (inr want)) = inl (inr (inr (inr (ap (λ (r : Refusal). r.status) want))))

-- what was broken off has the refusal of one of both plans
pub broken_refusal : (definitions : Definitions) (renewal : Renewal) (o : Option Plan) → renewal.reset ≡ o → (disk later : Device)
    (sources drained : Store (List Stored)) (refusal : Refusal)
    → CarriesRenewal definitions renewal o disk later sources drained (Err refusal) → IsRenewalRefusal renewal refusal
broken_refusal definitions renewal None is disk later sources drained refusal carries = inl carries.refusal
broken_refusal definitions renewal (Some reset) is disk later sources drained refusal carries =
    by carries.outcome carries.resets carries.goes_on where
      by : (outcome : Outcome) → CarriesOut definitions (with_reset renewal reset) disk carries.middle sources carries.between outcome
          → GoesOn definitions renewal.planned carries.middle later carries.between drained outcome (Err refusal)
          → IsRenewalRefusal renewal refusal
      by (Ok done) resets goes_on = inl goes_on.refusal
      by (Err other) resets (same, same_sources, e) = inr (
        reset,
        is,
        subst (λ (r : Refusal). IsCommitRefusal (with_reset renewal reset) r) (sym (same_err refusal other e)) resets.refusal,
      ) where
        same_err : (a b : Refusal) → ◌≡◌ {A = Outcome} (Err a) (Err b) → a ≡ b
        same_err a b e = cc

-- a refusal of one of both plans has the status of one
refusal_status : (renewal : Renewal) (refusal : Refusal) → IsRenewalRefusal renewal refusal → IsBetween refusal.status
refusal_status renewal refusal (inl is) = is_commit renewal.planned refusal is
refusal_status renewal refusal (inr (reset, some, is)) = is_commit (with_reset renewal reset) refusal is

-- and so has what was broken off
pub broken_status : (definitions : Definitions) (renewal : Renewal) (disk later : Device) (sources drained : Store (List Stored))
    (refusal : Refusal)
    → CarriesRenewal definitions renewal renewal.reset disk later sources drained (Err refusal) → IsBetween refusal.status
broken_status definitions renewal disk later sources drained refusal carries =
    refusal_status renewal refusal
    (broken_refusal definitions renewal renewal.reset refl disk later sources drained refusal carries)

module _ (request : Request) (json : Bool) (dirs : List (List ℕ)) (folders : Store Tree) (disk later : Device)
    (sources : Store (List Stored)) (out after : Output) (status : ℕ) (of_sector : IsSector request.sector) (whole : request.size % 4096 ≡ 0)
    (most : request.size ≤ 2 ^ 44) where
  abbrev End : Type 0
  End = ResetEnds request json dirs folders disk later sources out after status

  -- a refusal before anything was carried out
  refused_so : (refusal : Refusal) → IsRefused refusal → Refuses out after refusal status → LeavesAll disk later → End
  refused_so refusal (inl is) refuses leaves = before (subst IsBefore (sym refuses.answers) is) leaves
  refused_so refusal (inr is) refuses leaves = broken (subst IsBetween (sym refuses.answers) is) leaves

  ended_at : (mid : Device) (left drained : Store (List Stored)) (refusal : Refusal)
      → MadeFirst disk.calls (Sync ∷ []) mid.calls → IsRefused refusal
      → EndsHere mid later left drained out after status refusal → End
  ended_at mid left drained refusal made is here =
      refused_so refusal is here.2 (leaves_all disk later
      (subst (λ (d : Device). MadeFirst disk.calls (Sync ∷ []) d.calls) (sym here.0) made))

  module _ (definitions : Definitions) (are : AreRead request dirs folders definitions) (opened : Device)
      (synced : opened.calls ≡ disk.calls ++ dones (Sync ∷ [])) (drained : Store (List Stored)) where
    committed : (read : Device) (asked : Store (List Stored)) (renewal : Renewal)
        → RenewsImage request definitions.list opened read sources asked (Ok renewal) → PlanFits renewal.planned → (answer : Outcome)
        → CarriesRenewal definitions renewal renewal.reset read later asked drained answer
        → TellsApplied json definitions renewal out after status answer → End
    committed read asked renewal renews fits (Ok done) carries tells =
        behind (finished out after (renewal_report json definitions renewal true) status tells) definitions renewal are
        (carried_all request definitions disk opened read later sources asked drained renewal of_sector whole most are.formed fits synced
        renews carries) tells
    committed read asked renewal renews fits (Err refusal) carries tells =
        between (subst IsBetween (sym tells.answers)
        (broken_status definitions renewal read later asked drained refusal carries)) definitions renewal are
        (carried_some request definitions disk opened read later sources asked drained renewal of_sector whole most are.formed fits synced
        renews (Err refusal) carries) refusal
        (broken_refusal definitions renewal renewal.reset refl read later asked drained refusal carries) tells

    made_by : (read : Device) (asked : Store (List Stored)) (answer : Result Renewal Refusal)
        → RenewsImage request definitions.list opened read sources asked answer → MadeFirst disk.calls (Sync ∷ []) read.calls
    made_by read asked answer renews =
        made_sync disk.calls read.calls (renews.1.only_read.calls ∙ synced)

    by_plan : (read : Device) (asked : Store (List Stored)) (answer : Result Renewal Refusal)
        → RenewsImage request definitions.list opened read sources asked answer → IfOk answer (λ renewal. PlanFits renewal.planned)
        → AppliesPlanned json definitions read later asked drained out after status answer → End
    by_plan read asked (Err refusal) renews fits here =
        ended_at read asked drained refusal (made_by read asked (Err refusal) renews)
        (none_renewed request definitions.list opened read sources asked refusal renews) here
    by_plan read asked (Ok renewal) renews fits (inl here) =
        ended_at read asked drained memory_refusal (made_by read asked (Ok renewal) renews) (inl (inr (inr (inr refl)))) here
    by_plan read asked (Ok renewal) renews fits (inr commits) = committed read asked renewal renews fits commits.0 commits.1 commits.2

  by_opening : (definitions : Definitions) → AreRead request dirs folders definitions → (opened : Device) (drained : Store (List Stored))
      (answer : Outcome) → Opens disk opened answer
      → AppliesOpened request json definitions opened later sources drained out after status answer
      → End
  by_opening definitions are opened drained (Err refusal) opens here =
      ended_at opened sources drained refusal (made_first {T = Unit {0}} {E = Refusal} (Err refusal) disk.calls opened.calls (Sync ∷ []) opens.ran)
      (inr (inl (ap (λ (r : Refusal). r.status) opens.refusal))) here
  by_opening definitions are opened drained (Ok done) opens plans =
      by_plan definitions are opened opens.ran.ok drained plans.0 plans.1 plans.2 plans.3 plans.4 plans.5

  -- the definitions were read
  read_so : (definitions : Definitions) (read : Store Tree) → ReadsDefinitions request.arch dirs folders read (Ok definitions)
      → AreRead request dirs folders definitions
  read_so definitions read reads = record { formed = reads.well_formed; told = by_told folders.told reads.settled } where
    by_told : (o : Option Tree) → IfSome o (λ tree. Settles folder_refusal (definitions_in request.arch tree dirs) (Ok definitions))
        → IfSome o (λ tree. definitions_in request.arch tree dirs ≡ Ok definitions)
    by_told None settles = tt
    by_told (Some tree) settles = settled_ok folder_refusal (definitions_in request.arch tree dirs) definitions settles

  by_definitions : (read : Store Tree) (drained : Store (List Stored))
      (answer : Result Definitions Refusal) → ReadsDefinitions request.arch dirs folders read answer
      → AppliesBehind request json disk later sources drained out after status answer → End
  by_definitions read drained (Err refusal) reads here =
      ended_at disk sources drained refusal (made_none disk.calls (Sync ∷ [])) (is_reading refusal reads.refusal) here
  by_definitions read drained (Ok definitions) reads opens =
      by_opening definitions (read_so definitions read reads) opens.0 drained opens.1 opens.2 opens.3

-- how it ends
pub ends_so : (request : Request) (json : Bool) (dirs : List (List ℕ)) (folders read : Store Tree) (disk later : Device)
    (sources drained : Store (List Stored)) (out after : Output) (status : ℕ)
    → IsSector request.sector → request.size % 4096 ≡ 0 → request.size ≤ 2 ^ 44
    → AppliesReset request json dirs folders read disk later sources drained out after status
    → ResetEnds request json dirs folders disk later sources out after status
ends_so request json dirs folders read disk later sources drained out after status of_sector whole most applies =
    by_definitions request json dirs folders disk later sources out after status of_sector whole most read drained applies.0
    applies.1 applies.2
