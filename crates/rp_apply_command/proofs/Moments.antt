-- What a run leaves, by what was made on the disk.
use Rattle.std.proofs.Common.{◌≡◌, ◌∙◌, ℕ, ◌%◌, ◌^◌, ◌≤◌, List, [], ◌∷◌, ◌++◌, Option, Some, None, Ok, refl, sym, ap, subst}
use Rattle.std.specs.Prelude.{IfSome, IfErr}
use Rattle.rp_apply.specs.Sourced.{paths_of}
use Rattle.rp_step.specs.Sourced.{sources_in}
use Rattle.rp_base.specs.Geometry.{IsSector}
use Rattle.rp_base.specs.Plan.{IsWellFormed as IsPlan}
use Rattle.rp_defs.specs.WellFormed.{IsWellFormed}
use Rattle.rp_defs.specs.declared.definition.Definition.{Definition}
use Rattle.rp_defs.specs.declared.definition.Definitions.{Definitions}
use Rattle.rp_disk.specs.Device.{CanHave, IsPossible}
use Rattle.rp_disk.specs.History.{held}
use Rattle.rp_disk.specs.Made.{Past, dones, history_of}
use Rattle.rp_disk.specs.Runs.{AtAnyMomentBehindSync, EndsSettled, MadeFirst}
use Rattle.rp_disk.specs.declared.call.Call.{Call}
use Rattle.rp_disk.specs.declared.call.Call.TheVariants.{Sync}
use Rattle.rp_disk.proofs.Noting.{can_before}
use Rattle.rp_disk.proofs.Runs.{any_moment_behind_sync, ends_settled, made_first}
use Rattle.rp_headline.proofs.Public.{ends_any, ends_with, is_left, is_left_any, is_left_whole, is_untouched}
use Rattle.rp_headline.specs.Left.{HasGoal, IsDoneWith, IsUntouched}
use Rattle.rp_idle.proofs.Public.{plan_for}
use Rattle.rp_io.specs.declared.stored.Stored.{Stored}
use Rattle.rp_outcome.specs.Device.{Device}
use Rattle.rp_outcome.specs.Statuses as exit
use Rattle.rp_outcome.specs.Store.{Store}
use Rattle.rp_planned.specs.Planning.{PlansImage, planned_of, target_of}
use Rattle.rp_planned.specs.declared.planned.Planned.{Planned}
use Rattle.rp_planned.specs.declared.request.Request.{Request}
use Rattle.rp_steps.specs.Calls.{calls as calls_for}
use Rattle.rp_steps.specs.Contents.{contents}
use Rattle.rp_stops.specs.Rows.{grown}
use Rattle.rp_apply_command.specs.Applies.{CarriesOut, Outcome, PlanFits, RunsPlan}
use Rattle.rp_apply_command.specs.Ends.{AtEachMoment, AtTheEnd, CarriesAll, CarriesSome, Given, IsBegun, IsCarriedOut, IsGoalOf, LeavesAll, StopsExactly, StopsSafely}
use Rattle.rp_apply_command.proofs.Called.{are_calls_for}
use Rattle.rp_apply_command.proofs.Goals.{is_goal, is_told, told_same}
use Rattle.rp_apply_command.proofs.Runs.{all_behind, ends_with_sync, made_behind, same_shown}

-- no call, or a sync alone
pub leaves_all : (disk later : Device) → MadeFirst disk.calls (Sync ∷ []) later.calls → LeavesAll disk later
leaves_all disk later made = record {
  made = made;
  at_moments = λ past. is_untouched past disk.calls later.calls (any_moment_behind_sync disk.calls later.calls [] made);
}

-- what holds where an object tells
where_told : {A : Type 0} (o : Option A) (P : A → Type 0) → ((a : A) → o ≡ Some a → P a) → IfSome o P
where_told None P each = tt
where_told (Some a) P each = each a refl

module _ (request : Request) (definitions : Definitions) (disk opened read later : Device) (sources asked drained : Store (List Stored))
    (planned : Planned) (answer : Outcome)
    (of_sector : IsSector request.sector) (whole : request.size % 4096 ≡ 0) (most : request.size ≤ 2 ^ 44)
    (formed : IsWellFormed definitions.list) (fits : PlanFits planned)
    (synced : opened.calls ≡ disk.calls ++ dones (Sync ∷ []))
    (plans : PlansImage request definitions.list opened read sources asked (Ok planned))
    (carries : CarriesOut definitions planned read later asked drained answer) where
  abbrev list : List Definition
  list = definitions.list

  abbrev old : Past → List ℕ
  old past = held (history_of past disk.calls)

  behind : read.calls ≡ disk.calls ++ dones (Sync ∷ [])
  behind = plans.1.only_read.calls ∙ synced

  -- the image that was planned for is the one before the sync
  same_old : (past : Past) → held (history_of past opened.calls) ≡ old past
  same_old past = ap (λ l. held (history_of past l)) synced ∙ same_shown past disk.calls

  -- a past that the disk can have, it could have when it was read
  before : (past : Past) → CanHave past later → CanHave past read
  before past can = can_before carries.earlier can

  goal_of : (past : Past) → CanHave past later → IsGoalOf request list (old past) planned
  goal_of past can = subst (λ image. IsGoalOf request list image planned) (same_old past)
      (is_goal request list opened read sources asked planned of_sector whole most formed fits plans past (before past can))

  told_of : (past : Past) → CanHave past later → IfSome sources.told (λ files. planned_of request list (old past) files ≡ Ok planned)
  told_of past can = subst (λ image. IfSome sources.told (λ files. planned_of request list image files ≡ Ok planned)) (same_old past)
      (is_told request list opened read sources asked planned plans past (before past can))

  module _ (o : Option Past) (calls : List Call) (runs : RunsPlan definitions planned read later asked answer o calls) where
    made : MadeFirst disk.calls (Sync ∷ calls) later.calls
    made = made_behind disk.calls read.calls later.calls calls behind (made_first answer read.calls later.calls calls runs.ran)

    abbrev Exact : List Stored → Type 0
    Exact files = (calls ≡ calls_for planned.plan planned.seen (sources_in files (paths_of definitions.list)))
        × IfErr answer (λ refusal. refusal.status ≡ exit.changed → ⊥)

    at_any : AtAnyMomentBehindSync disk.calls calls later.calls
    at_any = any_moment_behind_sync disk.calls later.calls calls made

    module _ (past : Past) (can : CanHave past later) (exact : IfSome asked.told Exact) where
      known : IsGoalOf request definitions.list (held (history_of past disk.calls)) planned
      known = goal_of past can

      well_formed : IsPlan planned.seen planned.plan
      well_formed = (plan_for request.sector (old past) request.empty planned.seen (target_of request.size planned.seen) list known.0
          request.seed planned.plan known.1).fits.well_formed

      exact_of : (files : List Stored) → sources.told ≡ Some files → calls ≡ calls_for planned.plan planned.seen (Given list files)
      exact_of files told =
          (subst (λ t. IfSome t Exact) (told_same request list opened read sources asked planned plans ∙ told) exact).0

      stops_safely : StopsSafely request definitions.list disk later planned runs.are.body past
      stops_safely = record {
        goal = known;
        at_moments = is_left_any request.sector past request.empty planned.seen (target_of request.size planned.seen) list known.0
            request.seed planned.plan disk.calls later.calls known.1 runs.are.body calls at_any
            (are_calls_for planned.seen planned.plan calls well_formed fits.notes runs.are);
      }

      stops_exactly : (files : List Stored) → sources.told ≡ Some files
          → StopsExactly request definitions.list disk later planned calls past files
      stops_exactly files told =
          let exact = exact_of files told in
          let any = subst (λ l. AtAnyMomentBehindSync disk.calls l later.calls) exact at_any in record {
            goal = subst (λ t. IfSome t (λ files. planned_of request list (old past) files ≡ Ok planned)) told (told_of past can);
            exact = exact;
            at_moments = is_left request.sector past request.empty planned.seen (target_of request.size planned.seen) list known.0
                request.seed planned.plan disk.calls later.calls known.1 (Given list files) any fits.notes;
            at_whole = is_left_whole request.sector past request.empty planned.seen (target_of request.size planned.seen) list known.0
                request.seed planned.plan disk.calls later.calls known.1 (Given list files) any fits.notes;
          }

      stops_each : IfSome sources.told (StopsExactly request list disk later planned calls past)
      stops_each = where_told sources.told (StopsExactly request list disk later planned calls past) stops_exactly

    module _ (done : later.calls ≡ read.calls ++ dones calls) where
      all : later.calls ≡ disk.calls ++ dones (Sync ∷ calls)
      all = all_behind disk.calls read.calls later.calls calls behind done

      settled : EndsSettled disk.calls (Sync ∷ calls) later.calls
      settled =
          let split = ends_with_sync _ in
          let same : Sync ∷ calls ≡ split.0 ++ Sync ∷ [] = ap (λ l. Sync ∷ l) runs.are.are ∙ split.1 in
          subst (λ l. EndsSettled disk.calls l later.calls) (sym same)
          (ends_settled disk.calls later.calls split.0 (all ∙ ap (λ l. disk.calls ++ dones l) same))

      module _ (past : Past) (can : CanHave past later) (exact : IfSome asked.told Exact) where
        is : IsGoalOf request definitions.list (held (history_of past disk.calls)) planned
        is = goal_of past can

        ends_so : AtTheEnd past later (HasGoal request.sector (held (history_of past disk.calls)) planned.seen definitions.list request.seed planned.plan)
        ends_so = ends_any request.sector past request.empty planned.seen (target_of request.size planned.seen) list is.0 request.seed
            planned.plan disk.calls later.calls is.1 runs.are.body calls settled
            (are_calls_for planned.seen planned.plan calls (well_formed past can exact) fits.notes runs.are)

        abbrev Done : List Stored → Type 0
        Done files = AtTheEnd past later
            (IsDoneWith request.sector (held (history_of past disk.calls)) planned.seen definitions.list request.seed planned.plan
            (contents planned.plan (Given definitions.list files) (grown (held (history_of past disk.calls)) planned.plan)))

        ends_exactly : (files : List Stored) → sources.told ≡ Some files → Done files
        ends_exactly files told =
            ends_with request.sector past request.empty planned.seen (target_of request.size planned.seen) list is.0 request.seed
            planned.plan disk.calls later.calls is.1 (Given list files)
            (subst (λ l. EndsSettled disk.calls (Sync ∷ l) later.calls) (exact_of past can exact files told) settled) fits.notes

        ends_each : IfSome sources.told Done
        ends_each = where_told sources.told Done ends_exactly

  some_of : (o : Option Past) → IsPossible o later → (calls : List Call) → RunsPlan definitions planned read later asked answer o calls
      → CarriesSome request definitions.list disk later sources planned o calls
  some_of None can calls runs = record {
    fits = fits;
    are = runs.are;
    made = made None calls runs;
    stops = tt;
    stops_exactly = tt;
  }
  some_of (Some past) can calls runs = record {
    fits = fits;
    are = runs.are;
    made = made (Some past) calls runs;
    stops = stops_safely (Some past) calls runs past can runs.exact;
    stops_exactly = stops_each (Some past) calls runs past can runs.exact;
  }

  all_of : (o : Option Past) → IsPossible o later → (calls : List Call) → RunsPlan definitions planned read later asked answer o calls
      → later.calls ≡ read.calls ++ dones calls → CarriesAll request definitions.list disk later sources planned o calls
  all_of None can calls runs done = record {
    some = some_of None can calls runs;
    all = all None calls runs done;
    settled = tt;
    ends = tt;
    ends_exactly = tt;
  }
  all_of (Some past) can calls runs done = record {
    some = some_of (Some past) can calls runs;
    all = all (Some past) calls runs done;
    settled = (settled (Some past) calls runs done past).0;
    ends = ends_so (Some past) calls runs done past can runs.exact;
    ends_exactly = ends_each (Some past) calls runs done past can runs.exact;
  }

  -- a plan, or the first of its calls
  pub carries_some : IsBegun request definitions.list disk later sources planned
  carries_some o can = let made = carries.runs o can in (made.0, some_of o can made.0 made.1)

-- all calls of a plan
pub carries_all : (request : Request) (definitions : Definitions) (disk opened read later : Device) (sources asked drained : Store (List Stored))
    (planned : Planned) → IsSector request.sector → request.size % 4096 ≡ 0 → request.size ≤ 2 ^ 44 → IsWellFormed definitions.list
    → PlanFits planned → opened.calls ≡ disk.calls ++ dones (Sync ∷ [])
    → PlansImage request definitions.list opened read sources asked (Ok planned)
    → CarriesOut definitions planned read later asked drained (Ok tt) → IsCarriedOut request definitions.list disk later sources planned
carries_all request definitions disk opened read later sources asked drained planned of_sector whole most formed fits synced plans carries o can =
    let made = carries.runs o can in (
      made.0,
      all_of request definitions disk opened read later sources asked drained planned (Ok tt) of_sector whole most formed fits synced plans
          carries o can made.0 made.1 made.1.ran.ok,
    )
