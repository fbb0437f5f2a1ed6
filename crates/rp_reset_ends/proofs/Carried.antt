-- What a run with a factory reset leaves, by what was made on the disk.
use Rattle.std.proofs.Common.{◌≡◌, ◌∙◌, ℕ, ◌%◌, ◌^◌, ◌≤◌, List, [], ◌∷◌, ◌++◌, Option, Some, None, Ok, Err, refl, sym, ap, subst, append_assoc}
use Rattle.std.specs.Prelude.{IfErr, IfSome}
use Rattle.rp_apply.specs.Called.{AreCallsFor, no_sources}
use Rattle.rp_apply.specs.Sourced.{paths_of}
use Rattle.rp_apply_command.specs.Applies.{CarriesOut, Outcome, PlanFits, RunsPlan}
use Rattle.rp_apply_command.specs.Ends.{AtTheEnd, Given}
use Rattle.rp_apply_command.proofs.Called.{are_calls_for}
use Rattle.rp_apply_command.proofs.Runs.{ends_with_sync}
use Rattle.rp_base.specs.Geometry.{IsSector}
use Rattle.rp_base.specs.declared.plan.Plan.{Plan}
use Rattle.rp_base.specs.declared.seen.Seen.{Seen}
use Rattle.rp_defs.specs.WellFormed.{IsWellFormed}
use Rattle.rp_defs.specs.declared.definition.Definition.{Definition}
use Rattle.rp_defs.specs.declared.definition.Definitions.{Definitions}
use Rattle.rp_disk.specs.Blocks.{flat}
use Rattle.rp_disk.specs.Device.{CanHave, IsPossible}
use Rattle.rp_disk.specs.History.{held}
use Rattle.rp_disk.specs.Made.{Made, Past, dones, history_of}
use Rattle.rp_disk.specs.Runs.{AtAnyMomentBehindSync, EndsSettled, MadeFirst}
use Rattle.rp_disk.specs.declared.call.Call.{Call}
use Rattle.rp_disk.specs.declared.call.Call.TheVariants.{Sync}
use Rattle.rp_disk.proofs.Blocks.{flat-append}
use Rattle.rp_disk.proofs.Noting.{possible_before}
use Rattle.rp_disk.proofs.Runs.{any_moment_behind_sync, ends_settled, first_of_longer, first_of_more, made_first, more}
use Rattle.rp_io.specs.declared.stored.Stored.{Stored}
use Rattle.rp_outcome.specs.Device.{Device}
use Rattle.rp_outcome.specs.Refusals.{Refusal}
use Rattle.rp_outcome.specs.Statuses as exit
use Rattle.rp_outcome.specs.Store.{Store}
use Rattle.rp_planned.specs.Planning.{target_of, with_seen}
use Rattle.rp_planned.specs.declared.planned.Planned.{Planned}
use Rattle.rp_planned.specs.declared.request.Request.{Request}
use Rattle.rp_reset_ends.specs.Planned.{PlansWithReset, behind_reset}
use Rattle.rp_reset_ends.specs.Ends.{AreBegun, AreCarriedOut, AreGoalsOf, CarriesAllOfBoth, CarriesSomeOfBoth, StopsBothExactly, StopsBothSafely}
use Rattle.rp_reset_ends.proofs.Alike.{calls_are_for}
use Rattle.rp_reset_ends.proofs.Goals.{are_goals, are_told}
use Rattle.rp_reset_headline.specs.Anew.{HasGoalAnew, IsDoneAnew, calls_of_both}
use Rattle.rp_reset_headline.proofs.Public.{ends_any, ends_exact, left_any, left_honest, left_whole, no_contents, notes_fit, plan_fits, reset_for}
use Rattle.rp_step.specs.Sourced.{sources_in}
use Rattle.rp_steps.specs.Calls.{calls as calls_for}
use Rattle.rp_steps.specs.Contents.{Sources}
use Rattle.rp_stops.specs.After.{seen_after}
use Rattle.rp_stops.specs.Order.{AreCallsOf}

-- what holds where an object tells
where_told : {A : Type 0} (o : Option A) (P : A → Type 0) → ((a : A) → o ≡ Some a → P a) → IfSome o P
where_told None P each = tt
where_told (Some a) P each = each a refl

-- calls behind others that were done whole
made_behind : (start mid now : List Made) (calls plan : List Call) → mid ≡ start ++ dones calls → MadeFirst mid plan now
    → MadeFirst start (calls ++ plan) now
made_behind start mid now calls plan so made = (
  dones calls ++ made.0,
  first_of_more calls made.0 plan made.1,
  made.2 ∙ ap (λ l. l ++ made.0) so ∙ append_assoc start (dones calls) made.0,
)

-- those that were made are the first of a longer list too
made_longer : (start now : List Made) (plan rest : List Call) → MadeFirst start plan now → MadeFirst start (plan ++ rest) now
made_longer start now plan rest made = (made.0, first_of_longer made.0 plan rest made.1, made.2)

-- blocks behind a sync, each ended by one, end with one
both_end : (xs ys : List (List Call)) (before behind : List Call) → before ≡ flat xs → behind ≡ flat ys
    → (calls : List Call) × (Sync ∷ before ++ behind ≡ calls ++ Sync ∷ [])
both_end xs ys before behind is then =
    let split = ends_with_sync (xs ++ ys) in (
      split.0,
      ap (λ l. Sync ∷ l) (ap (λ l. l ++ behind) is ∙ ap (λ l. flat xs ++ l) then ∙ sym (flat-append xs ys)) ∙ split.1,
    )

module _ (request : Request) (definitions : Definitions) (disk opened read : Device) (sources asked : Store (List Stored)) (seen : Seen)
    (reset plan : Plan) (of_sector : IsSector request.sector) (whole : request.size % 4096 ≡ 0) (most : request.size ≤ 2 ^ 44)
    (formed : IsWellFormed definitions.list) (fits : PlanFits (behind_reset seen reset plan))
    (synced : opened.calls ≡ disk.calls ++ dones (Sync ∷ []))
    (plans : PlansWithReset request definitions.list opened read sources asked seen reset plan) where
  abbrev list : List Definition
  list = definitions.list

  abbrev old : Past → List ℕ
  old past = held (history_of past disk.calls)

  -- reading makes no call
  behind_sync : read.calls ≡ disk.calls ++ dones (Sync ∷ [])
  behind_sync = plans.reads.only_read.calls ∙ synced

  -- what was made is the first of these calls, which are those of both plans' steps
  module _ (later : Device) (before behind : List Call) (are_before : AreCallsFor seen reset before)
      (are_behind : AreCallsFor (seen_after seen reset) plan behind)
      (made : MadeFirst disk.calls (Sync ∷ before ++ behind) later.calls) where
    at_any : AtAnyMomentBehindSync disk.calls (before ++ behind) later.calls
    at_any = any_moment_behind_sync disk.calls later.calls (before ++ behind) made

    abbrev IsExact : List Stored → Type 0
    IsExact files = before ++ behind ≡ calls_of_both seen reset plan (Given definitions.list files)

    module _ (past : Past) (can : CanHave past read) (exact : IfSome sources.told IsExact) where
      known : AreGoalsOf request definitions.list (held (history_of past disk.calls)) seen reset plan
      known = are_goals request list disk opened read sources asked seen reset plan of_sector whole most formed fits synced plans past can

      exact_of : (files : List Stored) → sources.told ≡ Some files → IsExact files
      exact_of files told = subst (λ t. IfSome t IsExact) told exact

      -- the calls of a reset have no contents
      resets : AreCallsOf seen reset [] before
      resets =
          let of = are_calls_for seen reset before
          (reset_for request.sector (old past) request.empty seen list reset known.resets).plan.fits.well_formed
          (notes_fit seen list reset plans.reset_is) are_before in
          subst (λ body. AreCallsOf seen reset body before) (no_contents seen list reset plans.reset_is are_before.body of.inside) of

      then : AreCallsOf (seen_after seen reset) plan are_behind.body behind
      then = are_calls_for (seen_after seen reset) plan behind
          (plan_fits request.sector (old past) request.empty seen list reset known.resets (target_of request.size seen) known.known
          request.seed plan known.planned).fits.well_formed fits.notes are_behind

      stops_safely : StopsBothSafely request definitions.list disk later seen reset plan before are_behind.body past
      stops_safely = record {
        goals = known;
        at_moments = left_any request.sector past request.empty seen (target_of request.size seen) list known.known request.seed reset plan
            disk.calls later.calls known.resets known.planned before are_behind.body behind at_any resets then;
      }

      stops_exactly : (files : List Stored) → sources.told ≡ Some files
          → StopsBothExactly request definitions.list disk later seen reset plan (before ++ behind) past files
      stops_exactly files told =
          let any = subst (λ l. AtAnyMomentBehindSync disk.calls l later.calls) (exact_of files told) at_any in
          record {
            goals = are_told request list disk opened read sources asked seen reset plan of_sector whole most formed fits synced plans past
                can files told;
            exact = exact_of files told;
            at_moments = left_honest request.sector past request.empty seen (target_of request.size seen) list known.known request.seed
                reset plan disk.calls later.calls known.resets known.planned (Given list files) any fits.notes;
            at_whole = left_whole request.sector past request.empty seen (target_of request.size seen) list known.known request.seed reset
                plan disk.calls later.calls known.resets known.planned (Given list files) any fits.notes;
          }

      stops_each : IfSome sources.told (StopsBothExactly request definitions.list disk later seen reset plan (before ++ behind) past)
      stops_each = where_told sources.told (StopsBothExactly request list disk later seen reset plan (before ++ behind) past) stops_exactly

    some : (o : Option Past) → IsPossible o read → IfSome o (λ past. IfSome sources.told IsExact)
        → CarriesSomeOfBoth request definitions.list disk later sources seen reset plan o before behind
    some None can exact = record {
      fits = fits;
      are_before = are_before;
      are_behind = are_behind;
      made = made;
      stops = tt;
      stops_exactly = tt;
    }
    some (Some past) can exact = record {
      fits = fits;
      are_before = are_before;
      are_behind = are_behind;
      made = made;
      stops = stops_safely past can exact;
      stops_exactly = stops_each past can exact;
    }

    -- all of these calls were made
    module _ (done : later.calls ≡ disk.calls ++ dones (Sync ∷ before ++ behind)) where
      settled : EndsSettled disk.calls (Sync ∷ before ++ behind) later.calls
      settled =
          let split = both_end _ _ before behind are_before.are are_behind.are in
          subst (λ l. EndsSettled disk.calls l later.calls) (sym split.1)
          (ends_settled disk.calls later.calls split.0 (done ∙ ap (λ l. disk.calls ++ dones l) split.1))

      module _ (past : Past) (can : CanHave past read) (exact : IfSome sources.told IsExact) where
        abbrev is : AreGoalsOf request definitions.list (held (history_of past disk.calls)) seen reset plan
        is = known past can exact

        ends_so : AtTheEnd past later
            (HasGoalAnew request.sector (held (history_of past disk.calls)) seen definitions.list request.seed reset plan)
        ends_so =
            ends_any request.sector past request.empty seen (target_of request.size seen) list is.known request.seed reset plan disk.calls
            later.calls is.resets is.planned before are_behind.body behind settled (resets past can exact) (then past can exact)

        abbrev Done : List Stored → Type 0
        Done files = AtTheEnd past later
            (IsDoneAnew request.sector (held (history_of past disk.calls)) seen definitions.list request.seed reset plan
            (Given definitions.list files))

        ends_exactly : (files : List Stored) → sources.told ≡ Some files → Done files
        ends_exactly files told =
            ends_exact request.sector past request.empty seen (target_of request.size seen) list is.known request.seed reset plan disk.calls
            later.calls is.resets is.planned (Given list files)
            (subst (λ l. EndsSettled disk.calls (Sync ∷ l) later.calls) (exact_of past can exact files told) settled) fits.notes

        ends_each : IfSome sources.told Done
        ends_each = where_told sources.told Done ends_exactly

      all : (o : Option Past) → IsPossible o read → IfSome o (λ past. IfSome sources.told IsExact)
          → CarriesAllOfBoth request definitions.list disk later sources seen reset plan o before behind
      all None can exact = record {
        some = some None can exact;
        all = done;
        settled = tt;
        ends = tt;
        ends_exactly = tt;
      }
      all (Some past) can exact = record {
        some = some (Some past) can exact;
        all = done;
        settled = (settled past).0;
        ends = ends_so past can exact;
        ends_exactly = ends_each past can exact;
      }

  -- the calls that carry out a plan are those of its steps, where sources tell
  abbrev Exact : Planned → List Call → Outcome → List Stored → Type 0
  Exact planned calls answer files =
      (calls ≡ calls_for planned.plan planned.seen (sources_in files (paths_of definitions.list)))
      × IfErr answer (λ refusal. refusal.status ≡ exit.changed → ⊥)

  exact_calls : (planned : Planned) (from till : Device) (held_by : Store (List Stored)) (answer : Outcome) (past : Past) (calls : List Call)
      → RunsPlan definitions planned from till held_by answer (Some past) calls → held_by.told ≡ sources.told
      → (files : List Stored) → sources.told ≡ Some files → calls ≡ calls_for planned.plan planned.seen (Given definitions.list files)
  exact_calls planned from till held_by answer past calls runs of_sources files told =
      (subst (λ t. IfSome t (Exact planned calls answer)) (of_sources ∙ told) runs.exact).0

  module _ (later : Device) (drained : Store (List Stored)) where
    -- by which sources the plan behind a reset that was broken off would have been carried out
    abbrev sources_by : Option (List Stored) → Sources
    sources_by None = no_sources
    sources_by (Some files) = Given definitions.list files

    abbrev rest : List Call
    rest = calls_for plan (seen_after seen reset) (sources_by sources.told)

    -- the reset was broken off
    module _ (refusal : Refusal)
        (carries : CarriesOut definitions (with_seen seen reset) read later asked drained (Err refusal)) where
      abbrev Part : Option Past → List Call → Type 0
      Part o before = RunsPlan definitions (with_seen seen reset) read later asked (Err refusal) o before

      made_part : (o : Option Past) (before : List Call) → Part o before → MadeFirst disk.calls (Sync ∷ before ++ rest) later.calls
      made_part o before runs = made_longer disk.calls later.calls (Sync ∷ before) rest
          (made_behind disk.calls read.calls later.calls (Sync ∷ []) before behind_sync
          (made_first {T = Unit {0}} {E = Refusal} (Err refusal) read.calls later.calls before runs.ran))

      exact_part : (o : Option Past) (before : List Call) → Part o before → IfSome o (λ past. IfSome sources.told (λ files.
          before ++ rest ≡ calls_of_both seen reset plan (Given definitions.list files)))
      exact_part None before runs = tt
      exact_part (Some past) before runs =
          where_told sources.told (λ files. before ++ rest ≡ calls_of_both seen reset plan (Given definitions.list files)) (λ files told.
          ap (λ l. l ++ rest) (exact_calls (with_seen seen reset) read later asked (Err refusal) past before runs plans.asks.told files told)
          ∙ ap (λ o. calls_for reset seen (Given list files) ++ calls_for plan (seen_after seen reset) (sources_by o)) told)

      pub broken_off : AreBegun request definitions.list disk later sources seen reset plan
      broken_off o can =
          let runs = carries.runs o can in (
            runs.0,
            rest,
            some later runs.0 rest runs.1.are (calls_are_for plan (sources_by sources.told) (seen_after seen reset))
                (made_part o runs.0 runs.1) o (possible_before o carries.earlier can) (exact_part o runs.0 runs.1),
          )

    -- it was done, and the plan behind it was carried out, or the first of its calls
    module _ (between : Device) (left : Store (List Stored)) (answer : Outcome)
        (resets_so : CarriesOut definitions (with_seen seen reset) read between asked left (Ok tt))
        (carries : CarriesOut definitions (behind_reset seen reset plan) between later left drained answer) where
      abbrev First : Option Past → List Call → Type 0
      First o before = RunsPlan definitions (with_seen seen reset) read between asked (Ok tt) o before

      abbrev Second : Option Past → List Call → Type 0
      Second o behind = RunsPlan definitions (behind_reset seen reset plan) between later left answer o behind

      so_far : (o : Option Past) (before : List Call) → First o before → between.calls ≡ disk.calls ++ dones (Sync ∷ before)
      so_far o before first = more disk.calls read.calls between.calls (Sync ∷ []) before behind_sync first.ran.ok

      made_both : (o : Option Past) (before behind : List Call) → First o before → Second o behind
          → MadeFirst disk.calls (Sync ∷ before ++ behind) later.calls
      made_both o before behind first second = made_behind disk.calls between.calls later.calls (Sync ∷ before) behind (so_far o before first)
          (made_first answer between.calls later.calls behind second.ran)

      exact_both : (o : Option Past) (before behind : List Call) → First o before → Second o behind → IfSome o (λ past. IfSome sources.told
          (λ files. before ++ behind ≡ calls_of_both seen reset plan (Given definitions.list files)))
      exact_both None before behind first second = tt
      exact_both (Some past) before behind first second =
          where_told sources.told (λ files. before ++ behind ≡ calls_of_both seen reset plan (Given definitions.list files)) (λ files told.
          ap (λ l. l ++ behind) (exact_calls (with_seen seen reset) read between asked (Ok tt) past before first plans.asks.told files told)
          ∙ ap (λ l. calls_for reset seen (Given list files) ++ l) (exact_calls (behind_reset seen reset plan) between later left answer past
          behind second (resets_so.told ∙ plans.asks.told) files told))

      -- what the disk can have had by now, it could have had in between, and when it was read
      earlier : (o : Option Past) → IsPossible o later → IsPossible o between × IsPossible o read
      earlier o can = let mid = possible_before o carries.earlier can in (mid, possible_before o resets_so.earlier mid)

      pub some_of_both : AreBegun request definitions.list disk later sources seen reset plan
      some_of_both o can =
          let was = earlier o can in
          let first = resets_so.runs o was.0 in
          let second = carries.runs o can in (
            first.0,
            second.0,
            some later first.0 second.0 first.1.are second.1.are (made_both o first.0 second.0 first.1 second.1) o was.1
                (exact_both o first.0 second.0 first.1 second.1),
          )

      pub all_of_both : ((o : Option Past) (behind : List Call) → Second o behind → later.calls ≡ between.calls ++ dones behind)
          → AreCarriedOut request definitions.list disk later sources seen reset plan
      all_of_both done o can =
          let was = earlier o can in
          let first = resets_so.runs o was.0 in
          let second = carries.runs o can in (
            first.0,
            second.0,
            all later first.0 second.0 first.1.are second.1.are (made_both o first.0 second.0 first.1 second.1)
                (more disk.calls between.calls later.calls (Sync ∷ first.0) second.0 (so_far o first.0 first.1) (done o second.0 second.1))
                o was.1 (exact_both o first.0 second.0 first.1 second.1),
          )
