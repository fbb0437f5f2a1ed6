-- What a run of `apply` with a factory reset made of an image, and what a stop at any moment might have left: own rules.
use Rattle.std.specs.Prelude.{ℕ, ◌≡◌, ◌++◌, List, ◌∷◌, false, Option, IfSome, Some, Ok}
use Rattle.rp_apply.specs.Called.{AreCallsFor}
use Rattle.rp_apply_command.specs.Applies.{ForEachPast, PlanFits}
use Rattle.rp_apply_command.specs.Ends.{AtEachMoment, AtTheEnd, Given}
use Rattle.rp_base.specs.declared.plan.Plan.{Plan}
use Rattle.rp_base.specs.declared.seen.Seen.{Seen}
use Rattle.rp_defs.specs.declared.definition.Definition.{Definition}
use Rattle.rp_disk.specs.Calls.{all_done}
use Rattle.rp_disk.specs.History.{IsSettled, held}
use Rattle.rp_disk.specs.Made.{Past, dones, history_of}
use Rattle.rp_disk.specs.Runs.{MadeFirst}
use Rattle.rp_disk.specs.declared.call.Call.{Call}
use Rattle.rp_disk.specs.declared.call.Call.TheVariants.{Sync}
use Rattle.rp_gpt.specs.Shown.{accepted}
use Rattle.rp_io.specs.declared.stored.Stored.{Stored}
use Rattle.rp_outcome.specs.Device.{Device}
use Rattle.rp_outcome.specs.Store.{Store}
use Rattle.rp_plan.specs.Goal.{goal}
use Rattle.rp_planned.specs.Planning.{must_repair, target_of}
use Rattle.rp_planned.specs.declared.request.Request.{Request}
use Rattle.rp_reset.specs.Reset.{reset as reset_of}
use Rattle.rp_reset_ends.specs.Planned.{behind_reset}
use Rattle.rp_reset_headline.specs.Anew.{HasGoalAnew, HoldAnew, IsDoneAnew, calls_of_both}
use Rattle.rp_reset_headline.specs.Planned.{IsPlannedAnew, IsReset}
use Rattle.rp_reset_stops.specs.Through.{HoldWhatFills, IsSafeIfHonest, IsSafeIfWhole}
use Rattle.rp_sizes.specs.Facts.{facts}
use Rattle.rp_sizes.specs.declared.need.Fact.{Fact}
use Rattle.rp_stops.specs.After.{seen_after}

-- the first plan is the reset of the old table, and the second the goal of what is left and the definitions, by facts that the sources
-- told in this run
pub record AreGoalsOf (request : Request) (list : List Definition) (old : List ℕ) (seen : Seen) (reset plan : Plan) : Type 0 where
  pub known : List Fact
  pub resets : IsReset request.sector old request.empty seen list reset
  pub planned : IsPlannedAnew request.sector seen (target_of request.size seen) list known request.seed reset plan

-- the same by what these sources hold
pub record AreToldGoals (request : Request) (list : List Definition) (old : List ℕ) (files : List Stored) (seen : Seen)
    (reset plan : Plan) : Type 0 where
  pub seen_of : accepted request.sector old request.empty ≡ Ok seen
  pub unbroken : must_repair request.size seen ≡ false
  pub reset_is : reset_of seen list ≡ Ok (Some reset)
  pub goal_is : goal (seen_after seen reset) (target_of request.size seen) list (facts request.seed files reset.goal list) request.seed
      ≡ Ok plan

-- what holds of an image and both plans, whatever sources that don't tell have: a stop leaves the old table, the reset table or the
-- goal, and each old row in that holds its old bytes
pub record StopsBothSafely (request : Request) (list : List Definition) (disk later : Device) (seen : Seen) (reset plan : Plan)
    (before body : List Call) (past : Past) : Type 0 where
  pub goals : AreGoalsOf request list (held (history_of past disk.calls)) seen reset plan
  pub at_moments : AtEachMoment past disk later (IsSafeIfHonest request.sector (held (history_of past disk.calls)) seen reset plan
      (HoldWhatFills (all_done (held (history_of past disk.calls)) before) plan body))

-- where the sources tell too: the plans are those by what they tell, and the calls are those of their steps; a stop leaves one of the
-- three tables with all that, and on a disk that writes each sector whole or not at all it does so without a premise on chance
pub record StopsBothExactly (request : Request) (list : List Definition) (disk later : Device) (seen : Seen) (reset plan : Plan)
    (calls : List Call) (past : Past) (files : List Stored) : Type 0 where
  pub goals : AreToldGoals request list (held (history_of past disk.calls)) files seen reset plan
  pub exact : calls ≡ calls_of_both seen reset plan (Given list files)
  pub at_moments : AtEachMoment past disk later (IsSafeIfHonest request.sector (held (history_of past disk.calls)) seen reset plan
      (HoldAnew (held (history_of past disk.calls)) seen reset plan (Given list files)))
  pub at_whole : AtEachMoment past disk later (IsSafeIfWhole request.sector (held (history_of past disk.calls)) seen reset plan
      (HoldAnew (held (history_of past disk.calls)) seen reset plan (Given list files)))

-- both plans were carried out, or the first of their calls behind a sync: they are those of their steps
pub record CarriesSomeOfBoth (request : Request) (list : List Definition) (disk later : Device) (sources : Store (List Stored))
    (seen : Seen) (reset plan : Plan) (o : Option Past) (before behind : List Call) : Type 0 where
  pub fits : PlanFits (behind_reset seen reset plan)
  pub are_before : AreCallsFor seen reset before
  pub are_behind : AreCallsFor (seen_after seen reset) plan behind
  pub made : MadeFirst disk.calls (Sync ∷ before ++ behind) later.calls
  pub stops : IfSome o (StopsBothSafely request list disk later seen reset plan before are_behind.body)
  pub stops_exactly : IfSome o (λ past. IfSome sources.told
      (StopsBothExactly request list disk later seen reset plan (before ++ behind) past))

-- all of both was carried out: a sync and each call of their steps. Nothing is pending, so a stop leaves the bytes shown and nothing
-- else: its table is the goal of the reset table and the definitions, every partition of the reset table keeps its place and
-- bytes, and a second run without reset has nothing to do where none was dropped; where the sources tell, new partitions hold their
-- contents
pub record CarriesAllOfBoth (request : Request) (list : List Definition) (disk later : Device) (sources : Store (List Stored))
    (seen : Seen) (reset plan : Plan) (o : Option Past) (before behind : List Call) : Type 0 where
  pub some : CarriesSomeOfBoth request list disk later sources seen reset plan o before behind
  pub all : later.calls ≡ disk.calls ++ dones (Sync ∷ before ++ behind)
  pub settled : IfSome o (λ past. IsSettled (history_of past later.calls))
  pub ends : IfSome o (λ past. AtTheEnd past later
      (HasGoalAnew request.sector (held (history_of past disk.calls)) seen list request.seed reset plan))
  pub ends_exactly : IfSome o (λ past. IfSome sources.told (λ files. AtTheEnd past later
      (IsDoneAnew request.sector (held (history_of past disk.calls)) seen list request.seed reset plan (Given list files))))

-- of each past that the disk can have, and where none is named, calls carry out both plans: the first of them, or all
abbrev pub AreBegun : Request → List Definition → Device → Device → Store (List Stored) → Seen → Plan → Plan → Type 0
AreBegun request list disk later sources seen reset plan = ForEachPast later (λ o. (before : List Call) × (behind : List Call)
    × CarriesSomeOfBoth request list disk later sources seen reset plan o before behind)

abbrev pub AreCarriedOut : Request → List Definition → Device → Device → Store (List Stored) → Seen → Plan → Plan → Type 0
AreCarriedOut request list disk later sources seen reset plan = ForEachPast later (λ o. (before : List Call) × (behind : List Call)
    × CarriesAllOfBoth request list disk later sources seen reset plan o before behind)
