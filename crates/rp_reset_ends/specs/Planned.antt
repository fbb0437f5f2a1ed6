-- What is planned with a factory reset, by its stages: own rules.
use Rattle.std.specs.Prelude.{◌≡◌, false, List, Ok, Some}
use Rattle.rp_base.specs.declared.plan.Plan.{Plan}
use Rattle.rp_base.specs.declared.seen.Seen.{Seen}
use Rattle.rp_defs.specs.declared.definition.Definition.{Definition}
use Rattle.rp_io.specs.declared.stored.Stored.{Stored}
use Rattle.rp_outcome.specs.Device.{Device}
use Rattle.rp_outcome.specs.Store.{Store}
use Rattle.rp_plan.specs.Goal.{goal}
use Rattle.rp_planned.specs.Planning.{AsksSources, ReadsImage, must_repair, target_of, with_seen}
use Rattle.rp_planned.specs.declared.planned.Planned.{Planned}
use Rattle.rp_planned.specs.declared.request.Request.{Request}
use Rattle.rp_reset.specs.Reset.{reset as reset_of}
use Rattle.rp_sizes.specs.declared.need.Fact.{Fact}
use Rattle.rp_stops.specs.After.{seen_after}

-- the plan behind a reset, with what is seen of the image then
abbrev pub behind_reset : Seen → Plan → Plan → Planned
behind_reset seen reset plan = with_seen (seen_after seen reset) plan

-- the image was read and needs no repair, the definitions take rows out of its table, the sources that are wanted over what is left
-- were asked, and the plan is the goal for that
pub record PlansWithReset (request : Request) (list : List Definition) (disk read : Device) (sources asked : Store (List Stored))
    (seen : Seen) (reset plan : Plan) : Type 0 where
  pub known : List Fact
  pub reads : ReadsImage request.sector request.empty disk read (Ok seen)
  pub unbroken : must_repair request.size seen ≡ false
  pub reset_is : reset_of seen list ≡ Ok (Some reset)
  pub asks : AsksSources request.seed reset.goal list sources asked (Ok known)
  pub goal_is : goal (seen_after seen reset) (target_of request.size (seen_after seen reset)) list known request.seed ≡ Ok plan
