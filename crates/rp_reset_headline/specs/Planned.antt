-- A factory reset of an image, and the plan behind it: own rules.
use Rattle.std.specs.Prelude.{ℕ, ◌≡◌, List, Some, Ok}
use Rattle.rp_base.specs.Geometry.{IsSector}
use Rattle.rp_base.specs.Plan.{IsTarget}
use Rattle.rp_base.specs.Table.{TableFits}
use Rattle.rp_base.specs.declared.guid.Guid.{Guid}
use Rattle.rp_base.specs.declared.plan.Plan.{Plan}
use Rattle.rp_base.specs.declared.seen.Seen.{Seen}
use Rattle.rp_defs.specs.WellFormed.{IsWellFormed}
use Rattle.rp_defs.specs.declared.definition.Definition.{Definition}
use Rattle.rp_gpt.specs.Shown.{accepted}
use Rattle.rp_gpt.specs.declared.table_fault.Empty.{Empty}
use Rattle.rp_plan.specs.Goal.{goal}
use Rattle.rp_reset.specs.Reset.{reset as reset_of}
use Rattle.rp_sizes.specs.Needs.{AreFactsOn, wanted_of}
use Rattle.rp_sizes.specs.declared.need.Fact.{Fact}
use Rattle.rp_stops.specs.After.{seen_after}

-- an image is accepted with a table whose numbers are within their fields, and the plan takes the rows of definitions that are to be
-- reset out of it
pub record IsReset (sector : ℕ) (old : List ℕ) (empty : Empty) (seen : Seen) (defs : List Definition) (reset : Plan) : Type 0 where
  pub of_sector : IsSector sector
  pub seen_of : accepted sector old empty ≡ Ok seen
  pub fits : TableFits seen.shown
  pub reset_is : reset_of seen defs ≡ Ok (Some reset)

-- a plan is the goal for what a reset leaves, and for a length that the image may have
pub record IsPlannedAnew (sector : ℕ) (seen : Seen) (target : ℕ) (defs : List Definition) (facts : List Fact) (seed : Guid)
    (reset plan : Plan) : Type 0 where
  pub aim : IsTarget sector seen.sectors target
  pub definitions : IsWellFormed defs
  pub known : AreFactsOn (wanted_of reset.goal defs) facts
  pub goal_is : goal (seen_after seen reset) target defs facts seed ≡ Ok plan
  pub fits : TableFits plan.goal
