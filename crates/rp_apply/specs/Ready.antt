-- A plan that can be carried out without memory: own rules.
use Rattle.std.specs.Prelude.{ℕ, ◌≡◌, ◌≤◌, ◌<◌, List, All, length, ⊤}
use Rattle.rp_base.specs.Plan.{IsWellFormed}
use Rattle.rp_base.specs.Table.{TableFits}
use Rattle.rp_base.specs.declared.plan.Plan.{Plan}
use Rattle.rp_base.specs.declared.seen.Seen.{Seen}
use Rattle.rp_defs.specs.declared.definition.Definition.{Definition}
use Rattle.rp_stops.specs.Order.{target_sectors}
use Rattle.rp_steps.specs.Contents.{NotesFit}
use Rattle.rp_steps.specs.Steps.{steps}
use Rattle.rp_steps.specs.declared.step.Step.{Step}
use Rattle.rp_steps.specs.declared.step.Step.TheVariants.{Copy}
use Rattle.rp_region.specs.Region.{HoldsCopies, IsLeased}
use Rattle.rp_apply.specs.Sourced.{paths_of}
use Rattle.rp_apply.specs.declared.ready.Ready.{Ready}

-- a copy names one of so many paths
abbrev pub NamesPath : List (List ℕ) → Step → Type 0
NamesPath paths (Copy file at len) = file < length paths
NamesPath paths other = ⊤

-- its plan is well formed for what was seen, with numbers within their fields, its steps are those of the plan, each source
-- has its path, all blocks are lent, and they hold both copies of the goal
pub record IsReady (ready : Ready) : Type 0 where
  pub well_formed : IsWellFormed ready.seen ready.plan
  pub table_fits : TableFits ready.plan.goal
  pub notes_fit : NotesFit ready.plan
  pub steps : ready.steps ≡ steps ready.plan ready.seen
  pub paths : All (NamesPath ready.paths) ready.steps
  pub leased : IsLeased ready.blocks
  pub copies : HoldsCopies ready.plan.goal (target_sectors ready.plan) ready.blocks.pool

-- it is of this plan, of what was seen, and of the sources of these definitions
pub record IsReadyFor (plan : Plan) (seen : Seen) (defs : List Definition) (ready : Ready) : Type 0 where
  pub plan_is : ready.plan ≡ plan
  pub seen_is : ready.seen ≡ seen
  pub paths_are : ready.paths ≡ paths_of defs
  pub ready_is : IsReady ready
