-- An image on which definitions have nothing left to do, and a plan from definitions: own rules.
use Rattle.std.specs.Prelude.{ℕ, ◌≡◌, ◌⊎◌, IsSome, List, [], All, Ok}
use Rattle.rp_base.specs.Geometry.{IsSector}
use Rattle.rp_base.specs.Plan.{IsTarget}
use Rattle.rp_base.specs.Table.{TableFits}
use Rattle.rp_base.specs.declared.guid.Guid.{Guid}
use Rattle.rp_base.specs.declared.plan.Plan.{Plan}
use Rattle.rp_base.specs.declared.seen.Origin.TheVariants.{Primary}
use Rattle.rp_base.specs.declared.seen.Seen.{Seen}
use Rattle.rp_defs.specs.WellFormed.{IsWellFormed}
use Rattle.rp_defs.specs.declared.definition.Definition.{Definition}
use Rattle.rp_gpt.specs.Shown.{accepted}
use Rattle.rp_gpt.specs.declared.table_fault.Empty.{Empty}
use Rattle.rp_gpt.specs.declared.table_fault.Empty.TheVariants.{Refuse}
use Rattle.rp_plan.specs.Goal.{goal}
use Rattle.rp_sizes.specs.Needs.{AreFactsOn, matched_of, wanted_of}
use Rattle.rp_sizes.specs.declared.need.Fact.{Fact}
use Rattle.rp_steps.specs.Steps.{steps}

-- an image is accepted with its table, each definition has a row in it, and the goal at its own length is a plan without steps
pub record IsIdle (sector : ℕ) (image : List ℕ) (defs : List Definition) (seed : Guid) : Type 0 where
  pub seen : Seen
  pub plan : Plan
  pub shows : accepted sector image Refuse ≡ Ok seen
  pub matched : All IsSome (matched_of seen.shown defs)
  pub goal_is : goal seen seen.sectors defs [] seed ≡ Ok plan
  pub steps_are : steps plan seen ≡ []

-- an image is accepted, and a plan is the goal for it and a length that it may have: its own, or a greater one where its primary copy is
-- shown
pub record IsPlanned (sector : ℕ) (old : List ℕ) (empty : Empty) (seen : Seen) (target : ℕ) (defs : List Definition) (facts : List Fact)
    (seed : Guid) (plan : Plan) : Type 0 where
  pub of_sector : IsSector sector
  pub seen_of : accepted sector old empty ≡ Ok seen
  pub aim : IsTarget sector seen.sectors target
  pub grows : (target ≡ seen.sectors) ⊎ (seen.origin ≡ Primary)
  pub definitions : IsWellFormed defs
  pub known : AreFactsOn (wanted_of seen.shown defs) facts
  pub goal_is : goal seen target defs facts seed ≡ Ok plan
  pub fits : TableFits plan.goal
