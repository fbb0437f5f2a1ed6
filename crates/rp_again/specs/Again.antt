-- An image on which a second run has no calls: own rules.
use Rattle.std.specs.Prelude.{ℕ, ◌≡◌, List, [], Ok}
use Rattle.rp_base.specs.declared.guid.Guid.{Guid}
use Rattle.rp_base.specs.declared.plan.Plan.{Plan}
use Rattle.rp_base.specs.declared.seen.Seen.{Seen}
use Rattle.rp_defs.specs.declared.definition.Definition.{Definition}
use Rattle.rp_gpt.specs.Shown.{accepted}
use Rattle.rp_gpt.specs.declared.table_fault.Empty.{Empty}
use Rattle.rp_idle.specs.Idle.{IsIdle}
use Rattle.rp_plan.specs.Goal.{goal}
use Rattle.rp_sizes.specs.Needs.{AreFactsOn, wanted_of}
use Rattle.rp_sizes.specs.declared.need.Fact.{Fact}
use Rattle.rp_steps.specs.Calls.{calls}
use Rattle.rp_steps.specs.Contents.{Sources}

-- whatever plan is the goal for the image as it is accepted, at its own length and whatever is known of sources, has no calls
abbrev pub NeedsNoCalls : ℕ → List ℕ → List Definition → Guid → Type 0
NeedsNoCalls sector image defs seed =
    (empty : Empty) (seen : Seen) (facts : List Fact) (plan : Plan) (sources : Sources) → accepted sector image empty ≡ Ok seen
    → AreFactsOn (wanted_of seen.shown defs) facts → goal seen seen.sectors defs facts seed ≡ Ok plan → calls plan seen sources ≡ []

-- the image is idle, and a second run has no calls on it
pub record HasNothingLeft (sector : ℕ) (image : List ℕ) (defs : List Definition) (seed : Guid) : Type 0 where
  pub idle : IsIdle sector image defs seed
  pub again : NeedsNoCalls sector image defs seed
