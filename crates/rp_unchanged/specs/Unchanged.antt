-- An image that differs in nothing from what is planned for it again: own rules.
use Rattle.std.specs.Prelude.{ℕ, ◌≡◌, List, [], Any, IfSome, None, Ok}
use Rattle.rp_base.specs.Plan.{IsPair, noted_of}
use Rattle.rp_base.specs.declared.guid.Guid.{Guid}
use Rattle.rp_base.specs.declared.plan.Plan.{Plan}
use Rattle.rp_base.specs.declared.seen.Seen.{Seen}
use Rattle.rp_base.specs.declared.table.Row.{Row}
use Rattle.rp_defs.specs.declared.definition.Definition.{Definition}
use Rattle.rp_difference.specs.Difference.{difference, table_difference}
use Rattle.rp_gpt.specs.Shown.{accepted}
use Rattle.rp_gpt.specs.declared.table_fault.Empty.TheVariants.{Refuse}
use Rattle.rp_plan.specs.Goal.{goal}
use Rattle.rp_sizes.specs.declared.need.Fact.{Fact}
use Rattle.rp_stops.specs.After.{seen_after}
use Rattle.rp_types.specs.declared.arch.Arch.{Arch}
use Rattle.rp_types.specs.declared.arch.Designator.{Designator}
use Rattle.rp_types.specs.declared.arch.Designator.TheVariants.{Root, Usr}
use Rattle.rp_verdict.specs.Rows.{row_of, tree_row}

-- planned again at its own length, an image of which this was seen gets the table that it shows, no definition is dropped, and copies,
-- MBR, table and rows differ in nothing
pub record IsPlannedAgain (seen : Seen) (defs : List Definition) (facts : List Fact) (seed : Guid) : Type 0 where
  pub plan : Plan
  pub goal_is : goal seen seen.sectors defs facts seed ≡ Ok plan
  pub table : plan.goal ≡ seen.shown
  pub dropped : plan.dropped ≡ []
  pub same : table_difference seen plan ≡ None

-- an image is accepted as it was planned, and is planned again as it is, whatever is known of sources
pub record IsSeenAsPlanned (sector : ℕ) (image : List ℕ) (seen : Seen) (plan : Plan) (defs : List Definition) (seed : Guid) : Type 0 where
  pub shows : accepted sector image Refuse ≡ Ok (seen_after seen plan)
  pub again : (facts : List Fact) → IsPlannedAgain (seen_after seen plan) defs facts seed

-- two rows are a pair of a plan: its data and its hash tree
abbrev pub ArePaired : Plan → Row → Row → Type 0
ArePaired plan payload hash =
    Any (λ first. Any (λ other. IsPair first other × (first.0 ≡ payload) × (other.0 ≡ hash)) (noted_of plan)) (noted_of plan)

-- where a plan's table has a row of a designator and one of its hash tree, these are a pair of the plan
abbrev pub HasPairOf : Arch → Plan → Designator → Type 0
HasPairOf arch plan d =
    IfSome (row_of arch plan.goal.rows d) (λ payload. IfSome (tree_row arch plan.goal.rows d) (λ hash. ArePaired plan payload hash))

abbrev pub HasPairs : Arch → Plan → Type 0
HasPairs arch plan = HasPairOf arch plan Root × HasPairOf arch plan Usr

-- what is planned again for an image, of which this was seen, is a plan from which it differs in nothing
pub record DiffersInNothing (image : List ℕ) (arch : Arch) (seen : Seen) (defs : List Definition) (facts : List Fact) (seed : Guid) : Type 0
  where
    pub plan : Plan
    pub goal_is : goal seen seen.sectors defs facts seed ≡ Ok plan
    pub same : difference image arch seen plan ≡ None

-- an image is accepted as it was planned, and differs in nothing from what is planned for it again, whatever is known of sources
pub record IsUnchanged (sector : ℕ) (image : List ℕ) (arch : Arch) (seen : Seen) (plan : Plan) (defs : List Definition) (seed : Guid)
    : Type 0 where
  pub shows : accepted sector image Refuse ≡ Ok (seen_after seen plan)
  pub again : (facts : List Fact) → DiffersInNothing image arch (seen_after seen plan) defs facts seed
