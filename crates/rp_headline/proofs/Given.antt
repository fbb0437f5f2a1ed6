-- A goal for an accepted image starts from what planning starts from.
use Rattle.std.proofs.Common.{ℕ, List, refl}
use Rattle.rp_base.specs.declared.guid.Guid.{Guid}
use Rattle.rp_base.specs.declared.plan.Plan.{Plan}
use Rattle.rp_base.specs.declared.seen.Seen.{Seen}
use Rattle.rp_defs.specs.declared.definition.Definition.{Definition}
use Rattle.rp_gpt.specs.declared.table_fault.Empty.{Empty}
use Rattle.rp_idle.specs.Idle.{IsPlanned}
use Rattle.rp_idle.proofs.Public.{plannable}
use Rattle.rp_plan.specs.Plannable.{IsGiven}
use Rattle.rp_sizes.specs.declared.need.Fact.{Fact}
use Rattle.rp_sizes.specs.Needs.{matched_of}

pub given_by : (sector : ℕ) (old : List ℕ) (empty : Empty) (seen : Seen) (target : ℕ) (defs : List Definition) (facts : List Fact)
    (seed : Guid) (plan : Plan) → IsPlanned sector old empty seen target defs facts seed plan
    → IsGiven seen target defs (matched_of seen.shown defs)
given_by sector old empty seen target defs facts seed plan is =
    let ready = plannable sector old empty seen is.of_sector is.seen_of in
    record { plannable = ready.0; aim = rw ready.1 is.aim; well_formed = is.definitions; own = refl }
