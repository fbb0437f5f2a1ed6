-- What is printed by a command that is done.
use Rattle.std.specs.Prelude.{ℕ, List, Bool, Option, if◌then◌else◌}
use Rattle.rp_base.specs.declared.plan.Plan.{Plan}
use Rattle.rp_base.specs.declared.seen.Seen.{Seen}
use Rattle.rp_defs.specs.declared.definition.Definitions.{Definitions}
use Rattle.rp_report.specs.PlanJson.{plan_json}
use Rattle.rp_report.specs.Plans.{plan_bytes}
use Rattle.rp_report.specs.Tables.{show_bytes}
use Rattle.rp_report.specs.Json.{show_json}

-- what `show` prints of an image: as JSON, or as text
unfoldable pub show_report : Bool → Seen → List ℕ
show_report json seen = if json then show_json seen else show_bytes seen

-- what `plan` prints of a plan for these definitions, and `apply` when it is done; behind a factory reset the slots that it took out too
unfoldable pub plan_report : Bool → Plan → Definitions → ℕ → ℕ → Bool → Option (List ℕ) → List ℕ
plan_report json plan definitions steps writes applied reset =
    if json then plan_json plan definitions steps writes applied reset else plan_bytes plan definitions steps writes applied reset
