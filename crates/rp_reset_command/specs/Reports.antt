-- What is printed with a factory reset.
use Rattle.std.specs.Prelude.{ℕ, ◌+◌, ◌-◌, ◌^◌, List, [], Bool, length, min, Some}
use Rattle.std.specs.Option.{option_map_or}
use Rattle.rp_defs.specs.declared.definition.Definitions.{Definitions}
use Rattle.rp_report.specs.Reports.{plan_report}
use Rattle.rp_reset.specs.Reset.{taken_out}
use Rattle.rp_steps.specs.Steps.{steps}
use Rattle.rp_steps.specs.Writes.{writes}
use Rattle.rp_steps.specs.declared.step.Step.{Step}
use Rattle.rp_reset_command.specs.declared.renewal.Renewal.{Renewal}

-- two counts together; 2^64 - 1 stands for more
abbrev pub together : ℕ → ℕ → ℕ
together a b = min (a + b) (2 ^ 64 - 1)

-- the steps of the reset, if there is one
abbrev pub reset_steps : Renewal → List Step
reset_steps renewal = option_map_or (λ reset. steps reset renewal.seen) renewal.reset []

-- the text of a plan behind a reset with these numbers: it tells the slots that are taken out
abbrev pub report_with : Bool → Definitions → Renewal → ℕ → ℕ → Bool → List ℕ
report_with json definitions renewal count written applied =
    plan_report json renewal.planned.plan definitions count written applied (Some (taken_out renewal.seen.shown definitions.list))

-- the same, with the steps of both and their writes
abbrev pub renewal_report : Bool → Definitions → Renewal → Bool → List ℕ
renewal_report json definitions renewal applied =
    let before = reset_steps renewal in
    let behind = steps renewal.planned.plan renewal.planned.seen in
    report_with json definitions renewal (together (length before) (length behind)) (together (writes before) (writes behind)) applied
