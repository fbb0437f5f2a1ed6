use Rattle.std.proofs.Common.{◌++◌, ◌∙◌, ap}
use Rattle.std.specs.Prelude.{codes}
use Rattle.std.specs.Option.{option_copied}
use Rattle.rp_report.specs.PlanJson.{plan_json}
use Rattle.rp_report.proofs.JsonLemmas.{text_of_plan}
use Rattle.rp_report.proofs.plan_json.plan_json_text.Goals as goal

pub returns : goal.returns
unfolding plan_json
returns c =
    c.in_ok-push_str.ensures.bytes
    ∙ ap (λ text. text ++ codes "\n")
    (text_of_plan c.args.plan.now c.args.definitions.now c.args.steps c.args.writes c.args.applied (option_copied c.args.reset) _ _ c.in_ok-value.ensures c.in_ok-text.ensures.text)
