use Rattle.std.proofs.Common.{◌++◌, ◌∙◌, ap}
use Rattle.std.specs.Prelude.{codes}
use Rattle.rp_verdict_text.specs.Reports.{verdict_json}
use Rattle.rp_verdict_text.proofs.Texts.{text_of_verdicts}
use Rattle.rp_verdict_text.proofs.json.verdict_json_text.Goals as goal

pub returns : goal.returns
unfolding verdict_json
returns c =
    c.in_ok-push_str.ensures.bytes
    ∙ ap (λ text. text ++ codes "\n") (text_of_verdicts c.args.verdicts.now _ _ c.in_ok-value.ensures c.in_ok-text.ensures.text)
