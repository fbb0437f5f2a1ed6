use Rattle.std.proofs.Common.{◌++◌, ◌∙◌, ap}
use Rattle.std.specs.Prelude.{codes}
use Rattle.rp_report.specs.Json.{show_json}
use Rattle.rp_report.proofs.JsonLemmas.{text_of_seen}
use Rattle.rp_report.proofs.json.show_json_text.Goals as goal

pub returns : goal.returns
unfolding show_json
returns c =
    c.in_ok-push_str.ensures.bytes
    ∙ ap (λ text. text ++ codes "\n") (text_of_seen c.args.seen.now _ _ c.in_ok-value.ensures c.in_ok-text.ensures.text)
