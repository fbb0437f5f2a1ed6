use Rattle.std.proofs.Common.{◌++◌, ap, ◌∙◌}
use Rattle.rp_policy.specs.Reading.{policy_of}
use Rattle.rp_policy.specs.Written.{policy_text}
use Rattle.rp_policy.proofs.Whole.{text_back}
use Rattle.rp_policy.proofs.writing.write.Goals as goal

pub returns-clause-back : goal.returns-clause-back
returns-clause-back c =
    let made = c.in_ok-push_policy.ensures in
    ap policy_of (c.from_string.ensures ∙ made.text ∙ ap (λ start. start ++ policy_text c.args.policy.now) c.new-text.ensures.bytes)
    ∙ text_back c.args.policy.now made.size c.requires
