use Rattle.std.proofs.Common.{sym, ◌∙◌}
use Rattle.std.specs.Prelude.{string_bytes}
use Rattle.rp_policy.proofs.Joined.{default_ignored, default_pushed, text_listed}
use Rattle.rp_policy.proofs.writing.push_policy.Goals as goal

pub returns-in_ok-push_entry-clause-text : goal.returns-in_ok-push_entry-clause-text
unfolding lib.Utf8.encode
returns-in_ok-push_entry-clause-text c =
    let listed = string_bytes c.push_listed.new.text in
    let default = c.args.policy.now.default.0 in
    text_listed c.args.policy.now (string_bytes c.args.text.now) listed
    (string_bytes c.push_entry.new.text) c.in_ok-push_listed.ensures.text
    (default_pushed default listed (string_bytes c.push.new.self) (string_bytes c.push_entry.new.text) c.if-policy-ne-IGNORE.true
    c.in_ok-push.ensures.bytes c.in_ok-push_entry.ensures)
    (sym c.in_ok-push_listed.ensures.none ∙ c.if-branch.false)

pub returns-else-policy-ne-IGNORE-clause-text : goal.returns-else-policy-ne-IGNORE-clause-text
returns-else-policy-ne-IGNORE-clause-text c =
    let listed = string_bytes c.push_listed.new.text in
    text_listed c.args.policy.now (string_bytes c.args.text.now) listed listed c.in_ok-push_listed.ensures.text
    (default_ignored c.args.policy.now.default.0 listed c.if-policy-ne-IGNORE.false)
    (sym c.in_ok-push_listed.ensures.none ∙ c.if-branch.false)
