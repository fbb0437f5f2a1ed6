use Rattle.std.specs.Prelude.{string_bytes}
use Rattle.rp_policy.specs.Flags.{state_names}
use Rattle.rp_policy.specs.Written.{names_set, use_words}
use Rattle.rp_policy.proofs.Joined.{joined_two}
use Rattle.rp_policy.proofs.writing.push_flags.Goals as goal

pub returns : goal.returns
returns c = joined_two 43 (string_bytes c.args.text.now) (string_bytes c.push_uses.new.text) (string_bytes c.push_names.new.text)
    (use_words c.args.flags.0) (names_set c.args.flags.0 state_names) c.in_ok-first.first
    c.in_ok-first.ensures.text c.in_ok-push_names.ensures.text c.in_ok-first.ensures.none
