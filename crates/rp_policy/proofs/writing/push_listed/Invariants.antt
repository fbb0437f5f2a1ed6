use Rattle.std.proofs.Common.{true}
use Rattle.std.specs.Prelude.{string_bytes}
use Rattle.rp_policy.specs.Written.{listed_entries}
use Rattle.rp_policy.proofs.Joined.{Grows, listed_from}
use Rattle.rp_policy.proofs.writing.push_listed.Given as goal

abbrev pub invariant-loop-place : goal.invariant-loop-place
invariant-loop-place l = Grows 58 true (string_bytes l.initial.text) (listed_entries l.policy) l.first (string_bytes l.text)
    (listed_from l.policy l.place)
