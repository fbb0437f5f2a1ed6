use Rattle.std.proofs.Common.{◌≡◌, ◌-◌}
use Rattle.std.specs.Prelude.{find}
use Rattle.rp_policy.specs.Beyond.{all_found, is_beyond}
use Rattle.rp_policy.proofs.Finding.{found_from}
use Rattle.rp_policy.proofs.beyond.first_beyond.Given as goal

abbrev pub invariant-loop-kinds : goal.invariant-loop-kinds
invariant-loop-kinds l = find (is_beyond l.a.0 l.b.0) all_found ≡ found_from l.a.0 l.b.0 l.kinds (16 - l.kinds)
