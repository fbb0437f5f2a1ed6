use Rattle.std.proofs.Common.{◌≡◌, take, None}
use Rattle.std.specs.Prelude.{find}
use Rattle.rp_types.specs.Types.{is_called, as_listed}
use Rattle.rp_types.proofs.names.by_name.Given as goal

abbrev pub invariant-loop-own : goal.invariant-loop-own
invariant-loop-own l = find (λ entry. is_called l.name l.arch (as_listed entry)) (take l.own-index l.own-items) ≡ None
