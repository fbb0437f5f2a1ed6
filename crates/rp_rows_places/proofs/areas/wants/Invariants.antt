use Rattle.std.proofs.Common.{◌≡◌, All, length}
use Rattle.rp_base.specs.Wants.{IsWant}
use Rattle.rp_rows_places.proofs.areas.wants.Given as goal

abbrev pub invariant-loop-min : goal.invariant-loop-min
invariant-loop-min l = (length l.wants.items ≡ l.min-index) × All IsWant l.wants.items
