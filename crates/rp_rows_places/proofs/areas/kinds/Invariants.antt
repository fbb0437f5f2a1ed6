use Rattle.std.proofs.Common.{◌≡◌, length}
use Rattle.rp_rows_places.proofs.areas.kinds.Given as goal

abbrev pub invariant-loop-byte : goal.invariant-loop-byte
invariant-loop-byte l = length l.kinds.items ≡ l.byte-index
