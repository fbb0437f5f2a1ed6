-- The bytes so far, and those behind the state, are all.
use Rattle.std.proofs.Common.{◌≡◌, ◌+◌, ◌*◌, ◌-◌, ◌++◌}
use Rattle.rp_make_input.specs.Bytes.{bytes_behind, source_bytes}
use Rattle.rp_make_input.proofs.bytes.source_bytes.Given as goal

abbrev pub invariant-loop-turn : goal.invariant-loop-turn
invariant-loop-turn l = l.bytes ++ bytes_behind (4096 * l.number + 17 - l._turn) l.state ≡ source_bytes l.number
