use Rattle.std.proofs.Common.{◌≡◌, ◌+◌, ◌*◌, ◌++◌, take}
use Rattle.rp_gpt.specs.Numbers.{units_bytes}
use Rattle.rp_gpt.proofs.numbers.put_units.Given as goal

abbrev pub invariant-loop-k : goal.invariant-loop-k
invariant-loop-k l = take (l.at + 2 * l.k) l.out ≡ take l.at l.fn.out ++ units_bytes (take l.k l.units)
