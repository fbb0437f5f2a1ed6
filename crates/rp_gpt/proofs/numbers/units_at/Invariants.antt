use Rattle.std.proofs.Common.{◌≡◌, ◌+◌, ◌*◌, ◌^◌, ℕ, ◌<◌, get_or}
use Rattle.rp_gpt.specs.Numbers.{u16_at}
use Rattle.rp_gpt.proofs.numbers.units_at.Given as goal

abbrev pub invariant-loop-k : goal.invariant-loop-k
invariant-loop-k l = record {
  are : (k : ℕ) → k < l.k → get_or l.unit-items k 0 ≡ u16_at l.bytes (l.at + 2 * k);
  fits : (k : ℕ) → k < l.k → get_or l.unit-items k 0 < 2 ^ 16;
}
