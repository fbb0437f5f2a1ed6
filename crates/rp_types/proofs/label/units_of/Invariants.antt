use Rattle.std.proofs.Common.{◌≡◌, ℕ, ◌<◌, ◌≤◌, length, get_or}
use Rattle.rp_types.proofs.label.units_of.Given as goal

abbrev pub invariant-loop-i : goal.invariant-loop-i
invariant-loop-i l = record {
  long : length l.units ≡ 36;
  written : (k : ℕ) → k < l.i → get_or l.units k 0 ≡ get_or l.text k 0;
  rest : (k : ℕ) → l.i ≤ k → get_or l.units k 0 ≡ 0;
}
