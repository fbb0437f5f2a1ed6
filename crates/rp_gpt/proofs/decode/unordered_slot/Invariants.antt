use Rattle.std.proofs.Common.{◌≡◌, None}
use Rattle.rp_gpt.specs.Copy.{unordered_slot}
use Rattle.rp_gpt.proofs.decode.unordered_slot.Given as goal

abbrev pub invariant-loop-slot : goal.invariant-loop-slot
invariant-loop-slot l = unordered_slot l.sector l.array l.slot ≡ None
