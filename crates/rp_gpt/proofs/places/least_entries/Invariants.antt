use Rattle.std.proofs.Common.{◌≡◌, ◌-◌, None}
use Rattle.rp_gpt.specs.Copy.{least_from}
use Rattle.rp_gpt.proofs.places.least_entries.Given as goal

abbrev pub invariant-loop-entries : goal.invariant-loop-entries
invariant-loop-entries l = least_from l.sector l.bytes 128 (l.entries - 128) ≡ None
