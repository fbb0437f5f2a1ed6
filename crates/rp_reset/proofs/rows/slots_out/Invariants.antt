use Rattle.std.proofs.Common.{◌≡◌, ◌++◌, drop}
use Rattle.std.specs.List.{enumerate_from, filter_map}
use Rattle.rp_reset.specs.Reset.{slots_out, slot_out}
use Rattle.rp_reset.proofs.rows.slots_out.Given as goal

abbrev pub invariant-loop-place : goal.invariant-loop-place
invariant-loop-place l = l.slots ++ filter_map (slot_out l.matched l.defs) (enumerate_from l.place (drop l.place l.rows)) ≡ slots_out l.matched l.defs l.rows
