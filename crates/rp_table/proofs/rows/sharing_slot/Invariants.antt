use Rattle.std.proofs.Common.{◌≡◌, drop}
use Rattle.std.specs.Prelude.{find}
use Rattle.rp_gpt.specs.Shown.{share_unit}
use Rattle.rp_table.proofs.rows.sharing_slot.Given as goal

abbrev pub invariant-loop-other : goal.invariant-loop-other
invariant-loop-other l = find (share_unit l.row) l.others ≡ find (share_unit l.row) (drop l.other-index l.others)
