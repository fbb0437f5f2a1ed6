use Rattle.std.proofs.Common.{◌≡◌, map, take}
use Rattle.std.specs.Prelude.{filter}
use Rattle.rp_verdict.specs.Rows.{is_extra}
use Rattle.rp_verdict.proofs.rows.extra.Given as goal

-- the slots so far
abbrev pub invariant-loop-row : goal.invariant-loop-row
invariant-loop-row l = l.slots ≡ map (λ row. row.slot) (filter (is_extra l.arch l.rows) (take l.row-index l.rows))
