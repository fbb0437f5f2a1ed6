use Rattle.std.proofs.Common.{◌∙◌, ap, ℕ, List, Option, length, option_map, arith}
use Rattle.rp_base.specs.declared.table.Row.{Row}
use Rattle.rp_gpt.specs.Shown.{overlap}
use Rattle.rp_table.proofs.Judging.{rows-outside, rows-overlap, rows-none}
use Rattle.rp_table.proofs.Slots.{few_rows}
use Rattle.rp_table.proofs.check.rows_fault.Goals as goal

-- the slots of the least pair
abbrev slots : List Row → Option (ℕ × ℕ)
slots rows = option_map {U = ℕ × ℕ} (λ pair. (pair.0.slot, pair.1.slot)) (overlap rows)

pub returns-in-Some-clause-fault : goal.returns-in-Some-clause-fault
returns-in-Some-clause-fault c = rows-outside c.args.table.now c.in-Some.slot c.in-Some.ensures

pub overlapping_slots-requires-clause-few : goal.overlapping_slots-requires-clause-few
overlapping_slots-requires-clause-few c =
    let rows = c.requires.rows in
    omega (arith, few_rows c.args.table.now.sector c.args.table.now.entries c.args.table.now.rows rows.rows rows.rising, ap length c.as_slice.ensures)

pub returns-in-Some-overlapping_slots-clause-fault : goal.returns-in-Some-overlapping_slots-clause-fault
returns-in-Some-overlapping_slots-clause-fault c =
    rows-overlap c.args.table.now c.in_default.ensures c.in-Some-overlapping_slots.a c.in-Some-overlapping_slots.b (c.in-Some-overlapping_slots.ensures ∙ ap slots c.as_slice.ensures)

pub returns-in-None-clause-fault : goal.returns-in-None-clause-fault
returns-in-None-clause-fault c = rows-none c.args.table.now c.in_default.ensures (c.in-None.ensures ∙ ap slots c.as_slice.ensures)
