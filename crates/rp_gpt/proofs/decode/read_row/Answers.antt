use Rattle.std.proofs.Common.{refl, arith}
use Rattle.rp_gpt.specs.Copy.{row_of}
use Rattle.rp_gpt.proofs.Sectors.{ordered_units}
use Rattle.rp_gpt.proofs.Slots.{ordered_bounds}
use Rattle.rp_gpt.proofs.decode.read_row.Goals as goal

pub overflow_mul-start : goal.overflow_mul-start
overflow_mul-start c =
    let bounds = ordered_bounds c.args.sector c.args.entry.now c.requires.ordered in
    let units = ordered_units c.args.sector _ _ c.requires.sector bounds.0 bounds.1 in
    rw (c.sector_units-units.ensures, c.u64_at.ensures.value) (omega (arith, units.from))

pub overflow_add-result : goal.overflow_add-result
overflow_add-result c =
    let bounds = ordered_bounds c.args.sector c.args.entry.now c.requires.ordered in
    let units = ordered_units c.args.sector _ _ c.requires.sector bounds.0 bounds.1 in
    rw (c.u64_at-2.ensures.value) (omega (arith, units.next))

pub overflow_mul-result : goal.overflow_mul-result
overflow_mul-result c =
    let bounds = ordered_bounds c.args.sector c.args.entry.now c.requires.ordered in
    let units = ordered_units c.args.sector _ _ c.requires.sector bounds.0 bounds.1 in
    rw (c.sector_units-units.ensures, c.u64_at-2.ensures.value) (omega (arith, units.to))

pub overflow_sub-result : goal.overflow_sub-result
overflow_sub-result c =
    let bounds = ordered_bounds c.args.sector c.args.entry.now c.requires.ordered in
    let units = ordered_units c.args.sector _ _ c.requires.sector bounds.0 bounds.1 in
    rw (c.sector_units-units.ensures, c.u64_at.ensures.value, c.u64_at-2.ensures.value) units.ordered

pub returns-clause-value : goal.returns-clause-value
unfolding row_of
returns-clause-value c =
    let bounds = ordered_bounds c.args.sector c.args.entry.now c.requires.ordered in
    let units = ordered_units c.args.sector _ _ c.requires.sector bounds.0 bounds.1 in
    rw (
      c.sector_units-units.ensures,
      c.u64_at.ensures.value,
      c.u64_at-2.ensures.value,
      c.u64_at-3.ensures.value,
      c.guid_at.ensures.value,
      c.guid_at-2.ensures.value,
      c.units_at.ensures.value,
      units.start,
      units.size,
    ) refl
