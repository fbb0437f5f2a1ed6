use Rattle.std.proofs.Common.{◌+◌, ◌-◌, ◌/◌, sym, ◌∙◌, arith}
use Rattle.std.proofs.lemmas.List.{take_all}
use Rattle.rp_base.specs.Geometry.{sector_units}
use Rattle.rp_gpt.specs.Numbers.{u64_bytes, guid_bytes, units_bytes}
use Rattle.rp_gpt.specs.Copy.{row_bytes}
use Rattle.rp_gpt.proofs.Put.{six-joined}
use Rattle.rp_gpt.proofs.encode.row_bytes.Goals as goal

pub returns-clause-value : goal.returns-clause-value
unfolding row_bytes
returns-clause-value c =
    let row = c.args.row.now in
    let units = sector_units c.args.sector in
    sym (take_all 128 c.put_units.new.out (omega arith))
    ∙ rw (
      c.put_units.ensures.front,
      c.put_u64-3.ensures.front,
      c.put_u64-2.ensures.front,
      c.put_u64.ensures.front,
      c.put_guid-2.ensures.front,
      c.put_guid.ensures.front,
      c.sector_units-units.ensures,
    )
    (six-joined (guid_bytes row.kind) (guid_bytes row.id) (u64_bytes (row.start / units)) (u64_bytes ((row.start + row.size) / units - 1)) (u64_bytes row.attrs) (units_bytes row.name))
