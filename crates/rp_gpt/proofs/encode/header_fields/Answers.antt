use Rattle.std.proofs.Common.{◌+◌, ◌-◌, ◌/◌, sym, ◌∙◌, arith}
use Rattle.std.proofs.lemmas.List.{take_all}
use Rattle.rp_base.specs.Geometry.{sector_units, header_place, array_place}
use Rattle.rp_gpt.specs.Numbers.{u32_bytes, u64_bytes, guid_bytes}
use Rattle.rp_gpt.specs.Copy.{header_fields, other}
use Rattle.rp_gpt.proofs.Put.{fourteen-joined}
use Rattle.rp_gpt.proofs.encode.header_fields.Goals as goal

pub returns-clause-value : goal.returns-clause-value
unfolding header_fields
returns-clause-value c =
    let table = c.args.table.now in
    let units = sector_units table.sector in
    let which = c.args.which in
    let sectors = c.args.sectors in
    sym (take_all 92 c.put_u32-7.new.out (omega arith))
    ∙ rw (
      c.put_u32-7.ensures,
      c.put_u32-6.ensures,
      c.put_u32-5.ensures,
      c.put_u64-6.ensures.front,
      c.put_guid.ensures.front,
      c.put_u64-5.ensures.front,
      c.put_u64-4.ensures.front,
      c.put_u64-3.ensures.front,
      c.put_u64-2.ensures.front,
      c.put_u32-4.ensures,
      c.put_u32-3.ensures,
      c.put_u32-2.ensures,
      c.put_u32.ensures,
      c.put_u64.ensures.front,
      c.array_place.ensures,
      c.from.ensures,
      c.last_lba.ensures.value,
      c.first_lba.ensures.value,
      c.header_place-2.ensures,
      c.other.ensures,
      c.header_place.ensures,
    )
    (fourteen-joined (u64_bytes 0x5452415020494645) (u32_bytes 0x00010000) (u32_bytes 92) (u32_bytes c.args.own_crc) (u32_bytes 0)
    (u64_bytes (header_place which sectors)) (u64_bytes (header_place (other which) sectors))
    (u64_bytes (table.first / units)) (u64_bytes ((table.last + 1) / units - 1)) (guid_bytes table.disk)
    (u64_bytes (array_place which table.sector table.entries sectors)) (u32_bytes table.entries) (u32_bytes 128) (u32_bytes c.args.entries_crc))
