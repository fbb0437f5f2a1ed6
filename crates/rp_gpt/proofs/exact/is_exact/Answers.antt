use Rattle.std.proofs.Common.{◌≡◌, ◌*◌, length, ap, sym, ◌∙◌, arith}
use Rattle.std.proofs.lemmas.Bool.{false≢true}
use Rattle.rp_crc.specs.Crc.{crc}
use Rattle.rp_base.specs.Geometry.{array_sectors}
use Rattle.rp_gpt.specs.Copy.{header_bytes, table_entries, table_array}
use Rattle.rp_gpt.proofs.Sectors.{array_room, copy_bytes-is}
use Rattle.rp_gpt.proofs.ExactParts.{exact_from_parts, exact-parts, padded-parts}
use Rattle.rp_gpt.proofs.exact.is_exact.Goals as goal

pub returns-then-is_array : goal.returns-then-is_array
returns-then-is_array c =
    let table = c.args.table.now in
    let room = table.sector * array_sectors table.sector table.entries in
    let long : length c.parts.result.1.now ≡ room = omega (arith, c.parts.ensures.array_len, c.requires.place, copy_bytes-is table.sector c.requires.writable.sector table.entries) in
    let array : c.parts.result.1.now ≡ table_array table = c.is_array.ensures.0 c.if-is_array.true in
    let entries = (padded-parts (table_entries table) c.parts.result.1.now (128 * table.entries) room long (array_room table.sector c.requires.writable.sector table.entries) array).0 in
    let sum : c.crc_of.result ≡ crc (table_entries table) = c.crc_of.ensures ∙ ap crc entries in
    let header = ap (header_bytes table c.args.which c.args.sectors) sum in (
      λ h. exact_from_parts table c.args.which c.args.sectors c.args.bytes.now
          (sym c.parts.ensures.header ∙ c.is_header.ensures.0 h ∙ header) (sym c.parts.ensures.array ∙ array),
      λ e. c.is_header.ensures.1
          (c.parts.ensures.header ∙ (exact-parts table c.args.which c.args.sectors c.args.bytes.now c.requires.writable e).0 ∙ sym header),
    )

pub returns-else-is_array : goal.returns-else-is_array
returns-else-is_array c = (
  λ h. absurd (false≢true (sym c.if-is_array.false ∙ h)),
  λ e. c.is_array.ensures.1
      (c.parts.ensures.array ∙ (exact-parts c.args.table.now c.args.which c.args.sectors c.args.bytes.now c.requires.writable e).1),
)
