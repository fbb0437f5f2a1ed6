use Rattle.std.proofs.Common.{◌*◌, sym, ◌∙◌}
use Rattle.std.proofs.lemmas.Bool.{false≢true}
use Rattle.rp_base.specs.Geometry.{array_sectors}
use Rattle.rp_gpt.specs.Copy.{table_entries}
use Rattle.rp_gpt.proofs.Sectors.{array_room}
use Rattle.rp_gpt.proofs.ExactParts.{padded_from, padded-parts}
use Rattle.rp_gpt.proofs.exact.is_array.Goals as goal

pub returns-then-is_entries : goal.returns-then-is_entries
returns-then-is_entries c =
    let table = c.args.table.now in
    let array = c.args.array.now in
    let room = table.sector * array_sectors table.sector table.entries in
    let inside = array_room table.sector c.requires.writable.sector table.entries in
    let zeros = rw (c.split_at.ensures.back) at c.is_zero.ensures in (
      λ h. padded_from (table_entries table) array (128 * table.entries) room c.requires.length
          (sym c.split_at.ensures.front ∙ c.is_entries.ensures.0 c.if-is_entries.true) (zeros.0 h),
      λ e. zeros.1 (padded-parts (table_entries table) array (128 * table.entries) room c.requires.length inside e).1,
    )

pub returns-else-is_entries : goal.returns-else-is_entries
returns-else-is_entries c =
    let table = c.args.table.now in
    let room = table.sector * array_sectors table.sector table.entries in
    let inside = array_room table.sector c.requires.writable.sector table.entries in (
      λ h. absurd (false≢true (sym c.if-is_entries.false ∙ h)),
      λ e. c.is_entries.ensures.1
          (c.split_at.ensures.front ∙ (padded-parts (table_entries table) c.args.array.now (128 * table.entries) room c.requires.length inside e).0),
    )
