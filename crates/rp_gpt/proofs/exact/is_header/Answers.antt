use Rattle.std.proofs.Common.{◌≤◌, sym, ◌∙◌, arith}
use Rattle.std.proofs.lemmas.Bool.{false≢true}
use Rattle.rp_gpt.specs.Copy.{signed_fields, header_bytes}
use Rattle.rp_gpt.proofs.ExactParts.{padded_from, padded-parts}
use Rattle.rp_gpt.proofs.Sectors.{sector_least}
use Rattle.rp_gpt.proofs.exact.is_header.Goals as goal

pub returns-then-is_same : goal.returns-then-is_same
unfolding header_bytes
returns-then-is_same c =
    let table = c.args.table.now in
    let large : 92 ≤ table.sector = omega (arith, sector_least table.sector c.requires.writable.sector) in
    let signed = signed_fields table c.args.which c.args.sectors c.args.entries_crc in
    let zeros = rw (c.split_at.ensures.back) at c.is_zero.ensures in (
      λ h. padded_from signed c.args.header.now 92 table.sector c.requires.length
          (sym c.split_at.ensures.front ∙ c.is_same.ensures.0 c.if-is_same.true ∙ c.signed_fields-fields.ensures.value) (zeros.0 h),
      λ e. zeros.1 (padded-parts signed c.args.header.now 92 table.sector c.requires.length large e).1,
    )

pub returns-else-is_same : goal.returns-else-is_same
unfolding header_bytes
returns-else-is_same c =
    let table = c.args.table.now in
    let large : 92 ≤ table.sector = omega (arith, sector_least table.sector c.requires.writable.sector) in
    let signed = signed_fields table c.args.which c.args.sectors c.args.entries_crc in (
      λ h. absurd (false≢true (sym c.if-is_same.false ∙ h)),
      λ e. c.is_same.ensures.1
          (c.split_at.ensures.front ∙ (padded-parts signed c.args.header.now 92 table.sector c.requires.length large e).0 ∙ sym c.signed_fields-fields.ensures.value),
    )
