use Rattle.std.proofs.Common.{◌≡◌, ◌+◌, ◌*◌, ◌≤◌, length, refl, ◌∙◌, ap}
use Rattle.rp_disk.specs.History.{held}
use Rattle.rp_disk.specs.Made.{history_of}
use Rattle.rp_disk.proofs.Noting.{can_before}
use Rattle.rp_gpt.specs.Fields.{entry_count}
use Rattle.rp_table.proofs.Reading.{header_inside, copy_inside, place_made}
use Rattle.rp_table.proofs.image.read_place.Goals as goal

pub returns-in_err-header-clause-inside : goal.returns-in_err-header-clause-inside
returns-in_err-header-clause-inside g c = λ past is.
    c.read_range.ensures.inside past (rw is (header_inside c.args.which c.args.sector c.args.sectors c.from-size.result c.header_place.result c.requires c.from-size.ensures c.header_place.ensures))

pub returns-in_err-bytes-clause-inside : goal.returns-in_err-bytes-clause-inside
returns-in_err-bytes-clause-inside g c = λ past is.
    c.read_range-2.ensures.inside past (rw (c.read_range.ensures.calls, is) (copy_inside c.args.which c.args.sector c.args.sectors c.entries_or_least-entries.result c.entries_of.result c.from-size.result c.copy_place.result c.copy_bytes.result
    c.requires c.entries_or_least-entries.ensures c.from-size.ensures c.copy_place.ensures c.copy_bytes.ensures))
    ∙ c.read_range.ensures.inside past (rw is (header_inside c.args.which c.args.sector c.args.sectors c.from-size.result c.header_place.result c.requires c.from-size.ensures c.header_place.ensures))

pub returns-clause-inside : goal.returns-clause-inside
returns-clause-inside g c = λ past is.
    c.read_range-2.ensures.inside past (rw (c.read_range.ensures.calls, is) (copy_inside c.args.which c.args.sector c.args.sectors c.entries_or_least-entries.result c.entries_of.result c.from-size.result c.copy_place.result c.copy_bytes.result
    c.requires c.entries_or_least-entries.ensures c.from-size.ensures c.copy_place.ensures c.copy_bytes.ensures))
    ∙ c.read_range.ensures.inside past (rw is (header_inside c.args.which c.args.sector c.args.sectors c.from-size.result c.header_place.result c.requires c.from-size.ensures c.header_place.ensures))

pub returns-clause-place : goal.returns-clause-place
returns-clause-place g c = λ past can len.
    place_made (held (history_of past (g.D.Disk.device c.args.disk.now).calls)) c.args.which c.args.sector c.args.sectors c.from-size.result
    c.header_place.result c.copy_place.result c.copy_bytes.result c.entries_of.result c.in_ok-header.header _ c.requires len c.from-size.ensures c.header_place.ensures
    (c.in_ok-header.ensures.bytes past (can_before c.in_ok-bytes.ensures.earlier can)) (c.entries_of.ensures ∙ ap entry_count c.as_slice.ensures) c.entries_or_least-entries.ensures
    c.copy_place.ensures c.copy_bytes.ensures (rw (c.read_range.ensures.calls) at (c.in_ok-bytes.ensures.bytes past can))
