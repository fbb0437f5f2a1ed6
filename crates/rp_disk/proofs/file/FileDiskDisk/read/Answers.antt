use Rattle.std.proofs.Common.{rules, ◌≡◌, length}
use Rattle.rp_disk.proofs.Noting.{read_earlier, read_range, read_bytes, read_inside}
use Rattle.rp_disk.proofs.file.FileDiskDisk.read.Goals as goal

pub returns-clause-earlier : goal.returns-clause-earlier
returns-clause-earlier g c = read_earlier _ _ _ _ _ c.ask_read.ensures.noted

pub returns-clause-range : goal.returns-clause-range
returns-clause-range g c = let same : length c.args.buf.now ≡ length c.ask_read.new.buf = search rules in read_range _ _ _ _ _ same _ c.ask_read.ensures.noted

pub returns-clause-bytes : goal.returns-clause-bytes
returns-clause-bytes g c = let same : length c.args.buf.now ≡ length c.ask_read.new.buf = search rules in read_bytes _ _ _ _ _ same _ c.ask_read.ensures.noted

pub returns-clause-inside : goal.returns-clause-inside
returns-clause-inside g c = let same : length c.args.buf.now ≡ length c.ask_read.new.buf = search rules in read_inside _ _ _ _ _ same _ c.ask_read.ensures.noted
