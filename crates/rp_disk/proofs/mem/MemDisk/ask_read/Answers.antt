use Rattle.std.proofs.Common.{rules, ◌≡◌, ◌+◌, ◌≤◌, length}
use Rattle.rp_base.specs.Image.{bytes_at}
use Rattle.rp_disk.specs.MemDisk.{own}
use Rattle.rp_disk.specs.Record.{recorded}
use Rattle.rp_disk.proofs.Own.{told_missed, told_read}
use Rattle.rp_disk.proofs.mem.MemDisk.ask_read.Goals as goal

pub invariant_of-self-clause-told : goal.invariant_of-self-clause-told
invariant_of-self-clause-told c =
    let s = c.args.self.now in
    rw (c.then-self.ensures.1) (told_missed (own s) s.log.calls _ s.log.answers s.told)

pub invariant_of-self-2-clause-told : goal.invariant_of-self-2-clause-told
invariant_of-self-2-clause-told c =
    let s = c.args.self.now in
    let read = c.copy_from_slice.new.self in
    let inside : c.args.at + length read ≤ length s.bytes.items = search rules in
    let is : read ≡ bytes_at s.bytes.items c.args.at (length read) = search rules in
    rw (c.then-self-2.ensures.1) (told_read (own s) (recorded s.notes) s.log.calls s.bytes.items s.log.answers s.logged s.shows s.told c.args.at read inside is)
