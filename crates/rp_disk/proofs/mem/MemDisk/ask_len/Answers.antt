use Rattle.std.proofs.Common.{rules, ◌≡◌, length}
use Rattle.rp_disk.specs.MemDisk.{own}
use Rattle.rp_disk.specs.Record.{recorded}
use Rattle.rp_disk.proofs.Own.{told_length}
use Rattle.rp_disk.proofs.mem.MemDisk.ask_len.Goals as goal

pub invariant_of-self-2-clause-told : goal.invariant_of-self-2-clause-told
invariant_of-self-2-clause-told c =
    let s = c.args.self.now in
    let len_is : c.len-len.result ≡ length s.bytes.items = search rules in
    rw (c.then-self.ensures.1, len_is) (told_length (own s) (recorded s.notes) s.log.calls s.bytes.items s.log.answers s.logged s.shows s.told)
