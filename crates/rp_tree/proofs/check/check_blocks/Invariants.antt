-- The blocks of the lowest level so far, and the data blocks under them.
use Rattle.std.proofs.Common.{◌≡◌, ◌-◌, ◌*◌, Ok, drop, length, min}
use Rattle.rp_disk.specs.Device.{Known}
use Rattle.rp_disk.specs.History.{held}
use Rattle.rp_tree.specs.Checked.{begin_of, block_of, first_wrong}
use Rattle.rp_tree.specs.Reads.{Reads, ends_of}
use Rattle.rp_tree.specs.Standing.{Stands}
use Rattle.rp_tree.proofs.check.check_blocks.Given as goal

abbrev pub invariant-loop-index : goal.invariant-loop-index
invariant-loop-index g l = record {
  notes : length l.notes ≡ 5;
  reads : Reads {T = Unit {0}} (ends_of l.payload l.hash) (g.D.Disk.device l.initial.disk) (g.D.Disk.device l.disk) (Ok tt);
  stands : Known (g.D.Disk.device l.initial.disk) (g.D.Disk.device l.disk) (λ h.
      drop (4096 * (l.count - 1)) l.initial.standing ≡ block_of (held h) l.hash 1
      → Stands (held h) l.salt l.hash l.count l.blocks l.index l.standing l.notes
      × (l.found ≡ first_wrong (held h) l.salt l.payload 0 (min (128 * l.index) l.blocks) l.hash (begin_of l.count l.blocks)));
}
