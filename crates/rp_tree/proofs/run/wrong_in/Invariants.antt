-- None of the blocks before is wrong.
use Rattle.std.proofs.Common.{◌≡◌, ◌≤◌, ◌*◌, ◌-◌, None, Ok, length}
use Rattle.std.specs.Prelude.{find}
use Rattle.std.specs.List.{range_with_len}
use Rattle.rp_disk.specs.Device.{Known}
use Rattle.rp_disk.specs.History.{held}
use Rattle.rp_tree.specs.Reads.{Reads, end_of}
use Rattle.rp_tree.proofs.PieceLemmas.{differs_from}
use Rattle.rp_tree.proofs.run.wrong_in.Given as goal

abbrev pub invariant-pieces : goal.invariant-pieces
invariant-pieces g l = record {
  within : l.done ≤ l.count;
  some : 1 ≤ l.most;
  most : 4096 * l.most ≤ length l.buffer;
  reads : Reads {T = Unit {0}} (end_of l.payload) (g.D.Disk.device l.initial.disk) (g.D.Disk.device l.disk) (Ok tt);
  found : Known (g.D.Disk.device l.initial.disk) (g.D.Disk.device l.disk) (λ h.
      find (differs_from (held h) l.salt l.payload l.first l.digests) (range_with_len 0 l.done) ≡ None);
}

abbrev pub decreases-pieces : goal.decreases-pieces
decreases-pieces g l = l.count - l.done
