use Rattle.std.proofs.Common.{◌≡◌, ◌+◌, ◌++◌, replicate}
use Rattle.rp_disk.specs.Device.{Earlier}
use Rattle.rp_disk.specs.Made.{dones}
use Rattle.rp_fill.proofs.Copying.{StaysIn}
use Rattle.rp_fill.proofs.Pieces.{some_pieces}
use Rattle.rp_fill.proofs.zeros.write_zeros.Given as goal

abbrev pub invariant-loop-k : goal.invariant-loop-k
invariant-loop-k g l = record {
  earlier : Earlier (g.D.Disk.device l.initial.disk) (g.D.Disk.device l.disk);
  so_far : (g.D.Disk.device l.disk).calls ≡ (g.D.Disk.device l.initial.disk).calls ++ dones (some_pieces l.at (replicate l.len 0) l.k);
  faults : (g.D.Disk.device l.disk).faults ≡ (g.D.Disk.device l.initial.disk).faults;
  inside : StaysIn (g.D.Disk.device l.initial.disk) (g.D.Disk.device l.disk) (l.at + l.len);
}
