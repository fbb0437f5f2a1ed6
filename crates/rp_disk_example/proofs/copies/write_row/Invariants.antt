use Rattle.std.proofs.Common.{◌≡◌, ◌++◌}
use Rattle.rp_disk.specs.Device.{Earlier}
use Rattle.rp_disk.specs.Made.{dones}
use Rattle.rp_disk_example.specs.Copies.{row_of}
use Rattle.rp_disk_example.proofs.copies.write_row.Given as goal

abbrev pub invariant-loop-i : goal.invariant-loop-i
invariant-loop-i g l = record {
  earlier : Earlier (g.D.Disk.device l.initial.disk) (g.D.Disk.device l.disk);
  so_far : (g.D.Disk.device l.disk).calls ≡ (g.D.Disk.device l.initial.disk).calls ++ dones (row_of l.at l.i l.bytes);
  faults : (g.D.Disk.device l.disk).faults ≡ (g.D.Disk.device l.initial.disk).faults;
}
