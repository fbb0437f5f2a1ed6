-- The rows of the designators so far.
use Rattle.std.proofs.Common.{◌≡◌, Ok, length, map, take}
use Rattle.rp_disk.specs.Device.{Known}
use Rattle.rp_disk.specs.History.{held}
use Rattle.rp_policy.specs.Reading.{designators}
use Rattle.rp_tree.specs.Reads.{Reads}
use Rattle.rp_dissect.specs.Kinds.{found_of}
use Rattle.rp_dissect.specs.Reach.{farthest}
use Rattle.rp_dissect.proofs.found.found_in.Given as goal

abbrev pub invariant-loop-place : goal.invariant-loop-place
invariant-loop-place g l = record {
  reads : Reads {T = Unit {0}} (farthest l.rows) (g.D.Disk.device l.initial.disk) (g.D.Disk.device l.disk) (Ok tt);
  size : length l.found ≡ 13;
  found : Known (g.D.Disk.device l.initial.disk) (g.D.Disk.device l.disk) (λ h.
      take l.place l.found ≡ map (found_of (held h) l.arch l.rows) (take l.place designators));
}
