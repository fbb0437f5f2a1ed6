use Rattle.std.proofs.Common.{◌≡◌, ◌+◌}
use Rattle.rp_disk.specs.Device.{Earlier}
use Rattle.rp_fill.proofs.Copying.{CopiedSoFar, HasPieces, Reaches, StaysIn}
use Rattle.rp_fill.proofs.copy.copy_source.Given as goal

abbrev pub invariant-loop-k : goal.invariant-loop-k
invariant-loop-k g l = record {
  earlier : Earlier (g.D.Disk.device l.initial.disk) (g.D.Disk.device l.disk);
  told : g.S.Sources.told l.sources ≡ g.S.Sources.told l.initial.sources;
  copied : CopiedSoFar (g.S.Sources.told l.initial.sources) l.path l.len l.at l.k (g.D.Disk.device l.initial.disk).calls (g.D.Disk.device l.disk).calls;
  whole : HasPieces (g.S.Sources.told l.initial.sources) l.path l.len l.k;
  disk_faults : (g.D.Disk.device l.disk).faults ≡ (g.D.Disk.device l.initial.disk).faults;
  source_faults : g.S.Sources.faults l.sources ≡ g.S.Sources.faults l.initial.sources;
  disk_inside : StaysIn (g.D.Disk.device l.initial.disk) (g.D.Disk.device l.disk) (l.at + l.len);
  source_strays : Reaches (g.S.Sources.told l.initial.sources) l.path l.len
      (g.S.Sources.strays l.initial.sources) (g.S.Sources.strays l.sources);
}
