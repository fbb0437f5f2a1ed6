use Rattle.std.proofs.Common.{◌≡◌, ℕ, ◌+◌, ◌*◌, List, min}
use Rattle.std.specs.Prelude.{Option}
use Rattle.rp_disk.specs.Device.{Earlier, IsPossible, missed_by}
use Rattle.rp_disk.specs.Made.{Past}
use Rattle.rp_format.specs.Taking.{IsAt}
use Rattle.rp_format.specs.Waiting.{IsEmpty}
use Rattle.rp_format.specs.Written.{LieIn}
use Rattle.rp_format.proofs.Steps.{AreRead, Reaches, SoFar}
use Rattle.rp_format.proofs.Told.{Stays}
use Rattle.rp_format.proofs.format.write_hashes.Given as goal

abbrev pub invariant-runs : goal.invariant-runs
invariant-runs g l = record {
  builder : IsAt l.tree (min (4 * l.turn) l.tree.blocks) l.builder;
  waiting : IsEmpty l.waiting;
  earlier : Earlier (g.D.Disk.device l.fn.disk) (g.D.Disk.device l.disk);
  faults : (g.D.Disk.device l.disk).faults ≡ (g.D.Disk.device l.fn.disk).faults;
  strays : (o : Option Past) → IsPossible o (g.D.Disk.device l.disk) → Stays (LieIn l.tree) o (g.D.Disk.device l.fn.disk).calls (missed_by o (g.D.Disk.device l.fn.disk).answers) (missed_by o (g.D.Disk.device l.disk).answers);
  reaches : (o : Option Past) → IsPossible o (g.D.Disk.device l.disk) → Reaches l.tree (min (4 * l.turn) l.tree.blocks) o (g.D.Disk.device l.fn.disk).calls;
  so_far : (o : Option Past) → IsPossible o (g.D.Disk.device l.disk) → (taken : List (List ℕ)) × SoFar l.tree o (g.D.Disk.device l.fn.disk).calls l.builder
      (min (4 * l.turn) l.tree.blocks) (g.D.Disk.device l.disk).calls taken;
}

abbrev pub invariant-each : goal.invariant-each
invariant-each g l = record {
  builder : IsAt l.tree (l.k + l.i) l.builder;
  waiting : IsEmpty l.waiting;
  earlier : Earlier (g.D.Disk.device l.fn.disk) (g.D.Disk.device l.disk);
  faults : (g.D.Disk.device l.disk).faults ≡ (g.D.Disk.device l.fn.disk).faults;
  strays : (o : Option Past) → IsPossible o (g.D.Disk.device l.disk) → Stays (LieIn l.tree) o (g.D.Disk.device l.fn.disk).calls (missed_by o (g.D.Disk.device l.fn.disk).answers) (missed_by o (g.D.Disk.device l.disk).answers);
  read : (o : Option Past) → IsPossible o (g.D.Disk.device l.disk) → AreRead l.tree l.k l.count o (g.D.Disk.device l.fn.disk).calls l.digests;
  reaches : (o : Option Past) → IsPossible o (g.D.Disk.device l.disk) → Reaches l.tree (l.k + l.count) o (g.D.Disk.device l.fn.disk).calls;
  so_far : (o : Option Past) → IsPossible o (g.D.Disk.device l.disk) → (taken : List (List ℕ)) × SoFar l.tree o (g.D.Disk.device l.fn.disk).calls l.builder (l.k + l.i)
      (g.D.Disk.device l.disk).calls taken;
}
