use Rattle.std.proofs.Common.{◌≡◌, ◌++◌}
use Rattle.std.specs.Prelude.{Option}
use Rattle.rp_disk.specs.Device.{Earlier, IsPossible, missed_by}
use Rattle.rp_disk.specs.Made.{Past, dones}
use Rattle.rp_format.specs.Puts.{EndBy, kept_puts, writes_of}
use Rattle.rp_format.proofs.Told.{Stays}
use Rattle.rp_format.proofs.waiting.Waiting.write_to.Given as goal

abbrev pub invariant-loop-k : goal.invariant-loop-k
invariant-loop-k g l = record {
  earlier : Earlier (g.D.Disk.device l.initial.disk) (g.D.Disk.device l.disk);
  so_far : (g.D.Disk.device l.disk).calls ≡ (g.D.Disk.device l.initial.disk).calls ++ dones (writes_of l.hash_at (kept_puts l.k l.self.places l.self.blocks));
  faults : (g.D.Disk.device l.disk).faults ≡ (g.D.Disk.device l.initial.disk).faults;
  strays : (o : Option Past) → IsPossible o (g.D.Disk.device l.disk) → Stays (λ n. EndBy l.hash_at n (kept_puts l.self.count l.self.places l.self.blocks))
      o (g.D.Disk.device l.initial.disk).calls (missed_by o (g.D.Disk.device l.initial.disk).answers) (missed_by o (g.D.Disk.device l.disk).answers);
}
