-- The steps so far were made.
use Rattle.std.proofs.Common.{◌≡◌, All, IfSome, drop, take}
use Rattle.std.specs.Prelude.{Option}
use Rattle.rp_disk.specs.Device.{Earlier, IsPossible, missed_by}
use Rattle.rp_disk.specs.Made.{Past}
use Rattle.rp_step.specs.Found.{HasFile, outside_of}
use Rattle.rp_step.specs.Stocked.{IsStocked}
use Rattle.rp_step.proofs.Going.{AreSoFar}
use Rattle.rp_step.proofs.Lengths.{LieSoFar}
use Rattle.rp_step.proofs.steps.make_steps.Given as goal

abbrev pub invariant-loop-step : goal.invariant-loop-step
invariant-loop-step g l = record {
  stocked : IsStocked l.plan l.blocks;
  earlier : Earlier (g.D.Disk.device l.initial.disk) (g.D.Disk.device l.disk);
  told : g.S.Sources.told l.sources ≡ g.S.Sources.told l.initial.sources;
  disk_faults : (g.D.Disk.device l.disk).faults ≡ (g.D.Disk.device l.initial.disk).faults;
  source_faults : g.S.Sources.faults l.sources ≡ g.S.Sources.faults l.initial.sources;
  so_far : (o : Option Past) → IsPossible o (g.D.Disk.device l.disk) → AreSoFar l.plan (outside_of (g.S.Sources.told l.initial.sources) l.paths o)
      (take l.step-index l.steps)
      (g.D.Disk.device l.initial.disk).calls (g.D.Disk.device l.disk).calls;
  disk_strays : (o : Option Past) → IsPossible o (g.D.Disk.device l.disk) → LieSoFar l.plan o l.steps (drop l.step-index l.steps) (g.D.Disk.device l.initial.disk).calls
      (g.D.Disk.device l.disk).calls
      (missed_by o (g.D.Disk.device l.initial.disk).answers) (missed_by o (g.D.Disk.device l.disk).answers);
  source_strays : IfSome (g.S.Sources.told l.initial.sources) (λ files. All (HasFile files l.paths) l.steps
      → g.S.Sources.strays l.sources ≡ g.S.Sources.strays l.initial.sources);
}
