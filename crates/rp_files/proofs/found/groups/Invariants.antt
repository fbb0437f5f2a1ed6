-- The main files so far have their groups.
use Rattle.std.proofs.Common.{◌≡◌, take, map}
use Rattle.std.specs.Prelude.{IfSome}
use Rattle.rp_files.specs.Pieces.{group_at}
use Rattle.rp_files.specs.Found.{found_of, group_of}
use Rattle.rp_files.proofs.found.groups.Given as goal

abbrev pub invariant-loop-main : goal.invariant-loop-main
invariant-loop-main g l = record {
  told : g.F.Folders.told l.folders ≡ g.F.Folders.told l.initial.folders;
  groups : IfSome (g.F.Folders.told l.initial.folders)
      (λ tree. map group_of l.groups.items ≡ map (group_at tree l.dirs) (found_of (take l.main-index l.main-items)));
  strays : IfSome (g.F.Folders.told l.initial.folders) (λ tree. g.F.Folders.strays l.folders ≡ g.F.Folders.strays l.initial.folders);
  faults : g.F.Folders.faults l.folders ≡ g.F.Folders.faults l.initial.folders;
}
