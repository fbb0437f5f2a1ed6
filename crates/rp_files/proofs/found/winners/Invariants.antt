-- What the folders so far have is found.
use Rattle.std.proofs.Common.{◌≡◌, take, map}
use Rattle.std.specs.Prelude.{IfSome, flat_map}
use Rattle.rp_files.specs.Pieces.{in_order, found_in, candidates}
use Rattle.rp_files.specs.Found.{found_of}
use Rattle.rp_files.proofs.found.winners.Given as goal

abbrev pub invariant-loop-dir : goal.invariant-loop-dir
invariant-loop-dir g l = record {
  told : g.F.Folders.told l.folders ≡ g.F.Folders.told l.initial.folders;
  found : IfSome (g.F.Folders.told l.initial.folders)
      (λ tree. found_of l.found.entries ≡ in_order
      (flat_map (λ folder. map (found_in folder) (candidates tree folder)) (take l.dir-index l.dirs)));
  strays : IfSome (g.F.Folders.told l.initial.folders) (λ tree. g.F.Folders.strays l.folders ≡ g.F.Folders.strays l.initial.folders);
  faults : g.F.Folders.faults l.folders ≡ g.F.Folders.faults l.initial.folders;
}
