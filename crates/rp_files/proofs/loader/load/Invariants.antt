-- The groups so far are taken, and those left give the answer.
use Rattle.std.proofs.Common.{◌≡◌, take, drop, map}
use Rattle.std.specs.Prelude.{IfSome, flat_map}
use Rattle.rp_files.specs.Pieces.{pieces_of, files_of, count_of}
use Rattle.rp_files.specs.Reading.{joined, AddsAtMost}
use Rattle.rp_files.specs.Found.{group_of}
use Rattle.rp_files.proofs.loader.load.Given as goal

abbrev pub invariant-loop-group : goal.invariant-loop-group
invariant-loop-group g l = record {
  told : g.F.Folders.told l.folders ≡ g.F.Folders.told l.initial.folders;
  pieces : IfSome (g.F.Folders.told l.initial.folders) (λ tree. pieces_of (flat_map (files_of tree) (map group_of l.group-items))
      ≡ joined l.found (pieces_of (flat_map (files_of tree) (map group_of (drop l.group-index l.group-items)))));
  strays : IfSome (g.F.Folders.told l.initial.folders) (λ tree. g.F.Folders.strays l.folders ≡ g.F.Folders.strays l.initial.folders);
  adds : AddsAtMost (count_of (map group_of (take l.group-index l.group-items))) l.initial.found l.found;
  faults : g.F.Folders.faults l.folders ≡ g.F.Folders.faults l.initial.folders;
}
