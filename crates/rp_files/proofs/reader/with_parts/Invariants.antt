-- The drop-ins so far are taken, and those left give the answer.
use Rattle.std.proofs.Common.{◌≡◌, drop, map}
use Rattle.std.specs.Prelude.{IfSome}
use Rattle.rp_files.specs.Pieces.{pieces_of, part_at}
use Rattle.rp_files.specs.Reading as reading
use Rattle.rp_files.specs.Found.{found_of, AreThere}
use Rattle.rp_files.proofs.reader.with_parts.Given as goal

abbrev pub invariant-loop-part : goal.invariant-loop-part
invariant-loop-part g l = record {
  told : g.F.Folders.told l.folders ≡ g.F.Folders.told l.initial.folders;
  pieces : IfSome (g.F.Folders.told l.initial.folders)
      (λ tree. reading.joined l.initial.pieces (pieces_of (map (part_at tree l.file) (found_of l.parts)))
      ≡ reading.joined l.pieces (pieces_of (map (part_at tree l.file) (found_of (drop l.part-index l.parts)))));
  strays : IfSome (g.F.Folders.told l.initial.folders)
      (λ tree. AreThere tree (found_of l.parts) → g.F.Folders.strays l.folders ≡ g.F.Folders.strays l.initial.folders);
  adds : reading.AddsAtMost l.part-index l.initial.pieces l.pieces;
  faults : g.F.Folders.faults l.folders ≡ g.F.Folders.faults l.initial.folders;
}
