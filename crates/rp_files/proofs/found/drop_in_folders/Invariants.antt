-- The folders so far.
use Rattle.std.proofs.Common.{◌≡◌, take}
use Rattle.rp_files.specs.Pieces as grammar
use Rattle.rp_files.proofs.found.drop_in_folders.Given as goal

abbrev pub invariant-loop-dir : goal.invariant-loop-dir
invariant-loop-dir l = l.folders ≡ grammar.drop_in_folders (take l.dir-index l.dirs) l.name
