-- The names so far are those of the files so far.
use Rattle.std.proofs.Common.{◌≡◌, take}
use Rattle.rp_io.specs.Files.{names_in}
use Rattle.rp_io.proofs.stored.names_in_folder.Given as goal

abbrev pub invariant-loop-file : goal.invariant-loop-file
invariant-loop-file l = l.names ≡ names_in (take l.file-index l.files) l.folder
