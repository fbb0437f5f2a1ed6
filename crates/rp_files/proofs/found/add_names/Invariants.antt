-- The names so far are added.
use Rattle.std.proofs.Common.{take}
use Rattle.rp_files.specs.Found.{AddsNames}
use Rattle.rp_files.proofs.found.add_names.Given as goal

abbrev pub invariant-loop-name : goal.invariant-loop-name
invariant-loop-name l = AddsNames l.folder (take l.name-index l.names) l.initial.found.entries l.found.entries
