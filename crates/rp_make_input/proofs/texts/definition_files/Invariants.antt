use Rattle.std.proofs.Common.{◌≡◌}
use Rattle.rp_make_input.specs.Texts.{part_files}
use Rattle.rp_make_input.proofs.texts.definition_files.Given as goal

abbrev pub invariant-loop-i : goal.invariant-loop-i
invariant-loop-i l = l.files ≡ part_files l.i
