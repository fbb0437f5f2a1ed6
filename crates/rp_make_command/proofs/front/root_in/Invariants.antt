use Rattle.std.proofs.Common.{◌≡◌, drop}
use Rattle.rp_make_command.specs.Summary.{root_in}
use Rattle.rp_make_command.proofs.front.root_in.Given as goal

-- none so far
abbrev pub invariant-loop-note : goal.invariant-loop-note
invariant-loop-note l = root_in l.notes ≡ root_in (drop l.note-index l.notes)
