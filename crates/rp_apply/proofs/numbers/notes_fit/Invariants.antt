use Rattle.std.proofs.Common.{ℕ, ◌<◌, get_or}
use Rattle.rp_base.specs.declared.plan.Note.{Note}
use Rattle.rp_steps.specs.Contents.{RoleFits}
use Rattle.rp_apply.proofs.numbers.notes_fit.Given as goal

abbrev pub invariant-loop-note : goal.invariant-loop-note
invariant-loop-note l = (k : ℕ) (d : Note) → k < l.note-index → RoleFits (get_or l.notes k d).role
