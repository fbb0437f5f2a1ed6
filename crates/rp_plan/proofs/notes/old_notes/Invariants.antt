use Rattle.std.proofs.Common.{◌≡◌, ◌++◌, drop, map}
use Rattle.std.specs.List.{enumerate_from}
use Rattle.rp_plan.specs.Notes.{old_note}
use Rattle.rp_plan.proofs.notes.old_notes.Given as goal

abbrev pub invariant-loop-place : goal.invariant-loop-place
invariant-loop-place l = l.notes ++ map (old_note l.matched l.goal) (enumerate_from l.place (drop l.place l.rows)) ≡ map (old_note l.matched l.goal) (enumerate_from 0 l.rows)
