-- A well formed plan has a note for each row.
use Rattle.std.proofs.Common.{◌≡◌, length, sym, ◌∙◌, ap}
use Rattle.std.proofs.lemmas.List.{length-map}
use Rattle.rp_base.specs.Plan.{IsWellFormed}
use Rattle.rp_base.specs.declared.plan.Note.{Note}
use Rattle.rp_base.specs.declared.plan.Plan.{Plan}
use Rattle.rp_base.specs.declared.seen.Seen.{Seen}
use Rattle.rp_base.specs.declared.table.Row.{Row}

pub as_many : (seen : Seen) (plan : Plan) → IsWellFormed seen plan → length plan.notes ≡ length plan.goal.rows
as_many seen plan well_formed =
    sym (length-map plan.notes (λ (note : Note). note.slot)) ∙ ap length well_formed.notes ∙ length-map plan.goal.rows (λ (row : Row). row.slot)
