use Rattle.std.proofs.Common.{◌∙◌, arith, false, sym}
use Rattle.std.specs.Prelude.{◌==◌}
use Rattle.std.specs.Option.{option_map_or}
use Rattle.rp_plan.proofs.Searching.{position_here, position_nowhere}
use Rattle.rp_plan.proofs.rows.file_of.Goals as goal

pub returns-then-is_at : goal.returns-then-is_at
returns-then-is_at c = position_here (λ m. option_map_or (λ p. p == c.args.place) m false) c.args.matched.now c.loop-file.file _ (omega arith)
    c.loop-file.invariant (sym c.is_at.ensures ∙ c.if-is_at.true)

pub returns : goal.returns
returns c = position_nowhere (λ m. option_map_or (λ p. p == c.args.place) m false) c.args.matched.now c.loop-file.file (omega arith)
    c.loop-file.invariant
