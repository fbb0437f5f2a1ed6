use Rattle.std.proofs.Common.{arith, sym, ◌∙◌}
use Rattle.rp_reset.specs.Reset.{resets}
use Rattle.rp_reset.proofs.Walks.{any_here, any_none, any_past}
use Rattle.rp_reset.proofs.rows.is_reset.Goals as goal

pub loop-file-preserved : goal.loop-file-preserved
loop-file-preserved c = any_past (resets c.args.matched.now c.args.place) c.args.defs.now c.loop-file.file c.index-defs-file.result _ (omega arith)
    c.index-defs-file.is (sym c.resets.ensures ∙ c.if-resets.false) c.loop-file.invariant

pub returns-then-resets : goal.returns-then-resets
returns-then-resets c = any_here (resets c.args.matched.now c.args.place) c.args.defs.now c.loop-file.file c.index-defs-file.result _ (omega arith)
    c.index-defs-file.is (sym c.resets.ensures ∙ c.if-resets.true) c.loop-file.invariant

pub returns : goal.returns
returns c = any_none (resets c.args.matched.now c.args.place) c.args.defs.now c.loop-file.file _ (omega arith) c.loop-file.invariant
