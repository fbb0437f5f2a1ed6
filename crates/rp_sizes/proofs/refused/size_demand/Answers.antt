use Rattle.std.proofs.Common.{arith, sym, ◌∙◌}
use Rattle.rp_sizes.specs.Sizes.{too_large}
use Rattle.rp_sizes.proofs.Walks.{first_here, first_none, first_past}
use Rattle.rp_sizes.proofs.refused.size_demand.Goals as goal

pub loop-file-preserved : goal.loop-file-preserved
loop-file-preserved c = first_past (too_large c.args.matched.now c.args.defs.now c.args.facts.now) c.args.defs.now c.loop-file.file c.index-defs-file.result _ (omega arith) c.index-defs-file.is
    (sym c.too_large.ensures ∙ c.in_default.is) c.loop-file.invariant

pub returns-in-Some : goal.returns-in-Some
returns-in-Some c = first_here (too_large c.args.matched.now c.args.defs.now c.args.facts.now) c.args.defs.now c.loop-file.file c.index-defs-file.result _ _ (omega arith) c.index-defs-file.is
    (sym c.too_large.ensures ∙ c.in-Some.is) c.loop-file.invariant

pub returns : goal.returns
returns c = first_none (too_large c.args.matched.now c.args.defs.now c.args.facts.now) c.args.defs.now c.loop-file.file _ (omega arith) c.loop-file.invariant
