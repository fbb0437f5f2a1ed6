use Rattle.std.proofs.Common.{◌∙◌, ap, arith, cond, sym, None, Some}
use Rattle.rp_demand.specs.declared.demand.Demand.TheVariants.{ResetMix}
use Rattle.rp_reset.specs.Mix.{mix_of}
use Rattle.rp_sizes.proofs.Walks.{first_here, first_past}
use Rattle.rp_reset.proofs.mix.mix.Goals as goal

pub loop-file-preserved : goal.loop-file-preserved
loop-file-preserved c = first_past (mix_of c.args.defs.now) c.args.defs.now c.loop-file.file c.index-defs-file.result _ (omega arith) c.index-defs-file.is
    (ap (λ b. cond b (Some (ResetMix c.loop-file.file)) None) (sym c.is_mixed.ensures ∙ c.if-is_mixed.false)) c.loop-file.invariant

pub returns-then-is_mixed : goal.returns-then-is_mixed
returns-then-is_mixed c = first_here (mix_of c.args.defs.now) c.args.defs.now c.loop-file.file c.index-defs-file.result (ResetMix c.loop-file.file) _
    (omega arith) c.index-defs-file.is (ap (λ b. cond b (Some (ResetMix c.loop-file.file)) None) (sym c.is_mixed.ensures ∙ c.if-is_mixed.true))
    c.loop-file.invariant
