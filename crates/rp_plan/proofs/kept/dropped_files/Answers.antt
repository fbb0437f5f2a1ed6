use Rattle.std.proofs.Common.{◌∙◌, FitsSigned, ap, arith, of_z, rules, to_z, w32}
use Rattle.std.proofs.lemmas.Int.{to_z-of_z}
use Rattle.rp_sizes.proofs.Walks.{answers_all, answers_more}
use Rattle.rp_plan.specs.Kept.{dropped_file, dropped_files}
use Rattle.rp_plan.proofs.kept.dropped_files.Goals as goal

pub loop-file-preserved : goal.loop-file-preserved
loop-file-preserved c = answers_more (dropped_file c.args.matched.now (to_z w32 (of_z w32 c.args.threshold))) c.loop-file.files _ c.args.defs.now c.loop-file.file
    c.index-defs-file.result _ _ (omega arith) c.index-defs-file.is c.dropped_file.ensures c.in_ok-push_some.ensures c.loop-file.invariant

pub returns : goal.returns
returns c =
    let fits : FitsSigned w32 c.args.threshold = search rules in
    answers_all (dropped_file c.args.matched.now (to_z w32 (of_z w32 c.args.threshold))) c.loop-file.files c.args.defs.now c.loop-file.file _ (omega arith) c.loop-file.invariant
    ∙ ap (λ t. dropped_files c.args.matched.now t c.args.defs.now) (to_z-of_z w32 c.args.threshold fits)
