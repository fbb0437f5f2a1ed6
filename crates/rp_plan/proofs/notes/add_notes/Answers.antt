use Rattle.std.proofs.Common.{◌∙◌, ◌++◌, FitsSigned, ap, arith, map, of_z, rules, to_z, w32}
use Rattle.std.proofs.lemmas.Int.{to_z-of_z}
use Rattle.std.specs.List.{enumerate_from}
use Rattle.rp_plan.specs.Kept.{is_kept, kept_of}
use Rattle.rp_plan.specs.Notes.{new_note}
use Rattle.rp_plan.proofs.Keeping.{kept_all}
use Rattle.rp_plan.proofs.notes.add_notes.Goals as goal

pub returns : goal.returns
returns c =
    let fits : FitsSigned w32 c.args.threshold = search rules in
    kept_all (is_kept c.args.matched.now (to_z w32 (of_z w32 c.args.threshold))) (new_note c.args.seed c.args.defs.now c.args.facts.now c.args.free c.args.kept.now) c.loop-file.notes c.args.defs.now c.loop-file.file
    c.loop-file.slot _ (omega arith) c.loop-file.invariant.rows
    ∙ ap (λ t. c.args.notes.now ++ map (new_note c.args.seed c.args.defs.now c.args.facts.now c.args.free c.args.kept.now) (enumerate_from c.args.free (kept_of c.args.matched.now t c.args.defs.now))) (to_z-of_z w32 c.args.threshold fits)
