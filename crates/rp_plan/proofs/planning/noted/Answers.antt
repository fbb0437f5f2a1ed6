-- Notes on old rows, then on new ones.
use Rattle.std.proofs.Common.{◌∙◌, FitsSigned, Ok, ap, arith, inl, length, map, of_z, rules, sym, to_z, w32}
use Rattle.std.specs.List.{enumerate_from}
use Rattle.std.proofs.lemmas.Int.{to_z-of_z}
use Rattle.rp_base.specs.declared.plan.Plan.{Plan}
use Rattle.rp_plan.specs.Kept.{first_free}
use Rattle.rp_plan.specs.Notes.{old_note}
use Rattle.rp_plan.proofs.Counted.{files_length, kept_few}
use Rattle.rp_plan.proofs.Given.{matched_few, rows_few}
use Rattle.rp_plan.proofs.Tabled.{plan_is}
use Rattle.rp_plan.proofs.planning.noted.Goals as goal

pub old_notes-requires-clause-rows : goal.old_notes-requires-clause-rows
old_notes-requires-clause-rows c = omega (arith, ap length c.as_slice-old.ensures, rows_few c.args.seen.now c.requires.given.plannable)

pub old_notes-requires-clause-matched : goal.old_notes-requires-clause-matched
old_notes-requires-clause-matched c = matched_few c.args.seen.now c.args.target c.args.defs.now c.args.matched.now c.requires.given

pub add_notes-requires-clause-few : goal.add_notes-requires-clause-few
add_notes-requires-clause-few c = omega (
  arith,
  ap length c.requires.kept,
  files_length c.args.matched.now c.args.threshold c.args.defs.now,
  kept_few c.args.matched.now c.args.threshold c.args.defs.now,
  c.requires.given.well_formed.few,
)

pub returns : goal.returns
returns c =
    let fits : FitsSigned w32 c.args.threshold = search rules in
    let matched = c.args.matched.now in
    let goal_rows = c.args.goal.rows in
    let olds = c.in_ok-notes.ensures
    ∙ ap (λ g. map (old_note matched g) (enumerate_from 0 c.as_slice-old.result.now)) c.as_slice.ensures
    ∙ ap (λ rs. map (old_note matched goal_rows) (enumerate_from 0 rs)) c.as_slice-old.ensures in
    inl (sym (ap (λ (p : Plan). Ok p) (sym (plan_is c.args.seen.now c.args.target c.args.defs.now c.args.facts.now c.args.seed c.args.threshold
    (to_z w32 (of_z w32 c.args.threshold)) c.args.goal matched c.args.kept.now c.first_free.result c.in_ok-notes.notes c.add_notes.new.notes
    c.in_ok-dropped.dropped (to_z-of_z w32 c.args.threshold fits) c.requires.given.own c.requires.kept
    (c.first_free.ensures.value ∙ ap first_free c.as_slice-old.ensures) olds c.in_ok-add_notes.ensures c.in_ok-dropped.ensures))))
