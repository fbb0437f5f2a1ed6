-- Rows, then names.
use Rattle.std.proofs.Common.{◌≡◌, ◌∙◌, ◌<◌, FitsSigned, All, IfSome, ap, arith, length, of_z, rules, sym, subst, to_z, w32}
use Rattle.std.proofs.lemmas.Int.{to_z-of_z}
use Rattle.rp_base.specs.declared.table.Row.{Row}
use Rattle.rp_plan.specs.Kept.{kept_of}
use Rattle.rp_plan.proofs.Counted.{files_length, kept_few, laid_length, names_within}
use Rattle.rp_plan.proofs.Given.{matched_few, places_within, rows_few, slots_small}
use Rattle.rp_plan.proofs.Naming.{named_length}
use Rattle.rp_plan.proofs.planning.goal_table.Goals as goal

pub rows_laid-requires-clause-slots : goal.rows_laid-requires-clause-slots
rows_laid-requires-clause-slots c = subst (All (λ (row : Row). row.slot < 1024)) (sym c.as_slice-old.ensures) (slots_small c.args.seen.now c.requires.given.plannable)

pub rows_laid-requires-clause-rows : goal.rows_laid-requires-clause-rows
rows_laid-requires-clause-rows c = omega (arith, ap length c.as_slice-old.ensures, rows_few c.args.seen.now c.requires.given.plannable)

pub rows_laid-requires-clause-matched : goal.rows_laid-requires-clause-matched
rows_laid-requires-clause-matched c = matched_few c.args.seen.now c.args.target c.args.defs.now c.args.matched.now c.requires.given

pub rows_laid-requires-clause-defs : goal.rows_laid-requires-clause-defs
rows_laid-requires-clause-defs c = c.requires.given.well_formed.few

pub overflow_cast-old : goal.overflow_cast-old
overflow_cast-old c = omega (arith, ap length c.as_slice-old.ensures, rows_few c.args.seen.now c.requires.given.plannable)

pub namings-requires-clause-rows : goal.namings-requires-clause-rows
namings-requires-clause-rows c = omega (arith, ap length c.as_slice-old.ensures, rows_few c.args.seen.now c.requires.given.plannable)

pub namings-requires-clause-few : goal.namings-requires-clause-few
namings-requires-clause-few c = omega (
  arith,
  ap length c.requires.kept,
  files_length c.args.matched.now c.args.threshold c.args.defs.now,
  kept_few c.args.matched.now c.args.threshold c.args.defs.now,
  c.requires.given.well_formed.few,
)

pub namings-requires-clause-defs : goal.namings-requires-clause-defs
namings-requires-clause-defs c = c.requires.given.well_formed.few

pub name_rows-requires : goal.name_rows-requires
name_rows-requires c =
    let matched = c.args.matched.now in
    let defs = c.args.defs.now in
    let fits : FitsSigned w32 c.args.threshold = search rules in
    let t = to_z-of_z w32 c.args.threshold fits in
    let same : length c.args.seen.now.shown.rows ≡ length c.as_slice-old.result.now = ap length (sym c.as_slice-old.ensures) in
    let count = ap (λ t. length (kept_of matched t defs)) t in
    let rows = ap length c.in_ok-rows.ensures ∙ laid_length c.as_slice-old.result.now matched (to_z w32 (of_z w32 c.args.threshold)) defs c.args.spots.now in
    let files = ap length c.requires.kept ∙ files_length matched c.args.threshold defs in
    names_within c.as_slice.result.now c.args.facts.now matched _ c.args.kept.now defs (length c.in_ok-rows.rows)
    (c.as_slice.ensures ∙ c.in_ok-namings.ensures)
    (subst (λ n. All (λ m. IfSome m (λ p. p < n)) matched) same
    (places_within c.args.seen.now c.args.target defs matched c.requires.given))
    (omega (arith, rows, count, files))

pub returns-in-Ok-clause-rows : goal.returns-in-Ok-clause-rows
returns-in-Ok-clause-rows c =
    let rows = ap length c.in_ok-rows.ensures ∙ laid_length c.as_slice-old.result.now c.args.matched.now (to_z w32 (of_z w32 c.args.threshold))
    c.args.defs.now c.args.spots.now in
    let named = named_length _ c.in-Ok.table c.as_slice.result.now c.args.seed (sym c.in-Ok.ensures) in
    omega (arith, rows, named, ap length c.as_slice-old.ensures)
