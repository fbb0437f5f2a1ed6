-- The first demand, or the plan by the places of rows.
use Rattle.std.proofs.Common.{◌∙◌, ap, arith, inl, sym}
use Rattle.rp_areas.specs.Matching.{matches_of}
use Rattle.rp_plan.proofs.Given.{rows_few}
use Rattle.rp_reset.proofs.Made.{demand_is, fits_if, plan_is}
use Rattle.rp_reset.proofs.planning.reset.Goals as goal

pub assign-requires : goal.assign-requires
assign-requires c = omega (arith, rows_few c.args.seen.now c.requires.seen)

pub plan_without-requires-clause-rows : goal.plan_without-requires-clause-rows
plan_without-requires-clause-rows c = rows_few c.args.seen.now c.requires.seen

pub returns-in-Some : goal.returns-in-Some
returns-in-Some c = record {
  reset = inl (demand_is c.args.seen.now c.args.defs.now c.in-Some.demand (sym c.mix.ensures ∙ c.in-Some.is));
  fits = tt;
}

pub returns : goal.returns
returns c =
    let seen = c.args.seen.now in
    let own = c.as_slice-2.ensures ∙ c.in_ok-matched.ensures.matches ∙ ap (matches_of seen.shown.rows) (c.as_slice.ensures ∙ c.in_ok-kinds.ensures) in
    let is = plan_is seen c.args.defs.now c.as_slice-2.result.now c.in_ok-plan.plan (sym c.mix.ensures ∙ c.in_default.is) own c.in_ok-plan.ensures in
    record { reset = inl is; fits = fits_if seen c.args.defs.now c.in_ok-plan.plan c.requires.seen is }
