-- The first demand, or the plan from what is asked.
use Rattle.std.proofs.Common.{◌≡◌, ◌∙◌, List, None, Some, ap, arith, inl, subst, sym}
use Rattle.rp_base.specs.Answers.{Gives}
use Rattle.rp_base.specs.declared.want.Want.{Want}
use Rattle.rp_areas.specs.Matching.{matches_of}
use Rattle.rp_demand.specs.declared.demand.Demand.TheVariants.{Memory}
use Rattle.rp_sizes.specs.Needs.{matched_of}
use Rattle.rp_sizes.specs.Sizes.{asked, first_demand}
use Rattle.rp_plan.specs.Goal.{goal as the_goal, plan_asked, unless}
use Rattle.rp_plan.proofs.Demanded.{given_unless}
use Rattle.rp_plan.proofs.Given.{rows_few}
use Rattle.rp_plan.proofs.Whole.{given_well_formed}
use Rattle.rp_plan.proofs.planning.plan.Goals as goal

pub assign-requires : goal.assign-requires
assign-requires c = omega (arith, rows_few c.args.seen.now c.requires.seen)

pub returns-in-Some : goal.returns-in-Some
unfolding the_goal
returns-in-Some c =
    let seen = c.args.seen.now in
    let defs = c.args.defs.now in
    let facts = c.args.facts.now in
    let own : c.as_slice-matched.result.now ≡ matched_of seen.shown defs = c.as_slice-matched.ensures ∙ c.in_ok-list.ensures.matches
    ∙ ap (matches_of seen.shown.rows) (c.as_slice.ensures ∙ c.in_ok-kinds.ensures) in
    let some : first_demand (matched_of seen.shown defs) defs facts ≡ Some c.in-Some.demand = ap (λ m. first_demand m defs facts) (sym own)
    ∙ sym c.first_demand.ensures ∙ c.in-Some.is in
    record { plan = inl (sym (ap (λ o. unless o (plan_asked seen c.args.target defs facts c.args.seed (asked (matched_of seen.shown defs) defs facts))) some)); well_formed = tt }

pub plan_asked-requires : goal.plan_asked-requires
plan_asked-requires c =
    let own = c.as_slice-matched.ensures ∙ c.in_ok-list.ensures.matches
    ∙ ap (matches_of c.args.seen.now.shown.rows) (c.as_slice.ensures ∙ c.in_ok-kinds.ensures) in
    record {
      asked = record {
        given = record { plannable = c.requires.seen; aim = c.requires.target; well_formed = c.requires.defs; own = own };
        none = sym c.first_demand.ensures ∙ c.in_default.is;
        wanted = c.as_slice-2.ensures ∙ c.in_ok-wants.ensures;
      };
    }

pub returns : goal.returns
unfolding the_goal
returns c =
    let seen = c.args.seen.now in
    let defs = c.args.defs.now in
    let facts = c.args.facts.now in
    let own : c.as_slice-matched.result.now ≡ matched_of seen.shown defs = c.as_slice-matched.ensures ∙ c.in_ok-list.ensures.matches
    ∙ ap (matches_of seen.shown.rows) (c.as_slice.ensures ∙ c.in_ok-kinds.ensures) in
    let none : first_demand (matched_of seen.shown defs) defs facts ≡ None = ap (λ m. first_demand m defs facts) (sym own)
    ∙ sym c.first_demand.ensures ∙ c.in_default.is in
    let wants : c.as_slice-2.result.now ≡ asked (matched_of seen.shown defs) defs facts = c.as_slice-2.ensures ∙ c.in_ok-wants.ensures
    ∙ ap (λ m. asked m defs facts) own in
    let gives : Gives Memory (the_goal seen c.args.target defs facts c.args.seed) c.plan_asked.result =
    given_unless (first_demand (matched_of seen.shown defs) defs facts)
    (plan_asked seen c.args.target defs facts c.args.seed (asked (matched_of seen.shown defs) defs facts)) c.plan_asked.result none
    (subst (λ (w : List Want). Gives Memory (plan_asked seen c.args.target defs facts c.args.seed w) c.plan_asked.result) wants c.plan_asked.ensures) in
    record {
      plan = gives;
      well_formed = given_well_formed seen c.args.target defs facts c.args.seed c.plan_asked.result c.requires.seen c.requires.target c.requires.defs c.requires.facts gives;
    }
