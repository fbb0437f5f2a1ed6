-- The areas, and then the plan among them.
use Rattle.std.proofs.Common.{◌≡◌, ◌∙◌, List, Ok, Err, Option, ap, sym, subst, ℕ}
use Rattle.rp_base.specs.Answers.{Gives}
use Rattle.rp_areas.specs.Areas.{areas_of}
use Rattle.rp_areas.specs.declared.gaps.Area.{Area}
use Rattle.rp_demand.specs.declared.demand.Demand.TheVariants.{Memory}
use Rattle.rp_sizes.specs.Needs.{matched_of}
use Rattle.rp_plan.specs.Goal.{after, area_demand, plan_among, plan_asked}
use Rattle.rp_plan.specs.Rows.{last_of}
use Rattle.rp_plan.proofs.Demanded.{given_err, given_next, given_ok}
use Rattle.rp_plan.proofs.planning.plan_asked.Goals as goal

pub plan_among-requires-clause-asked : goal.plan_among-requires-clause-asked
plan_among-requires-clause-asked c = c.requires.asked

pub plan_among-requires-clause-areas : goal.plan_among-requires-clause-areas
plan_among-requires-clause-areas c =
    given_ok area_demand (areas_of c.args.seen.now.shown (last_of c.args.seen.now c.args.target) c.args.matched.now c.args.wants.now) c.in-Ok.areas c.in-Ok.ensures.gives
    ∙ ap (λ areas. Ok areas) (sym c.as_slice.ensures)

pub returns-in-Ok : goal.returns-in-Ok
unfolding plan_asked
returns-in-Ok c =
    let seen = c.args.seen.now in
    let target = c.args.target in
    let defs = c.args.defs.now in
    let wants = c.args.wants.now in
    let are : (areas_of c.args.seen.now.shown (last_of c.args.seen.now c.args.target) (matched_of c.args.seen.now.shown c.args.defs.now) c.args.wants.now) ≡ Ok c.in-Ok.areas =
    ap (λ m. areas_of seen.shown (last_of seen target) m wants) (sym c.requires.asked.given.own)
    ∙ given_ok area_demand (areas_of c.args.seen.now.shown (last_of c.args.seen.now c.args.target) c.args.matched.now c.args.wants.now) c.in-Ok.areas c.in-Ok.ensures.gives in
    given_next area_demand _ (λ areas. plan_among seen target defs c.args.facts.now c.args.seed wants areas) c.in-Ok.areas c.plan_among.result are
    (subst (λ (areas : List Area). Gives Memory (plan_among seen target defs c.args.facts.now c.args.seed wants areas) c.plan_among.result)
    c.as_slice.ensures c.plan_among.ensures)

pub returns-in-Err : goal.returns-in-Err
unfolding plan_asked
returns-in-Err c =
    let seen = c.args.seen.now in
    let target = c.args.target in
    let defs = c.args.defs.now in
    let wants = c.args.wants.now in
    given_err area_demand _ (λ areas. plan_among seen target defs c.args.facts.now c.args.seed wants areas) c.in-Err.demand
    (subst (λ (m : List (Option ℕ)). Gives Memory (after area_demand (areas_of seen.shown (last_of seen target) m wants) (λ areas. Ok areas))
    (Err c.in-Err.demand)) c.requires.asked.given.own c.in-Err.ensures.gives)
