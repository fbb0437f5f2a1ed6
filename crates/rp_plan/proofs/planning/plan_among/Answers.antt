-- The placement in the areas, and then the plan with it.
use Rattle.std.proofs.Common.{◌≡◌, ◌∙◌, ◌<◌, ◌^◌, List, Ok, Err, All, ap, sym, subst}
use Rattle.rp_base.specs.Answers.{Gives}
use Rattle.rp_demand.specs.declared.demand.Demand.TheVariants.{Memory}
use Rattle.rp_place.specs.declared.fit.New.{New}
use Rattle.rp_place.specs.Placing.{settled}
use Rattle.rp_sizes.specs.Needs.{matched_of}
use Rattle.rp_sizes.specs.News.{news_of}
use Rattle.rp_plan.specs.Goal.{after, place_demand, plan_among, plan_placed}
use Rattle.rp_plan.specs.Kept.{free_slots}
use Rattle.rp_plan.proofs.Demanded.{given_err, given_next, given_ok}
use Rattle.rp_plan.proofs.Given.{matched_length}
use Rattle.rp_plan.proofs.Ready.{are_wants, areas_few, needs_small, spans_small, wants_length}
use Rattle.rp_plan.proofs.planning.plan_among.Goals as goal

pub news-requires-clause-few : goal.news-requires-clause-few
news-requires-clause-few c = c.requires.asked.given.well_formed.few

pub news-requires-clause-wants : goal.news-requires-clause-wants
news-requires-clause-wants c = are_wants c.args.seen.now c.args.target c.args.defs.now c.args.facts.now c.args.matched.now c.args.wants.now c.requires.asked

pub news-requires-clause-one_each : goal.news-requires-clause-one_each
news-requires-clause-one_each c = sym (wants_length c.args.seen.now c.args.target c.args.defs.now c.args.facts.now c.args.matched.now c.args.wants.now c.requires.asked)
    ∙ matched_length c.args.seen.now c.args.target c.args.defs.now c.args.matched.now c.requires.asked.given

pub placed_in-requires-clause-seen : goal.placed_in-requires-clause-seen
placed_in-requires-clause-seen c = c.requires.asked.given.plannable

pub placed_in-requires-clause-used : goal.placed_in-requires-clause-used
placed_in-requires-clause-used c = c.requires.used

pub placed_in-requires-clause-few : goal.placed_in-requires-clause-few
placed_in-requires-clause-few c = areas_few c.args.seen.now c.args.target c.args.defs.now c.args.facts.now c.args.matched.now c.args.wants.now c.requires.asked c.args.areas.now c.requires.areas

pub placed_in-requires-clause-spans : goal.placed_in-requires-clause-spans
placed_in-requires-clause-spans c = spans_small c.args.seen.now c.args.target c.args.defs.now c.args.facts.now c.args.matched.now c.args.wants.now c.requires.asked c.args.areas.now c.requires.areas

pub placed_in-requires-clause-needs : goal.placed_in-requires-clause-needs
placed_in-requires-clause-needs c = subst (All (λ (n : New). n.need < 2 ^ 52)) (sym (c.as_slice-news.ensures ∙ c.in_ok-list.ensures))
    (needs_small c.args.seen.now c.args.target c.args.defs.now c.args.facts.now c.args.matched.now c.args.wants.now c.requires.asked)

pub plan_placed-requires-clause-asked : goal.plan_placed-requires-clause-asked
plan_placed-requires-clause-asked c = c.requires.asked

pub plan_placed-requires-clause-areas : goal.plan_placed-requires-clause-areas
plan_placed-requires-clause-areas c = c.requires.areas

pub plan_placed-requires-clause-news : goal.plan_placed-requires-clause-news
plan_placed-requires-clause-news c = c.as_slice-news.ensures ∙ c.in_ok-list.ensures

pub plan_placed-requires-clause-placed : goal.plan_placed-requires-clause-placed
plan_placed-requires-clause-placed c = given_ok place_demand (settled c.args.areas.now c.as_slice-news.result.now (free_slots c.args.seen.now.shown))
    c.in-Ok.placed c.in-Ok.ensures

pub returns-in-Ok : goal.returns-in-Ok
unfolding plan_among
returns-in-Ok c =
    let seen = c.args.seen.now in
    let defs = c.args.defs.now in
    let wants = c.args.wants.now in
    let areas = c.args.areas.now in
    let same : c.as_slice-news.result.now ≡ news_of (matched_of seen.shown defs) wants defs = c.as_slice-news.ensures ∙ c.in_ok-list.ensures
    ∙ ap (λ m. news_of m wants defs) c.requires.asked.given.own in
    let are : settled areas (news_of (matched_of seen.shown defs) wants defs) (free_slots seen.shown) ≡ Ok c.in-Ok.placed =
    ap (λ n. settled areas n (free_slots seen.shown)) (sym same)
    ∙ given_ok place_demand (settled areas c.as_slice-news.result.now (free_slots seen.shown)) c.in-Ok.placed c.in-Ok.ensures in
    given_next place_demand _ (λ placed. plan_placed seen c.args.target defs c.args.facts.now c.args.seed wants areas placed) c.in-Ok.placed
    c.plan_placed.result are c.plan_placed.ensures

pub returns : goal.returns
unfolding plan_among
returns c =
    let seen = c.args.seen.now in
    let defs = c.args.defs.now in
    let wants = c.args.wants.now in
    let areas = c.args.areas.now in
    let same : c.as_slice-news.result.now ≡ news_of (matched_of seen.shown defs) wants defs = c.as_slice-news.ensures ∙ c.in_ok-list.ensures
    ∙ ap (λ m. news_of m wants defs) c.requires.asked.given.own in
    given_err place_demand _ (λ placed. plan_placed seen c.args.target defs c.args.facts.now c.args.seed wants areas placed) c.in-Err.demand
    (subst (λ (n : List New). Gives Memory (after place_demand (settled areas n (free_slots seen.shown)) (λ placed. Ok placed)) (Err c.in-Err.demand)) same
    c.in-Err.ensures)
