-- Where the partitions lie, the table that they make, and the notes.
use Rattle.std.proofs.Common.{◌∙◌, FitsSigned, List, Ok, Err, Result, ap, of_z, rules, sym, subst, to_z, w32}
use Rattle.std.proofs.lemmas.Int.{to_z-of_z}
use Rattle.rp_base.specs.Answers.{Gives}
use Rattle.rp_demand.specs.declared.demand.Demand.TheVariants.{Memory}
use Rattle.rp_ident.specs.declared.fault.IdentFault.{IdentFault}
use Rattle.rp_base.specs.declared.table.Table.{Table}
use Rattle.rp_place.specs.declared.fit.New.{New}
use Rattle.rp_place.specs.Placing.{settled}
use Rattle.rp_layout.specs.Facts.{IsReady}
use Rattle.rp_layout.specs.Layout.{laid}
use Rattle.rp_plan.specs.Goal.{after, goal_table, ident_demand, plan_placed, plan_with}
use Rattle.rp_plan.specs.Kept.{free_slots}
use Rattle.rp_plan.specs.Rows.{last_of}
use Rattle.rp_plan.proofs.Demanded.{given_err, given_next, given_ok}
use Rattle.rp_plan.proofs.Ready.{is_ready}
use Rattle.rp_plan.proofs.Tabled.{table_is}
use Rattle.rp_plan.proofs.planning.plan_placed.Goals as goal

pub lay_out-requires : goal.lay_out-requires
lay_out-requires c =
    let seen = c.args.seen.now in
    let areas = c.args.areas.now in
    let settles = ap (λ n. settled areas n (free_slots seen.shown)) (sym c.requires.news) ∙ c.requires.placed in
    record {
      ready = (
        last_of seen c.args.target,
        subst (λ (n : List New). IsReady seen.shown (last_of seen c.args.target) c.args.matched.now c.args.wants.now areas n c.args.placed) (sym c.requires.news)
            (is_ready c.args.seen.now c.args.target c.args.defs.now c.args.facts.now c.args.matched.now c.args.wants.now c.requires.asked areas c.args.placed c.requires.areas settles),
      );
    }

pub goal_table-requires-clause-given : goal.goal_table-requires-clause-given
goal_table-requires-clause-given c = c.requires.asked.given

pub returns-in-Ok : goal.returns-in-Ok
unfolding plan_placed
returns-in-Ok c =
    let fits : FitsSigned w32 c.args.placed.threshold = search rules in
    let seen = c.args.seen.now in
    let target = c.args.target in
    let defs = c.args.defs.now in
    let facts = c.args.facts.now in
    let wants = c.args.wants.now in
    let areas = c.args.areas.now in
    let matched = c.args.matched.now in
    let placed = c.args.placed in
    let same = to_z-of_z w32 c.args.placed.threshold fits in
    let are = table_is seen target defs facts c.args.seed wants areas placed matched c.as_slice-spots.result.now c.as_slice-kept.result.now
    (to_z w32 (of_z w32 c.args.placed.threshold)) same c.requires.asked.given.own
    (c.as_slice-spots.ensures ∙ c.in_ok-laid.ensures.spots ∙ ap (λ n. laid seen.shown.rows matched wants areas n placed.areas) c.requires.news)
    (c.as_slice-kept.ensures ∙ c.in_ok-files.ensures) in
    given_next ident_demand (goal_table seen target defs facts c.args.seed wants areas placed)
    (λ table. Ok (plan_with seen target defs facts c.args.seed placed.threshold table)) c.in-Ok.goal c.noted.result
    (sym are ∙ given_ok ident_demand _ c.in-Ok.goal c.in-Ok.ensures.gives)
    (subst (λ t. Gives Memory (Ok (plan_with seen target defs facts c.args.seed t c.in-Ok.goal)) c.noted.result) same c.noted.ensures)

pub returns : goal.returns
unfolding plan_placed
returns c =
    let fits : FitsSigned w32 c.args.placed.threshold = search rules in
    let seen = c.args.seen.now in
    let target = c.args.target in
    let defs = c.args.defs.now in
    let facts = c.args.facts.now in
    let wants = c.args.wants.now in
    let areas = c.args.areas.now in
    let matched = c.args.matched.now in
    let placed = c.args.placed in
    let same = to_z-of_z w32 c.args.placed.threshold fits in
    let are = table_is seen target defs facts c.args.seed wants areas placed matched c.as_slice-spots.result.now c.as_slice-kept.result.now
    (to_z w32 (of_z w32 c.args.placed.threshold)) same c.requires.asked.given.own
    (c.as_slice-spots.ensures ∙ c.in_ok-laid.ensures.spots ∙ ap (λ n. laid seen.shown.rows matched wants areas n placed.areas) c.requires.news)
    (c.as_slice-kept.ensures ∙ c.in_ok-files.ensures) in
    given_err ident_demand (goal_table seen target defs facts c.args.seed wants areas placed)
    (λ table. Ok (plan_with seen target defs facts c.args.seed placed.threshold table)) c.in-Err.demand
    (subst (λ (r : Result Table IdentFault). Gives Memory (after ident_demand r (λ table. Ok table)) (Err c.in-Err.demand)) are c.in-Err.ensures.gives)
