use Rattle.rp_plan.proofs.Given.{places_within}
use Rattle.rp_plan.proofs.Ready.{are_wants, wants_length}
use Rattle.rp_plan.proofs.planning.areas_for.Goals as goal

pub areas-requires-clause-laid_out : goal.areas-requires-clause-laid_out
areas-requires-clause-laid_out c = c.requires.asked.given.plannable.in_place.rows

pub areas-requires-clause-matched : goal.areas-requires-clause-matched
areas-requires-clause-matched c = wants_length c.args.seen.now c.args.target c.args.defs.now c.args.facts.now c.args.matched.now c.args.wants.now c.requires.asked

pub areas-requires-clause-places : goal.areas-requires-clause-places
areas-requires-clause-places c = places_within c.args.seen.now c.args.target c.args.defs.now c.args.matched.now c.requires.asked.given

pub areas-requires-clause-wants : goal.areas-requires-clause-wants
areas-requires-clause-wants c = are_wants c.args.seen.now c.args.target c.args.defs.now c.args.facts.now c.args.matched.now c.args.wants.now c.requires.asked
