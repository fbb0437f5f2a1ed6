use Rattle.rp_plan.proofs.Small.{given_small}
use Rattle.rp_plan.proofs.planning.placed_in.Goals as goal

pub place_demand-requires : goal.place_demand-requires
place_demand-requires c = given_small c.args.areas.now c.args.news.now _ c.in-Err.fault c.requires.spans c.requires.needs c.in-Err.ensures
