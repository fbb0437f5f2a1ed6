use Rattle.rp_reset_stops.proofs.Through.{stops_honest, stops_whole}
use Rattle.rp_reset_stops.proofs.law.a_stop_leaves_the_old_the_reset_or_the_goal.Goals as goal

pub returns-clause-honest : goal.returns-clause-honest
returns-clause-honest c sector old empty seen defs reset plan before body behind made image is are fits are_behind front left =
    stops_honest sector old empty seen defs reset plan is before are fits body behind are_behind image made front left

pub returns-clause-whole : goal.returns-clause-whole
returns-clause-whole c sector old empty seen defs reset plan before body behind made image is are fits are_behind front left =
    stops_whole sector old empty seen defs reset plan is before are fits body behind are_behind image made front left
