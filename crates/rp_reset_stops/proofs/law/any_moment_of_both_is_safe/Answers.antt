use Rattle.rp_reset_stops.proofs.Through.{moment_honest, moment_whole}
use Rattle.rp_reset_stops.proofs.law.any_moment_of_both_is_safe.Goals as goal

pub returns-clause-honest : goal.returns-clause-honest
returns-clause-honest c sector bytes empty seen defs reset plan before body behind old now any is are fits are_behind =
    moment_honest sector bytes empty seen defs reset plan before body behind old now any is are fits are_behind

pub returns-clause-whole : goal.returns-clause-whole
returns-clause-whole c sector bytes empty seen defs reset plan before body behind old now any is are fits are_behind =
    moment_whole sector bytes empty seen defs reset plan before body behind old now any is are fits are_behind
