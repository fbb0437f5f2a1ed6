use Rattle.rp_reset_stops.proofs.Given.{middle_rows, middle_seen, plan_behind}
use Rattle.rp_reset_stops.proofs.law.what_a_reset_leaves.Goals as goal

pub returns-clause-seen : goal.returns-clause-seen
returns-clause-seen c sector old empty then seen defs reset before is are other =
    middle_seen sector old empty seen defs reset is before are then other

pub returns-clause-bytes : goal.returns-clause-bytes
returns-clause-bytes c sector old empty seen defs reset before is are = middle_rows sector old empty seen defs reset is before are

pub returns-clause-behind : goal.returns-clause-behind
returns-clause-behind c sector old empty seen defs reset plan before is are fits =
    plan_behind sector old empty seen defs reset is before are plan fits
