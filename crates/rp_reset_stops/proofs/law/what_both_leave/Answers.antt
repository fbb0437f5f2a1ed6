use Rattle.rp_reset_stops.proofs.Through.{final_last, rows_last, seen_last}
use Rattle.rp_reset_stops.proofs.law.what_both_leave.Goals as goal

pub returns-clause-seen : goal.returns-clause-seen
returns-clause-seen c sector old empty then seen defs reset plan before body behind is are fits are_behind other =
    seen_last sector old empty seen defs reset plan is before are fits body behind are_behind then other

pub returns-clause-bytes : goal.returns-clause-bytes
returns-clause-bytes c sector old empty seen defs reset plan before body behind is are fits are_behind =
    rows_last sector old empty seen defs reset plan is before are fits body behind are_behind

pub returns-clause-final_image : goal.returns-clause-final_image
returns-clause-final_image c sector old empty seen defs reset plan before body behind contents is are fits are_behind fills =
    final_last sector old empty seen defs reset plan is before are fits body behind are_behind contents fills
