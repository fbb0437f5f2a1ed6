use Rattle.std.proofs.Common.{◌≡◌, subst}
use Rattle.rp_disk.specs.Calls.{all_done}
use Rattle.rp_gpt.specs.Shown.{shown, shows, told_at}
use Rattle.rp_stops.proofs.Carried.{plan-given, plan-sector}
use Rattle.rp_stops.proofs.Final.{final, holds_table, shown_goal, told_goal}
use Rattle.rp_stops.proofs.law.finished_law.Goals as goal

pub returns-clause-final_image : goal.returns-clause-final_image
returns-clause-final_image c sector old empty seen plan body calls contents is are fills =
    final old seen plan (plan-given sector old empty seen plan is) body calls are contents fills

pub returns-clause-told : goal.returns-clause-told
returns-clause-told c sector old empty seen plan body calls which is are =
    subst (λ z. told_at z (all_done old calls) which ≡ shows plan.goal) (plan-sector sector old empty seen plan is)
    (told_goal old seen plan (plan-given sector old empty seen plan is) body calls are which)

pub returns-clause-shown : goal.returns-clause-shown
returns-clause-shown c sector old empty seen plan body calls is are =
    subst (λ z. shown z (all_done old calls) ≡ shows plan.goal) (plan-sector sector old empty seen plan is)
    (shown_goal old seen plan (plan-given sector old empty seen plan is) body calls are)

pub returns-clause-table : goal.returns-clause-table
returns-clause-table c sector old empty seen plan body calls is are =
    holds_table old seen plan (plan-given sector old empty seen plan is) body calls are
