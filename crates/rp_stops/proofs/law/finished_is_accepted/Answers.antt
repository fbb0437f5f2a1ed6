use Rattle.std.proofs.Common.{◌≡◌, Ok, subst}
use Rattle.rp_disk.specs.Calls.{all_done}
use Rattle.rp_gpt.specs.Shown.{accepted}
use Rattle.rp_stops.specs.After.{seen_after}
use Rattle.rp_stops.proofs.After.{accepted_after}
use Rattle.rp_stops.proofs.Carried.{plan-given, plan-sector}
use Rattle.rp_stops.proofs.law.finished_is_accepted.Goals as goal

pub returns : goal.returns
returns c sector old empty then seen plan body calls is are other =
    subst (λ z. accepted z (all_done old calls) then ≡ Ok (seen_after seen plan)) (plan-sector sector old empty seen plan is)
    (accepted_after old seen plan (plan-given sector old empty seen plan is) body calls are then other)
