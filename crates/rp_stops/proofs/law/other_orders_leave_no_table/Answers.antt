use Rattle.std.proofs.Common.{◌≡◌, ◌∷◌, [], replicate, subst, sym}
use Rattle.rp_base.specs.Image.{bytes_at}
use Rattle.rp_base.specs.declared.geometry.Which.TheVariants.{Primary, Backup}
use Rattle.rp_stops.specs.Order.{close_call, header_call, header_offset, target_sectors}
use Rattle.rp_stops.specs.Wrong.{LeavesNoTable}
use Rattle.rp_stops.proofs.Carried.{plan-given, plan-sector}
use Rattle.rp_stops.proofs.Wrong.{no_sync_between_copies, primary_closed_first}
use Rattle.rp_stops.proofs.law.other_orders_leave_no_table.Goals as goal

pub returns-clause-primary_first : goal.returns-clause-primary_first
returns-clause-primary_first c sector old empty seen plan start is long shut =
    let e = plan-sector sector old empty seen plan is in
    subst (λ z. LeavesNoTable z start (close_call plan Primary ∷ [])) e
    (primary_closed_first old seen plan (plan-given sector old empty seen plan is) start long
    (subst (λ z. bytes_at start (header_offset z (target_sectors plan) Backup) z ≡ replicate z 0) (sym e) shut))

pub returns-clause-no_sync_between : goal.returns-clause-no_sync_between
returns-clause-no_sync_between c sector old empty seen plan start is long shut =
    let e = plan-sector sector old empty seen plan is in
    subst (λ z. LeavesNoTable z start (header_call plan Backup ∷ close_call plan Primary ∷ [])) e
    (no_sync_between_copies old seen plan (plan-given sector old empty seen plan is) start long
    (subst (λ z. bytes_at start (header_offset z (target_sectors plan) Backup) z ≡ replicate z 0) (sym e) shut))
