-- What is seen behind a reset can be planned for as what was seen.
use Rattle.std.proofs.Common.{◌≡◌, ◌∙◌, ℕ, ◌≤◌, ◌/◌, Bool, true, false, List, Option, Some, None, Ok, refl, sym, ap, subst}
use Rattle.std.specs.Prelude.{◌&&◌, IfSome, nat_lt}
use Rattle.rp_base.specs.Geometry.{least_sectors, sector_units}
use Rattle.rp_base.specs.Plan.{IsWellFormed as IsPlan}
use Rattle.rp_base.specs.Table.{IsWhole}
use Rattle.rp_base.specs.declared.plan.Plan.{Plan}
use Rattle.rp_base.specs.declared.seen.Seen.{Seen}
use Rattle.rp_defs.specs.declared.definition.Definition.{Definition}
use Rattle.rp_gpt.specs.Accepted.{IsSeen}
use Rattle.rp_plan.proofs.Given.{rows_few}
use Rattle.rp_planned.proofs.Target.{is_plannable}
use Rattle.rp_planned.specs.Planning.{must_repair, target_of}
use Rattle.rp_planned.specs.declared.planned.Planned.{Planned}
use Rattle.rp_reset.proofs.Public.{reset_fits, reset_is, reset_writes}
use Rattle.rp_reset.specs.Reset.{reset as reset_of}
use Rattle.rp_stops.specs.After.{seen_after}
use Rattle.rp_reset_command.specs.Carrying.{IsFormed}
use Rattle.rp_reset_command.specs.Renewing.{renewed, seen_left}

-- false on the right
and_false : (b : Bool) → (b && false) ≡ false
and_false true = refl
and_false false = refl

-- what a reset leaves shows its primary copy
pub no_repair : (size : ℕ) (seen : Seen) (reset : Option Plan) → must_repair size seen ≡ false → must_repair size (seen_left seen reset) ≡ false
no_repair size seen None is = is
no_repair size seen (Some reset) is = and_false (nat_lt reset.target (target_of size (seen_after seen reset)))

-- the plan of a reset is well formed
pub reset_formed : (sector : ℕ) (seen : Seen) (list : List Definition) (reset : Option Plan) → IsSeen sector seen → reset_of seen list ≡ Ok reset
    → IfSome reset (IsPlan seen)
reset_formed sector seen list None is made = tt
reset_formed sector seen list (Some reset) is made = (reset_fits seen list reset made (is_plannable sector seen is)).well_formed

-- what it leaves is seen as an image is
pub left_seen : (sector : ℕ) (seen : Seen) (list : List Definition) (reset : Option Plan) → IsSeen sector seen → reset_of seen list ≡ Ok reset
    → IsSeen sector (seen_left seen reset)
left_seen sector seen list None is made = is
left_seen sector seen list (Some reset) is made =
    let formed = (reset_fits seen list reset made (is_plannable sector seen is)).well_formed in
    let of_sector : reset.goal.sector ≡ sector = formed.sector ∙ is.of_sector in
    let same : reset.target ≡ seen.sectors = ap (λ (p : Plan). p.target) (reset_is seen list reset made) in
    record {
      of_sector = of_sector;
      whole = subst (λ (z : ℕ). IsWhole z reset.target) of_sector formed.target.whole;
      room =
          subst (λ (n : ℕ). least_sectors sector reset.goal.entries ≤ n / sector_units sector) (sym same)
          (subst (λ (n : ℕ). least_sectors sector n ≤ seen.sectors / sector_units sector) (sym formed.entries) is.room);
      most = formed.target.most;
      writable = formed.writable;
      fits = reset_writes seen list reset made is.fits;
      in_place = formed.in_place;
    }

-- both plans are well formed
pub both_formed : (sector : ℕ) (seen : Seen) (list : List Definition) (reset : Option Plan) (planned : Planned) → IsSeen sector seen
    → reset_of seen list ≡ Ok reset → IsPlan planned.seen planned.plan → IsFormed (renewed seen reset planned)
both_formed sector seen list reset planned is made formed = record {
  rows = rows_few seen (is_plannable sector seen is);
  planned = formed;
  reset = reset_formed sector seen list reset is made;
}
