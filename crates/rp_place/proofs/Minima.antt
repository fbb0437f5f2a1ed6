-- What the areas of a table and the kept placement in them come to.
use Rattle.std.proofs.Common.{◌≡◌, ℕ, ◌+◌, ◌-◌, ◌^◌, ◌≤◌, pos, List, [], Option, Some, IfSome, Ok, refl, slice_get, subst}
use Rattle.rp_base.specs.declared.table.Table.{Table}
use Rattle.rp_base.specs.declared.want.Want.{Want}
use Rattle.rp_areas.specs.declared.gaps.Area.{Area}
use Rattle.rp_areas.specs.Areas.{areas_of}
use Rattle.rp_areas.proofs.Public.{areas_used}
use Rattle.rp_place.specs.declared.fit.New.{New}
use Rattle.rp_place.specs.declared.threshold.Placed.{Placed}
use Rattle.rp_place.specs.Facts.{needs_in}
use Rattle.rp_place.specs.Placing.{settled}
use Rattle.rp_place.proofs.Keeps.{placement_at}
use Rattle.rp_place.proofs.Settled.{placed_settled}

-- what is used and placed in an area fits its span
pub minima_fit : (table : Table) (last : ℕ) (matched : List (Option ℕ)) (wants : List Want) (areas : List Area) (news : List New)
    (free : ℕ) (p : Placed)
    → areas_of table last matched wants ≡ Ok areas → settled areas news free ≡ Ok p
    → (place : ℕ) (area : Area) → slice_get areas place ≡ Some area → area.used + needs_in place news p.areas ≤ area.span
minima_fit table last matched wants areas news free p are is place area at =
    let placement = placement_at areas news p.threshold p.areas (areas_used table last matched wants areas are)
    (placed_settled areas news free p is) in
    subst (λ (o : Option Area). IfSome o (λ a. a.used + needs_in place news p.areas ≤ a.span)) at (placement.fits place)

pub nothing_new : (areas : List Area) (free : ℕ) → settled areas [] free ≡ Ok (record { threshold = pos (2 ^ 31 - 1); areas = [] })
nothing_new areas free = refl
