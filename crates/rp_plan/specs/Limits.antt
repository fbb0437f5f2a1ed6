-- What the limits of definitions leave of the rows of the goal (repart.d(5), SizeMinBytes=, SizeMaxBytes=, PaddingMinBytes=,
-- PaddingMaxBytes=).
use Rattle.std.specs.Prelude.{ℕ, ◌≡◌, ◌⊎◌, List, Option, None, Some, IfSome}
use Rattle.rp_base.specs.Plan.{Noted}
use Rattle.rp_base.specs.declared.plan.Plan.{Plan}
use Rattle.rp_base.specs.declared.seen.Seen.{Seen}
use Rattle.rp_base.specs.declared.table.Row.{Row}
use Rattle.rp_base.specs.declared.want.Want.{Want}
use Rattle.rp_areas.specs.Areas.{want_at}
use Rattle.rp_layout.specs.Facts.{IsSpot}
use Rattle.rp_layout.specs.Seats.{row_of}
use Rattle.rp_layout.specs.declared.spot.Spot.{Spot}
use Rattle.rp_defs.specs.declared.definition.Definition.{Definition}
use Rattle.rp_sizes.specs.Needs.{matched_of}
use Rattle.rp_sizes.specs.Sizes.{asked}
use Rattle.rp_sizes.specs.declared.need.Fact.{Fact}

-- a row is a partition of these units with some padding behind, and both keep to what is asked for
abbrev pub KeepsLimits : Plan → ℕ → Want → Option Row → Row → Type 0
KeepsLimits plan first want old row =
    (spot : Spot) × (spot.start ≡ row.start) × (spot.size ≡ row.size) × IsSpot first plan.goal.last want old spot

-- a new row keeps to them; the old row of a definition does as well, or has the size that it had
abbrev pub KeepsOwnLimits : Plan → ℕ → Want → Option Row → Row → Type 0
KeepsOwnLimits plan first want None row = KeepsLimits plan first want None row
KeepsOwnLimits plan first want (Some old) row = (row.size ≡ old.size) ⊎ KeepsLimits plan first want (Some old) row

-- a row of a definition keeps to what is asked for it
abbrev pub ObeysLimits : Seen → List Definition → List Fact → Plan → Noted → Type 0
ObeysLimits seen defs facts plan noted = IfSome noted.1.file (λ file. KeepsOwnLimits plan seen.shown.first
    (want_at (asked (matched_of seen.shown defs) defs facts) file) (row_of seen.shown.rows (matched_of seen.shown defs) file) noted.0)
