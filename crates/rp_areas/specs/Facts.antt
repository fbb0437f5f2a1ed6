-- What holds of the areas of a laid out table.
use Rattle.std.specs.Prelude.{ℕ, ◌+◌, ◌*◌, ◌<◌, ◌≤◌, ◌≡◌, ◌⊎◌, List, Option, Some, IsSome, MatchOption, max, slice_get}
use Rattle.rp_base.specs.declared.table.Row.{Row}
use Rattle.rp_base.specs.declared.want.Want.{Want}
use Rattle.rp_areas.specs.declared.gaps.Area.{Area}
use Rattle.rp_areas.specs.Areas.{grains_up, want_at}

-- an area lies within the usable units of 512 bytes
abbrev pub IsWithin : ℕ → ℕ → Area → Type 0
IsWithin first last area = (first ≤ 8 * area.from) × (0 < area.span → 8 * (area.from + area.span) ≤ last + 1)

-- an area's anchor is the row of its definition and begins the area; what it uses is its grains or its minimum, the greater, and its
-- padding's minimum
pub record IsAnchor (rows : List Row) (matched : List (Option ℕ)) (wants : List Want) (area : Area) (file : ℕ) : Type 0 where
  pub place : ℕ
  pub row : Row
  pub has : slice_get matched file ≡ Some (Some place)
  pub found : slice_get rows place ≡ Some row
  pub begins : row.start ≡ 8 * area.from
  pub uses : area.used ≡ max (grains_up row.size) (want_at wants file).min + (want_at wants file).pad_min

-- an area uses what its anchor uses, and nothing where it has none
abbrev pub IsAnchored : List Row → List (Option ℕ) → List Want → Area → Type 0
IsAnchored rows matched wants area = MatchOption area.anchor (area.used ≡ 0) (IsAnchor rows matched wants area)

-- a row has no unit in an area, or is its anchor, which begins it and takes no more than the used grains
abbrev pub IsClear : Area → Row → Type 0
IsClear area row = (row.start + row.size ≤ 8 * area.from) ⊎ ((8 * (area.from + area.span) ≤ row.start) ⊎ (IsSome
    area.anchor × (row.start ≡ 8 * area.from) × (row.size ≤ 8 * area.used)))
