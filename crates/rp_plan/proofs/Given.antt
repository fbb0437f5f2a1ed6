-- What holds of an image that is planned for.
use Rattle.std.proofs.Common.{◌≡◌, ◌∙◌, ℕ, zero, suc, ◌-◌, ◌/◌, ◌^◌, ◌<◌, ◌≤◌, List, [], length, get_or, Option, All, AllPairs, IfSome, arith, inl, inr, sym, ap, subst}
use Rattle.std.proofs.lemmas.Bool.{cases_lt}
use Rattle.std.proofs.lemmas.List.{length-map}
use Rattle.rp_base.specs.Geometry.{IsSector, first_usable, least_sectors, sector_units, usable_end}
use Rattle.rp_base.specs.declared.seen.Seen.{Seen}
use Rattle.rp_base.specs.declared.table.Row.{Row}
use Rattle.rp_areas.proofs.Public.{matched_len, matched_places}
use Rattle.rp_defs.specs.declared.definition.Definition.{Definition}
use Rattle.rp_sizes.specs.Needs.{kinds_of}
use Rattle.rp_plan.specs.Plannable.{IsGiven, IsPlannable}
use Rattle.rp_plan.specs.Rows.{last_of}

abbrev pub no_row : Row
no_row = record { slot = 0; kind = record { 0 = [] }; id = record { 0 = [] }; start = 0; size = 0; attrs = 0; name = [] }

-- rising slots are no less than their places
rank_le : (rows : List Row) → AllPairs (λ a b. a.slot < b.slot) rows → (k : ℕ) → k < length rows → k ≤ (get_or rows k no_row).slot
rank_le rows rising zero below = omega arith
rank_le rows rising (suc k) below =
    let more = rising k (suc k) no_row (omega arith) below in
    omega (arith, more, rank_le rows rising k (omega (arith, below)))

pub slots_small : (seen : Seen) → IsPlannable seen → All (λ (row : Row). row.slot < 1024) seen.shown.rows
slots_small seen is = λ k d below. omega (arith, (is.writable.rows.rows k d below).slot, is.writable.entries.most)

pub rows_few : (seen : Seen) → IsPlannable seen → length seen.shown.rows ≤ 1024
rows_few seen is =
    let rows = seen.shown.rows in
    elim (cases_lt 0 (length rows)) [
      | inl some ↦
          let last : length rows - 1 < length rows = omega (arith, some) in
          omega (
            arith,
            some,
            rank_le rows is.writable.rows.rising (length rows - 1) last,
            slots_small seen is (length rows - 1) no_row last,
          )
      | inr none ↦ omega (arith, none)
    ]

module _ (seen : Seen) (target : ℕ) (defs : List Definition) (matched : List (Option ℕ)) (given : IsGiven seen target defs matched) where
  pub matched_length : length matched ≡ length defs
  matched_length = ap length given.own ∙ matched_len seen.shown.rows (kinds_of defs) ∙ length-map defs (λ (d : Definition). d.kind)

  pub matched_few : length matched ≤ 256
  matched_few = omega (arith, matched_length, given.well_formed.few)

  pub places_within : All (λ m. IfSome m (λ p. p < length seen.shown.rows)) matched
  places_within = subst (All (λ m. IfSome m (λ p. p < length seen.shown.rows))) (sym given.own)
      (matched_places seen.shown.rows (kinds_of defs))

-- a target that is no shorter has room for the copies, and its last usable unit is no less
abbrev HasRoom : ℕ → ℕ → ℕ → ℕ → ℕ → ℕ → Type 0
HasRoom entries units target first last sector = units ≤ target → target ≤ 2 ^ 35 → first_usable sector entries ≤ first → first ≤ last
    → last < usable_end sector entries (units / sector_units sector)
    → (least_sectors sector entries ≤ target / sector_units sector) × (target / sector_units sector ≤ 2 ^ 35)
    × (last < usable_end sector entries (target / sector_units sector)) × (usable_end sector entries (target / sector_units sector) ≤ 2 ^ 35)

room_512 : (entries units target first last : ℕ) → HasRoom entries units target first last 512
room_512 entries units target first last a b c d e = (omega (arith, a, b, c, d, e), omega (arith, b), omega (arith, a, b, c, d, e), omega (arith, b))

room_4096 : (entries units target first last : ℕ) → HasRoom entries units target first last 4096
room_4096 entries units target first last a b c d e = (omega (arith, a, b, c, d, e), omega (arith, b), omega (arith, a, b, c, d, e), omega (arith, b))

room : (sector entries units target first last : ℕ) → IsSector sector → HasRoom entries units target first last sector
room sector entries units target first last (inl e) = subst (HasRoom entries units target first last) (sym e) (room_512 entries units target first last)
room sector entries units target first last (inr e) = subst (HasRoom entries units target first last) (sym e) (room_4096 entries units target first last)

pub has_room : (seen : Seen) (target : ℕ) (defs : List Definition) (matched : List (Option ℕ)) → IsGiven seen target defs matched
    → (least_sectors seen.shown.sector seen.shown.entries ≤ target / sector_units seen.shown.sector)
    × (target / sector_units seen.shown.sector ≤ 2 ^ 35)
    × (seen.shown.last < usable_end seen.shown.sector seen.shown.entries (target / sector_units seen.shown.sector))
    × (usable_end seen.shown.sector seen.shown.entries (target / sector_units seen.shown.sector) ≤ 2 ^ 35)
has_room seen target defs matched given =
    let is = given.plannable in
    room seen.shown.sector seen.shown.entries seen.sectors target seen.shown.first seen.shown.last is.writable.sector given.aim.least
    given.aim.most is.in_place.bounded.first is.in_place.bounds is.in_place.bounded.last

pub last_bounds : (seen : Seen) (target : ℕ) (defs : List Definition) (matched : List (Option ℕ)) → IsGiven seen target defs matched
    → (seen.shown.last ≤ last_of seen target) × (last_of seen target < 2 ^ 35)
last_bounds seen target defs matched given =
    let r = has_room seen target defs matched given in
    (omega (arith, r.2), omega (arith, r.2, r.3))
