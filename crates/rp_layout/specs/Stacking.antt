-- What the code needs and does to share an area.
use Rattle.std.specs.Prelude.{ℕ, ◌+◌, ◌<◌, ◌≤◌, ◌^◌, Option, Some, None, List, [], ◌∷◌, ◌++◌, All, length, slice_index_or, slice_set, sum_by}
use Rattle.std.specs.List.{AllZip}
use Rattle.rp_base.specs.declared.want.Want.{Want}
use Rattle.rp_areas.specs.declared.gaps.Area.{Area}
use Rattle.rp_areas.specs.Areas.{want_at}
use Rattle.rp_place.specs.declared.fit.New.{New}
use Rattle.rp_layout.specs.declared.seat.Seat.{Seat}
use Rattle.rp_layout.specs.declared.spot.Spot.{Spot}
use Rattle.rp_layout.specs.Layout.{spots_from}
use Rattle.rp_layout.specs.Seats.{items_of, seat_of, stack_of}

-- so many grains from one on can be shared among these seats
pub record IsStackable (from span : ℕ) (seats : List Seat) : Type 0 where
  pub few : length seats ≤ 256
  pub limits : All (λ item. item.min ≤ item.max) (items_of seats)
  pub weights : All (λ item. item.weight ≤ 1000000) (items_of seats)
  pub minima : sum_by (λ item. item.min) (items_of seats) ≤ span
  pub small : span ≤ 2 ^ 32
  pub ends : 0 < length seats → from + span ≤ 2 ^ 32

-- each written at the place of its definition
abbrev pub written : List (Option Spot) → List Spot → List (Option Spot)
written spots [] = spots
written spots (s ∷ ss) = written (slice_set spots s.file (Some s)) ss

-- each area can be shared among its seats
abbrev pub AreStackable : List Area → List (List Seat) → Type 0
AreStackable areas seats = AllZip (λ (a : Area) s. IsStackable a.from a.span s) areas seats

-- the partitions of all areas, by their seats
abbrev pub spots_over : List Area → List (List Seat) → List Spot
spots_over [] seats = []
spots_over (a ∷ areas) [] = []
spots_over (a ∷ areas) (s ∷ seats) = spots_from a.from (stack_of a.span s) ++ spots_over areas seats

-- the seats with that of a new definition behind those of the area where it was placed
abbrev pub with_new : List Want → New → Option ℕ → List (List Seat) → List (List Seat)
with_new wants n None seats = seats
with_new wants n (Some area) seats = slice_set seats area (slice_index_or seats area [] ++ seat_of (want_at wants n.file) n.file 0 ∷ [])

-- with those of all
abbrev pub with_news : List Want → List New → List (Option ℕ) → List (List Seat) → List (List Seat)
with_news wants [] places seats = seats
with_news wants (n ∷ ns) [] seats = seats
with_news wants (n ∷ ns) (p ∷ ps) seats = with_news wants ns ps (with_new wants n p seats)
