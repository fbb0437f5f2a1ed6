-- The partitions that share an area, and what their shares make of them (systemd-repart(8): a partition that is there grows into the
-- area behind it, and new ones are put behind it).
use Rattle.std.specs.Prelude.{ℕ, ◌*◌, ◌==◌, if◌then◌else◌, false, Option, None, List, [], ◌∷◌, map, slice_get, unwrap_or}
use Rattle.std.specs.List.{cons_option}
use Rattle.std.specs.Option.{option_and_then, option_map_or}
use Rattle.rp_base.specs.declared.table.Row.{Row}
use Rattle.rp_base.specs.declared.want.Want.{Want}
use Rattle.rp_areas.specs.declared.gaps.Area.{Area}
use Rattle.rp_areas.specs.Again.{Piece}
use Rattle.rp_areas.specs.Areas.{grains_up, want_at}
use Rattle.rp_place.specs.declared.fit.New.{New}
use Rattle.rp_share.specs.declared.item.Item.{Item}
use Rattle.rp_share.specs.Again.{asked}
use Rattle.rp_share.specs.Value.{shares_of}
use Rattle.rp_layout.specs.declared.seat.Seat.{Seat}

-- the padding that a definition asks for
abbrev pub padding_of : Want → Item
padding_of want = record { min = want.pad_min; max = want.pad_max; weight = want.pad_weight }

-- the seat of a definition that has so many units: it asks for no less than it has
abbrev pub seat_of : Want → ℕ → ℕ → Seat
seat_of want file has = record { file = file; has = has; size = asked (grains_up has) want.min want.max want.weight; pad = padding_of want }

-- the row that a definition has, if it has one
abbrev pub row_of : List Row → List (Option ℕ) → ℕ → Option Row
row_of rows matched file = option_and_then (slice_get rows) (unwrap_or (slice_get matched file) None)

-- the units that a definition has, 0 where it has no row
abbrev pub units_at : List Row → List (Option ℕ) → ℕ → ℕ
units_at rows matched file = option_map_or (λ (row : Row). row.size) (row_of rows matched file) 0

-- the new definitions that were placed in an area, in order
abbrev pub files_in : ℕ → List New → List (Option ℕ) → List ℕ
files_in area [] places = []
files_in area (n ∷ ns) [] = []
files_in area (n ∷ ns) (p ∷ ps) =
    if option_map_or (λ place. place == area) p false then n.file ∷ files_in area ns ps else files_in area ns ps

-- the definitions in an area, which is given with its place: its anchor, and then the new ones
abbrev pub files_at : List New → List (Option ℕ) → (ℕ × Area) → List ℕ
files_at news places e = cons_option e.1.anchor (files_in e.0 news places)

-- their seats
abbrev pub seats_of : List Row → List (Option ℕ) → List Want → List ℕ → List Seat
seats_of rows matched wants files = map (λ file. seat_of (want_at wants file) file (units_at rows matched file)) files

-- the items of an area, in order
abbrev pub items_of : List Seat → List Item
items_of [] = []
items_of (s ∷ ss) = s.size ∷ s.pad ∷ items_of ss

-- the units of so many grains: a partition that has as many keeps its size to the unit
abbrev pub units_of : ℕ → ℕ → ℕ
units_of has grains = if grains_up has == grains then has else 8 * grains

-- the partitions, from the shares of the items
abbrev pub pieces_of : List Seat → List ℕ → List Piece
pieces_of [] shares = []
pieces_of (s ∷ ss) [] = []
pieces_of (s ∷ ss) (x ∷ []) = []
pieces_of (s ∷ ss) (x ∷ y ∷ shares) = record { file = s.file; units = units_of s.has x; pad = y } ∷ pieces_of ss shares

-- the partitions that share a span
abbrev pub stack_of : ℕ → List Seat → List Piece
stack_of span seats = pieces_of seats (shares_of span (items_of seats))
