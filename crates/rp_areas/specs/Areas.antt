-- The areas between the rows of a table, in grains of 8 units of 512 bytes (systemd-repart(8): new partitions go to free areas, and
-- existing ones grow into the area behind them).
use Rattle.std.specs.Prelude.{ℕ, ◌+◌, ◌-◌, ◌*◌, ◌/◌, ◌%◌, ◌==◌, nat_lt, nat_le, if◌then◌else◌, max, false, ◌&&◌, Option, Some, None, Result, Ok, Err, List, [], ◌∷◌, map, fold, position, slice_get, unwrap_or}
use Rattle.std.specs.List.{enumerate_from, cons_option}
use Rattle.std.specs.Option.{option_map_or, option_and_then, is_some}
use Rattle.rp_base.specs.declared.table.Row.{Row}
use Rattle.rp_base.specs.declared.table.Table.{Table}
use Rattle.rp_base.specs.declared.want.Want.{Want}
use Rattle.rp_areas.specs.declared.gaps.Area.{Area}
use Rattle.rp_areas.specs.declared.gaps.AreaFault.{AreaFault}
use Rattle.rp_areas.specs.declared.gaps.AreaFault.TheVariants.{Existing}
use Rattle.rp_areas.specs.declared.extents.Extent.{Extent}
use Rattle.rp_areas.specs.declared.behind.Refusal.{Refusal}

-- units of 512 bytes in grains, rounded up
abbrev pub grains_up : ℕ → ℕ
grains_up units = (units + 7) / 8

-- the definition that has the row at this place, if one has
abbrev pub file_of : List (Option ℕ) → ℕ → Option ℕ
file_of matched place = position (λ m. option_map_or (λ p. p == place) m false) matched

-- the units of a row, given with its place, and its definition
abbrev pub extent_of : List (Option ℕ) → (ℕ × Row) → Extent
extent_of matched e = record { start = e.1.start; size = e.1.size; file = file_of matched e.0 }

-- the same for each row
abbrev pub extents_of : List Row → List (Option ℕ) → List Extent
extents_of rows matched = map (extent_of matched) (enumerate_from 0 rows)

-- one more among extents by rising start
abbrev pub insert_extent : Extent → List Extent → List Extent
insert_extent e [] = e ∷ []
insert_extent e (f ∷ fs) = if nat_lt e.start f.start then e ∷ f ∷ fs else f ∷ insert_extent e fs

-- the extents by rising start
abbrev pub by_start : List Extent → List Extent
by_start extents = fold (λ sorted e. insert_extent e sorted) [] extents

-- where an area ends that reaches up to these extents: at the first, or else behind the last usable unit
abbrev pub limit_of : ℕ → List Extent → ℕ
limit_of last [] = (last + 1) / 8
limit_of last (e ∷ es) = e.start / 8

-- what a definition asks for
abbrev pub want_at : List Want → ℕ → Want
want_at wants file = unwrap_or (slice_get wants file) (record { min = 0; max = 0; weight = 0; pad_min = 0; pad_max = 0; pad_weight = 0 })

-- the definition whose row can grow in its place: the row begins at a grain, and its whole grains end at the limit at most
abbrev pub anchor_of : ℕ → Extent → Option ℕ
anchor_of limit e = if (e.start % 8 == 0) && nat_le (e.start / 8 + grains_up e.size) limit then e.file else None

-- the least that an anchor takes: no less than it has, with the padding behind it
abbrev pub used_of : Want → Extent → ℕ
used_of want e = max (grains_up e.size) want.min + want.pad_min

-- the area behind a row up to a limit: an anchor's begins with the row, any other behind it
abbrev pub area_behind : List Want → ℕ → Extent → Area
area_behind wants limit e = option_map_or
    (λ file. record { from = e.start / 8; span = limit - e.start / 8; anchor = Some file; used = used_of (want_at wants file) e })
    (anchor_of limit e)
    (record { from = grains_up (e.start + e.size); span = limit - grains_up (e.start + e.size); anchor = None; used = 0 })

-- the areas behind these extents, which are by rising start
abbrev pub areas_behind : ℕ → List Want → List Extent → List Area
areas_behind last wants [] = []
areas_behind last wants (e ∷ es) = area_behind wants (limit_of last es) e ∷ areas_behind last wants es

-- the area before the first row, which has no anchor
abbrev pub area_before : ℕ → ℕ → List Extent → Area
area_before first last extents = record { from = grains_up first; span = limit_of last extents - grains_up first; anchor = None; used = 0 }

-- a definition is refused that has less than it needs
abbrev pub refused_below : ℕ → ℕ → ℕ → Option Refusal
refused_below file need have = if nat_lt have need then Some (record { file = file; need = need; have = have }) else None

-- why a row can't stay, in bytes: an anchor's least is above its area's span, or a row that can't grow is below its definition's minimum
abbrev pub refusal_of : List Want → ℕ → Extent → Option Refusal
refusal_of wants limit e = option_and_then
    (λ file. if is_some (anchor_of limit e)
    then refused_below file (4096 * used_of (want_at wants file) e) (4096 * (limit - e.start / 8))
    else refused_below file (4096 * (want_at wants file).min) (512 * e.size))
    e.file

-- the refusals among these extents, which are by rising start
abbrev pub refusals_of : ℕ → List Want → List Extent → List Refusal
refusals_of last wants [] = []
refusals_of last wants (e ∷ es) = cons_option (refusal_of wants (limit_of last es) e) (refusals_of last wants es)

-- the refusal that names the lesser file
abbrev pub lesser : Option Refusal → Refusal → Option Refusal
lesser None r = Some r
lesser (Some b) r = Some (if nat_lt r.file b.file then r else b)

-- the refusal that names the least file
abbrev pub least_refusal : List Refusal → Option Refusal
least_refusal refusals = fold lesser None refusals

-- the areas of a table whose usable units end at `last`, or the refusal of the least file
abbrev pub areas_of : Table → ℕ → List (Option ℕ) → List Want → Result (List Area) AreaFault
areas_of table last matched wants =
    let extents = by_start (extents_of table.rows matched) in
    option_map_or (λ r. Err (Existing r.file r.need r.have)) (least_refusal (refusals_of last wants extents))
    (Ok (area_before table.first last extents ∷ areas_behind last wants extents))
