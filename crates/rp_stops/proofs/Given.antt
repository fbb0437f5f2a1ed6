-- A plan on an image: where its places and rows lie.
use Rattle.std.proofs.Common.{◌≡◌, ℕ, ◌+◌, ◌*◌, ◌/◌, ◌^◌, ◌<◌, ◌≤◌, List, [], ◌∷◌, length, get_or, All, refl, sym, ap, ◌∙◌, subst, arith}
use Rattle.std.specs.Prelude.{Any, zip}
use Rattle.std.proofs.lemmas.List.Elements.{All-nil, All-cons, All-head, All-tail}
use Rattle.rp_crc.specs.Crc.{crc}
use Rattle.rp_base.specs.Geometry.{IsSector, AreEntries, array_sectors, first_usable, least_sectors, sector_units, usable_end}
use Rattle.rp_base.specs.Plan.{Fits, IsWellFormed, Noted, noted_of}
use Rattle.rp_base.specs.Table.{IsInPlace, IsWhole, TableFits}
use Rattle.rp_base.specs.declared.geometry.Which.{Which}
use Rattle.rp_base.specs.declared.geometry.Which.TheVariants.{Primary, Backup}
use Rattle.rp_base.specs.declared.plan.Change.TheVariants.{New}
use Rattle.rp_base.specs.declared.plan.Note.{Note}
use Rattle.rp_base.specs.declared.plan.Plan.{Plan}
use Rattle.rp_base.specs.declared.seen.Seen.{Seen}
use Rattle.rp_base.specs.declared.table.Row.{Row}
use Rattle.rp_gpt.specs.Accepted.{IsSeenOf}
use Rattle.rp_gpt.specs.Copy.{exact, header_bytes, table_array, table_entries}
use Rattle.rp_gpt.specs.Mbr.{mbr_bytes}
use Rattle.rp_gpt.specs.Numbers.{u32_bytes}
use Rattle.rp_gpt.proofs.ExactParts.{exact-parts}
use Rattle.rp_gpt.proofs.Header.{length-header_bytes}
use Rattle.rp_gpt.proofs.ReadsBack.{length-table_array}
use Rattle.rp_gpt.proofs.Sectors.{by_sector, sector_least}
use Rattle.rp_stops.specs.Order.{array_offset, goal_array, goal_header, header_offset, target_sectors}
use Rattle.rp_stops.proofs.Cells.{Layout}
use Rattle.rp_stops.proofs.Places.{sectors_are, zeros-nothing}

-- what is seen of an image: whole sectors, no fewer than two copies of the shown table need, and a table in place
pub record IsSized (sector : ℕ) (seen : Seen) : Type 0 where
  pub of_sector : seen.shown.sector ≡ sector
  pub whole : IsWhole sector seen.sectors
  pub room : least_sectors sector seen.shown.entries ≤ seen.sectors / sector_units sector
  pub in_place : IsInPlace seen.sectors seen.shown

-- what is known of an image and of the plan for it
pub record Given (old : List ℕ) (seen : Seen) (plan : Plan) : Type 0 where
  pub is_sector : IsSector plan.goal.sector
  pub seen_is : IsSized plan.goal.sector seen
  pub seen_of : IsSeenOf plan.goal.sector old seen
  pub fits : Fits seen plan
  pub table_fits : TableFits plan.goal

-- the range is that of a new row
abbrev pub NewRange : Plan → ℕ → ℕ → Type 0
NewRange plan at n = Any (λ noted. (noted.1.change ≡ New) × (at ≡ 512 * noted.0.start) × (n ≡ 512 * noted.0.size)) (noted_of plan)

-- rows and their notes

pub All-rows : (P : Row → Type 0) (rows : List Row) (notes : List Note) → All P rows → All (λ (noted : Noted). P noted.0) (zip rows notes)
All-rows P [] notes all = All-nil _
All-rows P (row ∷ rows) [] all = All-nil _
All-rows P (row ∷ rows) (note ∷ notes) all =
    All-cons (λ (noted : Noted). P noted.0) (row, note) (zip rows notes) (All-head P row rows all)
    (All-rows P rows notes (All-tail P row rows all))

pub Any-all : {X : Type 0} (P Q R : X → Type 0) (xs : List X) → ((x : X) → P x → Q x → R x) → All P xs → Any Q xs → Any R xs
Any-all P Q R xs both all any =
    (any.0, any.1, any.2, any.3, both any.1 (subst P any.3 (all any.0 any.1 any.2)) any.4)

-- lengths, for both sizes of a sector

whole_bytes : (units sector : ℕ) → IsSector sector → IsWhole sector units → 512 * units ≡ sector * (units / sector_units sector)
whole_bytes units = by_sector (λ z. IsWhole z units → 512 * units ≡ z * (units / sector_units z)) (λ whole. omega arith)
    (λ whole. omega arith)

more_sectors : (units more sector : ℕ) → IsSector sector → units ≤ more → units / sector_units sector ≤ more / sector_units sector
more_sectors units more = by_sector (λ z. units ≤ more → units / sector_units z ≤ more / sector_units z) (λ le. omega arith)
    (λ le. omega arith)

few_sectors : (units sector : ℕ) → IsSector sector → units / sector_units sector ≤ units
few_sectors units = by_sector (λ z. units / sector_units z ≤ units) (omega arith) (omega arith)

least_of_all : (entries sector : ℕ) → IsSector sector → 128 ≤ entries → least_sectors sector 128 ≤ least_sectors sector entries
least_of_all entries = by_sector (λ z. 128 ≤ entries → least_sectors z 128 ≤ least_sectors z entries) (λ least. omega arith)
    (λ least. omega arith)

-- the places of a disk of so many sectors, in their order
pub record AreInOrder (sector entries sectors : ℕ) : Type 0 where
  pub middle : array_offset sector entries sectors Primary + sector * array_sectors sector entries ≤ array_offset sector entries sectors Backup
  pub backup : array_offset sector entries sectors Backup + sector * array_sectors sector entries ≤ header_offset sector sectors Backup
  pub end : header_offset sector sectors Backup + sector ≤ sector * sectors

pub in_order : (entries sectors sector : ℕ) → IsSector sector → least_sectors sector entries ≤ sectors → AreInOrder sector entries sectors
in_order entries sectors = by_sector (λ z. least_sectors z entries ≤ sectors → AreInOrder z entries sectors)
    (λ room. record { middle = omega arith; backup = omega arith; end = omega arith })
    (λ room. record { middle = omega arith; backup = omega arith; end = omega arith })

-- a row within its bounds lies between the places
pub between : (entries sectors first last start size sector : ℕ) → IsSector sector → first_usable sector entries ≤ first
    → last < usable_end sector entries sectors
    → first ≤ start → start + size ≤ last + 1
    → (array_offset sector entries sectors Primary + sector * array_sectors sector entries ≤ 512 * start)
    × (512 * (start + size) ≤ array_offset sector entries sectors Backup)
between entries sectors first last start size =
    by_sector (λ z. first_usable z entries ≤ first → last < usable_end z entries sectors → first ≤ start → start + size ≤ last + 1
    → (array_offset z entries sectors Primary + z * array_sectors z entries ≤ 512 * start)
    × (512 * (start + size) ≤ array_offset z entries sectors Backup))
    (λ a b c d. (omega arith, omega arith)) (λ a b c d. (omega arith, omega arith))

-- the backup's array on a longer disk
pub further : (entries sectors more sector : ℕ) → IsSector sector → sectors ≤ more
    → array_offset sector entries sectors Backup ≤ array_offset sector entries more Backup
further entries sectors more = by_sector (λ z. sectors ≤ more
    → array_offset z entries sectors Backup ≤ array_offset z entries more Backup) (λ le. omega arith) (λ le. omega arith)

pub length-mbr : (sectors : ℕ) → length (mbr_bytes sectors) ≡ 66
unfolding mbr_bytes u32_bytes
length-mbr sectors = refl

module _ (old : List ℕ) (seen : Seen) (plan : Plan) (g : Given old seen plan) where
  abbrev pub old_sectors : ℕ
  old_sectors = seen.sectors / sector_units plan.goal.sector

  well : IsWellFormed seen plan
  well = g.fits.well_formed

  pub entries_are : AreEntries plan.goal.entries
  entries_are = g.fits.well_formed.writable.entries

  pub old_long : length old ≡ plan.goal.sector * old_sectors
  old_long = g.seen_of.len ∙ whole_bytes seen.sectors plan.goal.sector g.is_sector g.seen_is.whole

  pub target_long : 512 * plan.target ≡ plan.goal.sector * target_sectors plan
  target_long = whole_bytes plan.target plan.goal.sector g.is_sector g.fits.well_formed.target.whole

  pub old_room : least_sectors plan.goal.sector plan.goal.entries ≤ old_sectors
  old_room = subst (λ n. least_sectors plan.goal.sector n ≤ old_sectors) (sym g.fits.well_formed.entries) g.seen_is.room

  pub sectors_rise : old_sectors ≤ target_sectors plan
  sectors_rise = more_sectors seen.sectors plan.target plan.goal.sector g.is_sector g.fits.well_formed.target.least

  pub room : least_sectors plan.goal.sector plan.goal.entries ≤ target_sectors plan
  room = omega (arith, old_room, sectors_rise)

  pub old_least : least_sectors plan.goal.sector 128 ≤ old_sectors
  old_least = omega (arith, old_room, least_of_all plan.goal.entries plan.goal.sector g.is_sector entries_are.least)

  pub least : least_sectors plan.goal.sector 128 ≤ target_sectors plan
  least = omega (arith, old_least, sectors_rise)

  pub most : target_sectors plan ≤ 2 ^ 35
  most = let few = few_sectors plan.target plan.goal.sector g.is_sector in let at_most = g.fits.well_formed.target.most in omega arith

  pub grows : length old ≤ 512 * plan.target
  grows = let rises = g.fits.well_formed.target.least in omega (arith, g.seen_of.len)

  pub order : AreInOrder plan.goal.sector plan.goal.entries (target_sectors plan)
  order = in_order plan.goal.entries (target_sectors plan) plan.goal.sector g.is_sector room

  pub goal_parts : (which : Which) → (goal_header plan which ≡ header_bytes plan.goal which (target_sectors plan)
      (crc (table_entries plan.goal)))
      × (goal_array plan which ≡ table_array plan.goal)
  goal_parts which = exact-parts plan.goal which (target_sectors plan)
      (exact plan.goal which (target_sectors plan)) g.fits.well_formed.writable refl

  -- a new row lies between the places
  new_between : (noted : Noted) → (plan.goal.first ≤ noted.0.start) × (noted.0.start + noted.0.size ≤ plan.goal.last + 1)
      → (array_offset plan.goal.sector plan.goal.entries
      (target_sectors plan) Primary + plan.goal.sector * array_sectors plan.goal.sector plan.goal.entries ≤ 512 * noted.0.start)
      × (512 * (noted.0.start + noted.0.size) ≤ array_offset plan.goal.sector plan.goal.entries (target_sectors plan) Backup)
  new_between noted inside =
      between plan.goal.entries
      (target_sectors plan) plan.goal.first plan.goal.last noted.0.start noted.0.size plan.goal.sector g.is_sector
      g.fits.well_formed.in_place.bounded.first g.fits.well_formed.in_place.bounded.last inside.0 inside.1

  pub rows_between : All (λ (noted : Noted). (array_offset plan.goal.sector plan.goal.entries
      (target_sectors plan) Primary + plan.goal.sector * array_sectors plan.goal.sector plan.goal.entries ≤ 512 * noted.0.start)
      × (512 * (noted.0.start + noted.0.size) ≤ array_offset plan.goal.sector plan.goal.entries (target_sectors plan) Backup))
      (noted_of plan)
  rows_between k d lt =
      new_between (get_or (noted_of plan) k d)
      (All-rows (λ (row : Row). (plan.goal.first ≤ row.start)
      × (row.start + row.size ≤ plan.goal.last + 1)) plan.goal.rows plan.notes g.fits.well_formed.in_place.rows.in_bounds k d lt)

  pub news_between : (at n : ℕ) → NewRange plan at n
      → (array_offset plan.goal.sector plan.goal.entries
      (target_sectors plan) Primary + plan.goal.sector * array_sectors plan.goal.sector plan.goal.entries ≤ at)
      × (at + n ≤ array_offset plan.goal.sector plan.goal.entries (target_sectors plan) Backup)
  news_between at n (k, noted, lt, is, range) =
      let here = rows_between k noted lt in
      let P : Noted → Type 0 = λ noted. (array_offset plan.goal.sector plan.goal.entries
      (target_sectors plan) Primary + plan.goal.sector * array_sectors plan.goal.sector plan.goal.entries ≤ 512 * noted.0.start)
      × (512 * (noted.0.start + noted.0.size) ≤ array_offset plan.goal.sector plan.goal.entries (target_sectors plan) Backup) in
      let bounds = subst P is here in
      let low = bounds.0 in
      let high = bounds.1 in
      let at_is = range.1 in
      let n_is = range.2 in
      (omega (arith, at_is), omega (arith, at_is, n_is))

  abbrev pub layout : Layout
  layout = record {
    sector = plan.goal.sector;
    len = 512 * plan.target;
    size = plan.goal.sector * array_sectors plan.goal.sector plan.goal.entries;
    head = λ which. header_offset plan.goal.sector (target_sectors plan) which;
    array = λ which. array_offset plan.goal.sector plan.goal.entries (target_sectors plan) which;
    goal_head = λ which. goal_header plan which;
    goal_array = λ which. goal_array plan which;
    IsNew = λ at n. NewRange plan at n;
    primary = omega arith;
    middle = order.middle;
    backup = order.backup;
    end = (let here = order.end in omega (arith, target_long));
    head_long = λ which. ap length (goal_parts which).0
        ∙ length-header_bytes plan.goal which (target_sectors plan) (crc (table_entries plan.goal))
        (sector_least plan.goal.sector g.is_sector);
    array_long = λ which. ap length (goal_parts which).1 ∙ length-table_array plan.goal g.fits.well_formed.writable g.table_fits;
    news = news_between;
    place = λ xs long which. ap (λ n. header_offset plan.goal.sector n which)
        (sectors_are plan.goal.sector g.is_sector xs (target_sectors plan) (long ∙ target_long));
    closed = λ xs long which shut. zeros-nothing plan.goal.sector g.is_sector xs (target_sectors plan)
        (long ∙ target_long) least which shut;
  }
