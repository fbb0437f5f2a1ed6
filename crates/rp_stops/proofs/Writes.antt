-- What a plan's calls, and the writes of others, leave alone.
use Rattle.std.proofs.Common.{◌≡◌, ℕ, ◌+◌, ◌*◌, ◌/◌, ◌<◌, ◌≤◌, List, length, get_or, All, sym, subst, inl, inr, arith}
use Rattle.rp_base.specs.Geometry.{array_sectors, first_usable, sector_units, usable_end}
use Rattle.rp_base.specs.Plan.{Noted, noted_of}
use Rattle.rp_base.specs.Table.{AreApart}
use Rattle.rp_base.specs.declared.geometry.Which.{Which}
use Rattle.rp_base.specs.declared.geometry.Which.TheVariants.{Primary, Backup}
use Rattle.rp_base.specs.declared.plan.Change.TheVariants.{New}
use Rattle.rp_base.specs.declared.plan.Plan.{Plan}
use Rattle.rp_base.specs.declared.seen.Seen.{Seen}
use Rattle.rp_base.specs.declared.table.Row.{Row}
use Rattle.rp_disk.specs.declared.call.Call.{Call}
use Rattle.rp_disk.specs.declared.call.Call.TheVariants.{Write, Sync, SetLen}
use Rattle.rp_disk.specs.Ranges.{Apart, Inside}
use Rattle.rp_gpt.proofs.Sectors.{sector_least}
use Rattle.rp_gpt.specs.Mbr.{mbr_bytes}
use Rattle.rp_stops.specs.Order.{array_offset, header_offset, mbr_call, target_sectors}
use Rattle.rp_stops.specs.Rows.{IsInNewRow, IsInOldRow, IsInside}
use Rattle.rp_stops.proofs.Cells.{Calm, Steady}
use Rattle.rp_stops.proofs.Given.{Given, NewRange, between, further, in_order, layout, length-mbr, old_long, old_room, old_sectors, order, rows_between, sectors_rise, target_long}

module _ (old : List ℕ) (seen : Seen) (plan : Plan) (g : Given old seen plan) where
  -- the row is between the places of the target's length, and within the old image
  pub record IsKeptRow (row : Row) : Type 0 where
    pub low : array_offset plan.goal.sector plan.goal.entries
        (target_sectors plan) Primary + plan.goal.sector * array_sectors plan.goal.sector plan.goal.entries ≤ 512 * row.start
    pub high : 512 * (row.start + row.size) ≤ array_offset plan.goal.sector plan.goal.entries (target_sectors plan) Backup
    pub inside : 512 * (row.start + row.size) ≤ length old

  pub old_rows : All IsKeptRow seen.shown.rows
  old_rows k d lt =
      let row = get_or seen.shown.rows k d in
      let placed = g.seen_is.in_place in
      let bounds = placed.rows.in_bounds k d lt in
      let z = plan.goal.sector in
      let P : ℕ → ℕ → Type 0 = λ z n. (first_usable z n ≤ seen.shown.first)
      × (seen.shown.last < usable_end z n (seen.sectors / sector_units z)) in
      let at_shown : P seen.shown.sector seen.shown.entries = (placed.bounded.first, placed.bounded.last) in
      let at_goal : P plan.goal.sector plan.goal.entries =
      subst (λ n. P plan.goal.sector n) (sym g.fits.well_formed.entries)
      (subst (λ z. P z seen.shown.entries) g.seen_is.of_sector at_shown) in
      let here = between plan.goal.entries
      (old_sectors old seen plan g) seen.shown.first seen.shown.last row.start row.size plan.goal.sector g.is_sector at_goal.0 at_goal.1 bounds.0 bounds.1 in
      let low = here.0 in
      let high = here.1 in
      let more = further plan.goal.entries (old_sectors old seen plan g) (target_sectors plan) plan.goal.sector g.is_sector
      (sectors_rise old seen plan g) in
      let places = in_order plan.goal.entries (old_sectors old seen plan g) plan.goal.sector g.is_sector (old_room old seen plan g) in
      let backup = places.backup in
      let end = places.end in
      record {
        low = here.0;
        high = omega (arith, high, more);
        inside = omega (arith, high, backup, end, old_long old seen plan g);
      }

  -- a new row shares no unit with an old one
  pub apart_rows : All (λ (noted : Noted). noted.1.change ≡ New → All (AreApart noted.0) seen.shown.rows) (noted_of plan)
  apart_rows k d lt new =
      let fits = g.fits.rows k d lt in
      (fits.1 (λ i e below slot. let keeps = fits.0 i e below slot in keeps.change new)).apart

  row_apart : (noted : Noted) (row : Row) (at : ℕ) (bytes : List ℕ) → AreApart noted.0 row → IsInside row (Write at bytes)
      → Apart (512 * noted.0.start) (512 * noted.0.size) (Write at bytes)
  row_apart noted row at bytes (inl before) inside = let from = inside.0 in inl (omega arith)
  row_apart noted row at bytes (inr behind) inside = let to = inside.1 in inr (omega arith)

  -- a write inside an old row
  old_write : (row : Row) (at : ℕ) (bytes : List ℕ) → IsKeptRow row → ((at' n : ℕ) → NewRange plan at' n → Apart at' n (Write at bytes))
      → IsInside row (Write at bytes)
      → Calm (layout old seen plan g) (Write at bytes)
  old_write row at bytes kept news inside =
      let from = inside.0 in
      let to = inside.1 in
      let low = kept.low in
      let high = kept.high in
      let middle = (order old seen plan g).middle in
      let backup = (order old seen plan g).backup in
      let end = (order old seen plan g).end in
      let target = target_long old seen plan g in
      record {
        steady = record {
          inside = omega (arith, high, backup, end, target);
          heads = heads;
          arrays = arrays;
        };
        news = news;
      }
    where
      heads : (which : Which) → Apart (header_offset plan.goal.sector (target_sectors plan) which) plan.goal.sector (Write at bytes)
      heads Primary = let low = kept.low in let from = inside.0 in inl (omega arith)
      heads Backup = let high = kept.high in let to = inside.1 in let backup = (order old seen plan g).backup in inr (omega arith)

      arrays : (which : Which) → Apart (array_offset plan.goal.sector plan.goal.entries (target_sectors plan) which)
          (plan.goal.sector * array_sectors plan.goal.sector plan.goal.entries) (Write at bytes)
      arrays Primary = let low = kept.low in let from = inside.0 in inl (omega arith)
      arrays Backup = let high = kept.high in let to = inside.1 in inr (omega arith)

  pub others_calm : (call : Call) → IsInOldRow seen call → Calm (layout old seen plan g) call
  others_calm (Write at bytes) (k, row, lt, is, inside) =
      let kept : IsKeptRow row = subst IsKeptRow is (old_rows k row lt) in
      old_write row at bytes kept (λ at' n range. news at' n range) inside
    where
      news : (at' n : ℕ) → NewRange plan at' n → Apart at' n (Write at bytes)
      news at' n (i, noted, below, same, range) =
          let apart : AreApart (get_or (noted_of plan) i noted).0 (get_or seen.shown.rows k row) =
          apart_rows i noted below (subst (λ (x : Noted). x.1.change ≡ New) (sym same) range.0) k row lt in
          let P : Noted → Row → Type 0 = λ x r. AreApart x.0 r in
          let here : AreApart noted.0 row = subst (λ r. P noted r) is (subst (λ x. P x (get_or seen.shown.rows k row)) same apart) in
          let Q : ℕ → ℕ → Type 0 = λ a m. Apart a m (Write at bytes) in
          subst (λ m. Q at' m) (sym range.2) (subst (λ a. Q a (512 * noted.0.size)) (sym range.1)
          (row_apart noted row at bytes here inside))
  others_calm Sync (k, row, lt, is, inside) = absurd inside
  others_calm (SetLen len) (k, row, lt, is, inside) = absurd inside

  -- writes of others are within the old image
  pub others_inside : (call : Call) → IsInOldRow seen call → Inside (length old) call
  others_inside (Write at bytes) (k, row, lt, is, inside) =
      let kept : IsKeptRow row = subst IsKeptRow is (old_rows k row lt) in
      let within = kept.inside in
      let to = inside.1 in
      omega arith
  others_inside Sync (k, row, lt, is, inside) = absurd inside
  others_inside (SetLen len) (k, row, lt, is, inside) = absurd inside

  -- a write inside a new row
  pub body_steady : (call : Call) → IsInNewRow plan call → Steady (layout old seen plan g) call
  body_steady (Write at bytes) (k, noted, lt, is, inside) = record {
    inside = (
        let high = bounds.1 in
        let to = inside.1.1 in
        let backup = (order old seen plan g).backup in
        let end = (order old seen plan g).end in
        omega (arith, target_long old seen plan g)
        );
    heads = heads;
    arrays = arrays;
  }
    where
      P : Noted → Type 0
      P noted = (array_offset plan.goal.sector plan.goal.entries
          (target_sectors plan) Primary + plan.goal.sector * array_sectors plan.goal.sector plan.goal.entries ≤ 512 * noted.0.start)
          × (512 * (noted.0.start + noted.0.size) ≤ array_offset plan.goal.sector plan.goal.entries (target_sectors plan) Backup)

      bounds : P noted
      bounds = subst P is (rows_between old seen plan g k noted lt)

      heads : (which : Which) → Apart (header_offset plan.goal.sector (target_sectors plan) which) plan.goal.sector (Write at bytes)
      heads Primary = let low = bounds.0 in let from = inside.1.0 in inl (omega arith)
      heads Backup = let high = bounds.1 in let to = inside.1.1 in let backup = (order old seen plan g).backup in inr (omega arith)

      arrays : (which : Which) → Apart (array_offset plan.goal.sector plan.goal.entries (target_sectors plan) which)
          (plan.goal.sector * array_sectors plan.goal.sector plan.goal.entries) (Write at bytes)
      arrays Primary = let low = bounds.0 in let from = inside.1.0 in inl (omega arith)
      arrays Backup = let high = bounds.1 in let to = inside.1.1 in inr (omega arith)
  body_steady Sync (k, noted, lt, is, inside) = absurd inside.1
  body_steady (SetLen len) (k, noted, lt, is, inside) = absurd inside.1

  -- the MBR lies before all of them
  pub mbr_calm : Calm (layout old seen plan g) (mbr_call plan)
  mbr_calm =
      let large = sector_least plan.goal.sector g.is_sector in
      let size = length-mbr (target_sectors plan) in
      record {
        steady = record { inside = inside; heads = heads; arrays = arrays };
        news = λ at n range. let low = ((layout old seen plan g).news at n range).0 in inr (omega (arith, large, size));
      }
    where
      large : 512 ≤ plan.goal.sector
      large = sector_least plan.goal.sector g.is_sector

      size : length (mbr_bytes (target_sectors plan)) ≡ 66
      size = length-mbr (target_sectors plan)

      inside : 446 + length (mbr_bytes (target_sectors plan)) ≤ 512 * plan.target
      inside =
          let middle = (order old seen plan g).middle in
          let backup = (order old seen plan g).backup in
          let end = (order old seen plan g).end in
          omega (arith, target_long old seen plan g, large, size)

      heads : (which : Which) → Apart (header_offset plan.goal.sector (target_sectors plan) which) plan.goal.sector (mbr_call plan)
      heads Primary = inr (omega (arith, large, size))
      heads Backup = let middle = (order old seen plan g).middle in let backup = (order old seen plan g).backup in inr
          (omega (arith, large, size))

      arrays : (which : Which) → Apart (array_offset plan.goal.sector plan.goal.entries (target_sectors plan) which)
          (plan.goal.sector * array_sectors plan.goal.sector plan.goal.entries) (mbr_call plan)
      arrays Primary = inr (omega (arith, large, size))
      arrays Backup = let middle = (order old seen plan g).middle in inr (omega (arith, large, size))
