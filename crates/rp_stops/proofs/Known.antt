-- What is known of the places of an image that was accepted, by the one whose copy is shown.
use Rattle.std.proofs.Common.{◌≡◌, ◌≢◌, ℕ, ◌*◌, ◌/◌, ◌≤◌, List, length, Option, Some, None, refl, sym, ap, ap₂, ◌∙◌, subst, inl, inr}
use Rattle.std.specs.Prelude.{IsTrue}
use Rattle.std.specs.Option.{option_or}
use Rattle.rp_base.specs.Geometry.{array_sectors, least_sectors, sector_units}
use Rattle.rp_base.specs.Image.{bytes_at}
use Rattle.rp_base.specs.declared.geometry.Which.{Which}
use Rattle.rp_base.specs.declared.geometry.Which.TheVariants.{Primary, Backup}
use Rattle.rp_base.specs.declared.plan.Plan.{Plan}
use Rattle.rp_base.specs.declared.seen.Origin.{Origin}
use Rattle.rp_base.specs.declared.seen.Origin.TheVariants as origins
use Rattle.rp_base.specs.declared.seen.Seen.{Seen}
use Rattle.rp_gpt.specs.Accepted.{HoldsShown, TellBy}
use Rattle.rp_gpt.specs.Copy.{answer, array_of, exact, header_of}
use Rattle.rp_gpt.specs.Shown.{Told, shows, refuses, nothing, above, broken_at, first_told, place_of, shown, told_at, wider_copy}
use Rattle.rp_gpt.specs.declared.table_fault.TableFault.{TableFault}
use Rattle.rp_gpt.proofs.ReadsBack.{reads_back}
use Rattle.rp_stops.specs.Order.{array_offset, header_offset, IsUnchanged, target_sectors}
use Rattle.rp_stops.proofs.Cells.{HasGoal, Same}
use Rattle.rp_stops.proofs.Given.{Given, entries_are, layout, most, old_least, old_long, old_room, old_sectors, room, target_long}
use Rattle.rp_stops.proofs.Places.{place_array, place_header, same_parts, says-tells, sectors_are}
use Rattle.rp_stops.proofs.Standing.{SamePlace, nothing-stands, table-stands}

-- neither of two is there
none_of : {T : Type 0} (a b : Option T) → option_or a b ≡ None → (a ≡ None) × (b ≡ None)
none_of None b e = (refl, e)
none_of (Some x) b e = cc

module _ (old : List ℕ) (seen : Seen) (plan : Plan) (g : Given old seen plan) where
  -- a place with the goal's header and array holds the exact copy
  pub opened_place : (xs : List ℕ) → length xs ≡ 512 * plan.target → (which : Which) → HasGoal (layout old seen plan g) which xs
      → place_of plan.goal.sector xs plan.goal.entries which ≡ exact plan.goal which (target_sectors plan)
  opened_place xs long which has =
      let long' : length xs ≡ plan.goal.sector * target_sectors plan = long ∙ target_long old seen plan g in
      same_parts which plan.goal.sector (place_of plan.goal.sector xs plan.goal.entries which)
      (exact plan.goal which (target_sectors plan))
      (place_header plan.goal.sector g.is_sector xs (target_sectors plan) long' plan.goal.entries (room old seen plan g) which ∙ has.head)
      (place_array plan.goal.sector g.is_sector xs (target_sectors plan) long' plan.goal.entries (room old seen plan g) which ∙ has.array)

  -- and tells the goal
  pub opened : (xs : List ℕ) → length xs ≡ 512 * plan.target → (which : Which) → HasGoal (layout old seen plan g) which xs
      → told_at plan.goal.sector xs which ≡ shows plan.goal
  opened xs long which has =
      let long' : length xs ≡ plan.goal.sector * target_sectors plan = long ∙ target_long old seen plan g in
      let same = sectors_are plan.goal.sector g.is_sector xs (target_sectors plan) long' in
      says-tells plan.goal.sector g.is_sector xs (target_sectors plan) long' plan.goal which (entries_are old seen plan g)
      (room old seen plan g)
      (ap₂ (λ b n. answer b which n plan.goal.sector) (opened_place xs long which has) same
      ∙ reads_back plan.goal g.fits.well_formed.writable g.table_fits which (target_sectors plan) (room old seen plan g)
      (most old seen plan g))

  -- where nothing grows
  abbrev pub Still : Type 0
  Still = plan.target ≡ seen.sectors

  still_sectors : Still → target_sectors plan ≡ old_sectors old seen plan g
  still_sectors still = ap (λ n. n / sector_units plan.goal.sector) still

  pub still_long : Still → length old ≡ 512 * plan.target
  still_long still = g.seen_of.len ∙ ap (λ n. 512 * n) (sym still)

  -- the same place of the old image and of one of the target's length
  still_place : Still → (which : Which) (xs : List ℕ) → length xs ≡ 512 * plan.target → Same (layout old seen plan g) which old xs
      → SamePlace plan.goal.sector g.is_sector plan.goal.entries which old (old_sectors old seen plan g) xs (old_sectors old seen plan g)
  still_place still which xs long same =
      let e = still_sectors still in record {
        old_long = old_long old seen plan g;
        new_long = long ∙ target_long old seen plan g ∙ ap (λ n. plan.goal.sector * n) e;
        old_room = old_room old seen plan g;
        new_room = old_room old seen plan g;
        head = subst (λ n. bytes_at xs (header_offset plan.goal.sector n which) plan.goal.sector ≡ bytes_at old
            (header_offset plan.goal.sector n which) plan.goal.sector) e same.head;
        array = subst (λ n. bytes_at xs (array_offset plan.goal.sector plan.goal.entries n which)
            (plan.goal.sector * array_sectors plan.goal.sector plan.goal.entries)
            ≡ bytes_at old (array_offset plan.goal.sector plan.goal.entries n which)
            (plan.goal.sector * array_sectors plan.goal.sector plan.goal.entries)) e same.array;
      }

  abbrev Stands : Which → Told → Type 0
  Stands which a = (xs : List ℕ) → length xs ≡ 512 * plan.target → Same (layout old seen plan g) which old xs
      → told_at plan.goal.sector xs which ≡ a

  table_here : Still → (which : Which) → told_at plan.goal.sector old which ≡ shows seen.shown → Stands which (shows seen.shown)
  table_here still which tells xs long same =
      table-stands plan.goal.sector g.is_sector plan.goal.entries which old (old_sectors old seen plan g) xs
      (old_sectors old seen plan g) seen.shown (still_place still which xs long same)
      (sym g.fits.well_formed.entries) (entries_are old seen plan g) (old_least old seen plan g) (inr refl) tells

  nothing_here : Still → (which : Which) → above plan.goal.entries (broken_at plan.goal.sector old which) ≡ None
      → told_at plan.goal.sector old which ≡ nothing → Stands which nothing
  nothing_here still which none tells xs long same =
      nothing-stands plan.goal.sector g.is_sector plan.goal.entries which old (old_sectors old seen plan g) xs
      (still_place still which xs long same) (old_least old seen plan g) none tells

  -- the primary's header and array don't move, so it stands in a longer image too
  pub primary_here : told_at plan.goal.sector old Primary ≡ shows seen.shown → (xs : List ℕ) (sectors : ℕ)
      → length xs ≡ plan.goal.sector * sectors → least_sectors plan.goal.sector plan.goal.entries ≤ sectors
      → Same (layout old seen plan g) Primary old xs → told_at plan.goal.sector xs Primary ≡ shows seen.shown
  primary_here tells xs sectors long has same =
      table-stands plan.goal.sector g.is_sector plan.goal.entries Primary old (old_sectors old seen plan g) xs sectors seen.shown
      (record {
        old_long = old_long old seen plan g;
        new_long = long;
        old_room = old_room old seen plan g;
        new_room = has;
        head =
            same.head;
        array = same.array;
      })
      (sym g.fits.well_formed.entries) (entries_are old seen plan g) (old_least old seen plan g) (inl refl) tells

  -- a place that is the same holds the goal's exact copy, where nothing changes
  held_here : IsUnchanged seen plan → (which : Which) → HoldsShown plan.goal.sector old seen which
      → HasGoal (layout old seen plan g) which old
  held_here unchanged which holds =
      let still = unchanged.target in
      let e = still_sectors unchanged.target in
      let same = sectors_are plan.goal.sector g.is_sector old (old_sectors old seen plan g) (old_long old seen plan g) in
      let place : place_of plan.goal.sector old plan.goal.entries which ≡ exact plan.goal which (target_sectors plan) =
      ap (λ n. place_of plan.goal.sector old n which) g.fits.well_formed.entries ∙ holds.exact
      ∙ ap₂ (λ t n. exact t which n) (sym unchanged.goal) (same ∙ sym e) in
      record {
        head = ap (λ n. bytes_at old (header_offset plan.goal.sector n which) plan.goal.sector) e
            ∙ sym (place_header plan.goal.sector g.is_sector old (old_sectors old seen plan g)
            (old_long old seen plan g) plan.goal.entries (old_room old seen plan g) which)
            ∙ ap (λ b. header_of plan.goal.sector b which) place;
        array = ap (λ n. bytes_at old (array_offset plan.goal.sector plan.goal.entries n which)
            (plan.goal.sector * array_sectors plan.goal.sector plan.goal.entries)) e
            ∙ sym (place_array plan.goal.sector g.is_sector old (old_sectors old seen plan g)
            (old_long old seen plan g) plan.goal.entries (old_room old seen plan g) which)
            ∙ ap (λ b. array_of plan.goal.sector b which) place;
      }

  pub primary_held : IsUnchanged seen plan → IsTrue seen.primary_same → HasGoal (layout old seen plan g) Primary old
  primary_held unchanged is = held_here unchanged Primary (g.seen_of.primary_same.0 is)

  pub backup_held : IsUnchanged seen plan → IsTrue seen.backup_same → HasGoal (layout old seen plan g) Backup old
  backup_held unchanged is = held_here unchanged Backup (g.seen_of.backup_same.0 is)

  -- what both places tell, as long as they stay
  pub data Stance : Type 0 where
    stands_primary : seen.origin ≡ origins.Primary → told_at plan.goal.sector old Primary ≡ shows seen.shown → Stance
    stands_backup : seen.origin ≡ origins.Backup → (Still → Stands Primary nothing) → (Still → Stands Backup (shows seen.shown))
        → shown plan.goal.sector old ≡ shows seen.shown → Stance
    stands_neither : seen.origin ≡ origins.Neither → (Still → Stands Primary nothing) → (Still → Stands Backup nothing)
        → shown plan.goal.sector old ≡ nothing → Stance

  not_wide : (origin : Origin) → origin ≢ origins.Primary → wider_copy plan.goal.sector old origin seen.shown ≡ None → (which : Which)
      → above plan.goal.entries (broken_at plan.goal.sector old which) ≡ None
  unfolding wider_copy
  not_wide origins.Primary other none which = absurd (other refl)
  not_wide origins.Backup other none Primary = ap (λ n. above n (broken_at plan.goal.sector old Primary)) g.fits.well_formed.entries
      ∙ (none_of _ _ none).0
  not_wide origins.Backup other none Backup = ap (λ n. above n (broken_at plan.goal.sector old Backup)) g.fits.well_formed.entries
      ∙ (none_of _ _ none).1
  not_wide origins.Neither other none Primary = ap (λ n. above n (broken_at plan.goal.sector old Primary)) g.fits.well_formed.entries
      ∙ (none_of _ _ none).0
  not_wide origins.Neither other none Backup = ap (λ n. above n (broken_at plan.goal.sector old Backup)) g.fits.well_formed.entries
      ∙ (none_of _ _ none).1

  pub stance : Stance
  unfolding shown
  stance = by_origin seen.origin refl where
    by_origin : (origin : Origin) → seen.origin ≡ origin → Stance
    by_origin origins.Primary is = stands_primary is (subst (λ o. TellBy o plan.goal.sector old seen.shown) is g.seen_of.tell)
    by_origin origins.Backup is =
        let tell = subst (λ o. TellBy o plan.goal.sector old seen.shown) is g.seen_of.tell in
        let none = subst (λ o. wider_copy plan.goal.sector old o seen.shown ≡ None) is g.seen_of.wider in
        stands_backup is
        (λ still. nothing_here still Primary (not_wide origins.Backup (λ e. cc) none Primary) tell.0)
        (λ still. table_here still Backup tell.1)
        (ap₂ first_told tell.0 tell.1)
    by_origin origins.Neither is =
        let tell = subst (λ o. TellBy o plan.goal.sector old seen.shown) is g.seen_of.tell in
        let none = subst (λ o. wider_copy plan.goal.sector old o seen.shown ≡ None) is g.seen_of.wider in
        stands_neither is
        (λ still. nothing_here still Primary (not_wide origins.Neither (λ e. cc) none Primary) tell.0)
        (λ still. nothing_here still Backup (not_wide origins.Neither (λ e. cc) none Backup) tell.1)
        (ap₂ first_told tell.0 tell.1)

  pub shown_first : told_at plan.goal.sector old Primary ≡ shows seen.shown → shown plan.goal.sector old ≡ shows seen.shown
  unfolding shown
  shown_first tells = ap (λ p. first_told p (told_at plan.goal.sector old Backup)) tells

  -- the image isn't refused
  pub not_refused : (fault : TableFault) → shown plan.goal.sector old ≢ refuses fault
  not_refused fault e = by_stance stance where
    by_stance : Stance → ⊥
    by_stance (stands_primary is tells) = let shows_it : shows seen.shown ≡ refuses fault = sym (shown_first tells) ∙ e in cc
    by_stance (stands_backup is p b shows_it) = let same : shows seen.shown ≡ refuses fault = sym shows_it ∙ e in cc
    by_stance (stands_neither is p b none) = let same : nothing ≡ refuses fault = sym none ∙ e in cc
