-- What is seen of an image on which a plan was carried out.
use Rattle.std.proofs.Common.{◌≡◌, ◌≢◌, ℕ, ◌-◌, ◌*◌, ◌/◌, ◌≤◌, true, List, length, take, Ok, Result, refl, sym, ap, ap₂, ◌∙◌, inl, arith}
use Rattle.rp_base.specs.Image.{sectors_of}
use Rattle.rp_base.specs.declared.plan.Plan.{Plan}
use Rattle.rp_base.specs.declared.seen.Mbr.{Mbr}
use Rattle.rp_base.specs.declared.seen.Mbr.TheVariants as mbrs
use Rattle.rp_base.specs.declared.seen.Origin.TheVariants as origins
use Rattle.rp_base.specs.declared.seen.Seen.{Seen}
use Rattle.rp_disk.specs.declared.call.Call.{Call}
use Rattle.rp_disk.specs.Calls.{all_done}
use Rattle.rp_disk.proofs.Ranges.{bytes_at-take, same_bytes}
use Rattle.rp_gpt.specs.Mbr.{mbr_bytes, mbr_state}
use Rattle.rp_gpt.specs.Shown.{accepted}
use Rattle.rp_gpt.specs.declared.table_fault.TableFault.{TableFault}
use Rattle.rp_gpt.specs.declared.table_fault.Empty.{Empty}
use Rattle.rp_gpt.specs.declared.table_fault.Empty.TheVariants.{Require}
use Rattle.rp_gpt.proofs.ExactPlaces.{exact-accepted}
use Rattle.rp_gpt.proofs.MbrStates.{exact-same, foreign-alone}
use Rattle.rp_gpt.proofs.ReadsBack.{reads_back}
use Rattle.rp_gpt.proofs.Sectors.{sector_least}
use Rattle.rp_stops.specs.After.{mbr_after, seen_after}
use Rattle.rp_stops.specs.Order.{AreCallsOf, target_sectors}
use Rattle.rp_stops.proofs.Bytes.{append_zeros}
use Rattle.rp_stops.proofs.Final.{done, elsewhere_misses, holds_table, low_places, low_rows, mbr_final, mbr_range, missed_byte}
use Rattle.rp_stops.proofs.Given.{Given, in_order, old_long, old_room, old_sectors, order, target_long}
use Rattle.rp_stops.proofs.Places.{sectors_are}

-- the goal on so many units, with this state of the MBR
abbrev as_seen : Plan → ℕ → Mbr → Result Seen TableFault
as_seen plan units mbr = Ok (record {
  sectors = units;
  shown = plan.goal;
  origin = origins.Primary;
  primary_same = true;
  backup_same = true;
  mbr = mbr;
})

module _ (old : List ℕ) (seen : Seen) (plan : Plan) (g : Given old seen plan) (body calls : List Call)
    (are : AreCallsOf seen plan body calls) where
  final_sectors : sectors_of plan.goal.sector (all_done old calls) ≡ target_sectors plan
  final_sectors =
      sectors_are plan.goal.sector g.is_sector (all_done old calls) (target_sectors plan)
      ((done old seen plan g body calls are).len ∙ target_long old seen plan g)

  -- the first bytes are the old ones, where the MBR is of another table
  first_bytes : seen.mbr ≡ mbrs.Foreign → take 512 (all_done old calls) ≡ take 512 old
  first_bytes foreign =
      let large = sector_least plan.goal.sector g.is_sector in
      let long = (done old seen plan g body calls are).len in
      let target = target_long old seen plan g in
      let middle = (order old seen plan g).middle in
      let backup = (order old seen plan g).backup in
      let end = (order old seen plan g).end in
      let old_is = old_long old seen plan g in
      sym (bytes_at-take (all_done old calls) 0 512)
      ∙ same_bytes 0 512 (all_done old calls) old (omega arith) (old_enough old_is)
      (λ k low high.
      missed_byte old seen plan g body calls are k (elsewhere_misses old seen plan g body calls are k (record {
        places = low_places old seen plan g body calls are k high;
        rows = low_rows old seen plan g body calls are k high;
        mbr = inl foreign;
      })) ∙ append_zeros old (512 * plan.target - length old) k)
      ∙ bytes_at-take old 0 512
    where
      old_enough : length old ≡ plan.goal.sector * old_sectors old seen plan g → 512 ≤ length old
      old_enough long =
          let large = sector_least plan.goal.sector g.is_sector in
          let places = in_order plan.goal.entries (old_sectors old seen plan g) plan.goal.sector g.is_sector (old_room old seen plan g) in
          let middle = places.middle in
          let backup = places.backup in
          let end = places.end in
          omega arith

  exact_mbr : seen.mbr ≢ mbrs.Foreign
      → mbr_state (take 512 (all_done old calls)) (sectors_of plan.goal.sector (all_done old calls)) ≡ mbrs.Same
  exact_mbr other =
      exact-same (take 512 (all_done old calls)) (sectors_of plan.goal.sector (all_done old calls))
      (mbr_range (all_done old calls) ∙ mbr_final old seen plan g body calls are other are.mbr are.mbr_part refl
      ∙ ap mbr_bytes (sym final_sectors))

  mbr_is : (state : Mbr) → seen.mbr ≡ state → mbr_state (take 512 (all_done old calls))
      (sectors_of plan.goal.sector (all_done old calls)) ≡ mbr_after state
  mbr_is mbrs.Foreign is =
      ap (λ s. mbr_state s (sectors_of plan.goal.sector (all_done old calls))) (first_bytes is)
      ∙ foreign-alone (take 512 old) (sectors_of plan.goal.sector old) (sectors_of plan.goal.sector (all_done old calls))
      (sym g.seen_of.mbr ∙ is)
  mbr_is mbrs.Same is = exact_mbr (λ e. let f : mbrs.Same ≡ mbrs.Foreign = sym is ∙ e in cc)
  mbr_is mbrs.Differs is = exact_mbr (λ e. let f : mbrs.Differs ≡ mbrs.Foreign = sym is ∙ e in cc)

  pub accepted_after : (empty : Empty) → empty ≢ Require
      → accepted plan.goal.sector (all_done old calls) empty ≡ Ok (seen_after seen plan)
  accepted_after empty other =
      let units : sectors_of 512 (all_done old calls) ≡ plan.target = ap (λ n. n / 512) (done old seen plan g body calls are).len
      ∙ omega arith in
      exact-accepted (all_done old calls) plan.goal (holds_table old seen plan g body calls are) g.fits.well_formed.writable
      (reads_back plan.goal g.fits.well_formed.writable g.table_fits) empty other
      ∙ ap₂ (as_seen plan) units (mbr_is seen.mbr refl)
