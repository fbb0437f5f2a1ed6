-- Why the order is as it is: other orders leave an image that shows nothing, with no torn header on it.
use Rattle.std.proofs.Common.{◌≡◌, ◌≢◌, ℕ, ◌*◌, List, [], ◌∷◌, length, replicate, sym, ap, ap₂, ◌∙◌, subst, inr, arith}
use Rattle.std.proofs.lemmas.List.{length-replicate}
use Rattle.rp_base.specs.Image.{bytes_at}
use Rattle.rp_base.specs.declared.geometry.Which.{Which}
use Rattle.rp_base.specs.declared.geometry.Which.TheVariants.{Primary, Backup}
use Rattle.rp_base.specs.declared.plan.Plan.{Plan}
use Rattle.rp_base.specs.declared.seen.Seen.{Seen}
use Rattle.rp_base.specs.declared.table.Table.{Table}
use Rattle.rp_disk.specs.Calls.{all_done}
use Rattle.rp_disk.specs.Ranges.{Apart, Inside}
use Rattle.rp_disk.specs.Stops.{Agrees, Each}
use Rattle.rp_disk.proofs.Agreeing.{agrees-same, agrees-then}
use Rattle.rp_disk.proofs.Ranges.{agrees-inside, bytes_at-agrees, length-agrees}
use Rattle.rp_gpt.specs.Shown.{IsTold, shows, nothing, first_told, shown, told_at}
use Rattle.rp_stops.specs.Order.{close_call, header_call, header_offset, target_sectors}
use Rattle.rp_stops.specs.Wrong.{LeavesNoTable}
use Rattle.rp_stops.proofs.Cells.{head_fits}
use Rattle.rp_stops.proofs.Given.{Given, layout, order}
use Rattle.rp_disk.proofs.Ranges.{bytes_at-overwritten}

module _ (old : List ℕ) (seen : Seen) (plan : Plan) (g : Given old seen plan) where
  zeros_long : length {A = ℕ} (replicate plan.goal.sector 0) ≡ plan.goal.sector
  zeros_long = length-replicate {A = ℕ} plan.goal.sector 0

  close_inside : Each (Inside (512 * plan.target)) (close_call plan Primary ∷ [])
  close_inside = let fits = head_fits (layout old seen plan g) Primary in let long = zeros_long in (omega arith, tt)

  -- an image of the target's length with the backup closed, on which the primary is then closed
  module _ (image : List ℕ) (long : length image ≡ 512 * plan.target)
      (shut : bytes_at image (header_offset plan.goal.sector
      (target_sectors plan) Backup) plan.goal.sector ≡ replicate plan.goal.sector 0) where
    closed : List ℕ
    closed = all_done image (close_call plan Primary ∷ [])

    closed_agrees : Agrees image (close_call plan Primary ∷ []) (all_done image (close_call plan Primary ∷ []))
    closed_agrees = agrees-inside (512 * plan.target) (close_call plan Primary ∷ []) image long close_inside

    closed_long : length (all_done image (close_call plan Primary ∷ [])) ≡ 512 * plan.target
    closed_long = length-agrees (512 * plan.target) image (close_call plan Primary ∷ [])
        (all_done image (close_call plan Primary ∷ [])) closed_agrees close_inside ∙ long

    header : (which : Which) → bytes_at (all_done image (close_call plan Primary ∷ []))
        (header_offset plan.goal.sector (target_sectors plan) which) plan.goal.sector ≡ replicate plan.goal.sector 0
    header Primary =
        let fits = head_fits (layout old seen plan g) Primary in
        let size = zeros_long in
        ap (bytes_at (all_done image (close_call plan Primary ∷ [])) (header_offset plan.goal.sector (target_sectors plan) Primary))
        (sym zeros_long)
        ∙ bytes_at-overwritten (header_offset plan.goal.sector (target_sectors plan) Primary) (replicate plan.goal.sector 0) image
        (omega arith)
    header Backup =
        let middle = (order old seen plan g).middle in
        let backup = (order old seen plan g).backup in
        let size = zeros_long in
        let fits = head_fits (layout old seen plan g) Backup in
        let apart : Apart (header_offset plan.goal.sector (target_sectors plan) Backup) plan.goal.sector (close_call plan Primary) =
        inr (omega arith) in
        bytes_at-agrees (header_offset plan.goal.sector (target_sectors plan) Backup) plan.goal.sector image
        (close_call plan Primary ∷ []) (all_done image (close_call plan Primary ∷ [])) closed_agrees
        (omega arith) (omega (arith, closed_long)) (apart, tt) ∙ shut

    tells_nothing : (which : Which) → told_at plan.goal.sector (all_done image (close_call plan Primary ∷ [])) which ≡ nothing
    tells_nothing which = (layout old seen plan g).closed (all_done image (close_call plan Primary ∷ [])) closed_long which (header which)

    pub shows_nothing : shown plan.goal.sector (all_done image (close_call plan Primary ∷ [])) ≡ nothing
    unfolding shown
    shows_nothing = ap₂ first_told (tells_nothing Primary) (tells_nothing Backup)

    pub honest : (which : Which) → IsTold (told_at plan.goal.sector (all_done image (close_call plan Primary ∷ [])) which) → ⊥
    honest which told = subst IsTold (tells_nothing which) told

  -- what shows nothing shows neither an old table nor the goal
  neither : (image : List ℕ) → shown plan.goal.sector image ≡ nothing → (table : Table) → shown plan.goal.sector image ≢ shows table
  neither image none table e = let same : nothing ≡ shows table = sym none ∙ e in cc

  -- the primary closed first, where the backup is blank
  pub primary_closed_first : (start : List ℕ) → length start ≡ 512 * plan.target
      → bytes_at start (header_offset plan.goal.sector (target_sectors plan) Backup) plan.goal.sector ≡ replicate plan.goal.sector 0
      → LeavesNoTable plan.goal.sector start (close_call plan Primary ∷ [])
  primary_closed_first start long shut = record {
    image = all_done start (close_call plan Primary ∷ []);
    left = closed_agrees start long shut;
    honest = inr (λ which told. absurd (honest start long shut which told));
    none = neither (all_done start (close_call plan Primary ∷ [])) (shows_nothing start long shut);
  }

  -- no sync between the backup's header and the closing of the primary
  pub no_sync_between_copies : (start : List ℕ) → length start ≡ 512 * plan.target
      → bytes_at start (header_offset plan.goal.sector (target_sectors plan) Backup) plan.goal.sector ≡ replicate plan.goal.sector 0
      → LeavesNoTable plan.goal.sector start (header_call plan Backup ∷ close_call plan Primary ∷ [])
  no_sync_between_copies start long shut = record {
    image = all_done start (close_call plan Primary ∷ []);
    left = agrees-then start start (all_done start (close_call plan Primary ∷ [])) (header_call plan Backup ∷ [])
        (close_call plan Primary ∷ []) (agrees-same start (header_call plan Backup ∷ [])) (closed_agrees start long shut);
    honest = inr (λ which told. absurd (honest start long shut which told));
    none = neither (all_done start (close_call plan Primary ∷ [])) (shows_nothing start long shut);
  }
