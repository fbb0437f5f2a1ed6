-- All calls of a plan, done whole, give the final image, and there is one such image.
use Rattle.std.proofs.Common.{◌≡◌, ◌≢◌, ℕ, ◌+◌, ◌*◌, ◌/◌, ◌<◌, ◌≤◌, ◌⊎◌, Bool, true, false, cond, List, [], ◌∷◌, ◌++◌, length, take, drop, get_or, All, refl, sym, ap, ◌∙◌, subst, inl, inr, arith}
use Rattle.std.specs.Prelude.{is_some, slice_range}
use Rattle.std.specs.Str.{bytes_eq}
use Rattle.std.proofs.lemmas.Bool.{cases_lt}
use Rattle.std.proofs.lemmas.List.{drop-take, take-take}
use Rattle.std.proofs.lemmas.Slice.Eq.{bytes_eq-Decides}
use Rattle.rp_base.specs.Geometry.{array_sectors, sector_units}
use Rattle.rp_base.specs.Image.{bytes_at, sectors_of}
use Rattle.rp_base.specs.Plan.{Noted, noted_of}
use Rattle.rp_base.specs.Table.{IsInPlace}
use Rattle.rp_base.specs.declared.geometry.Which.{Which}
use Rattle.rp_base.specs.declared.geometry.Which.TheVariants.{Primary, Backup}
use Rattle.rp_base.specs.declared.plan.Change.TheVariants as changes
use Rattle.rp_base.specs.declared.plan.Plan.{Plan}
use Rattle.rp_base.specs.declared.seen.Mbr.TheVariants as mbrs
use Rattle.rp_base.specs.declared.seen.Seen.{Seen}
use Rattle.rp_disk.specs.declared.call.Call.{Call}
use Rattle.rp_disk.specs.declared.call.Call.TheVariants.{Write, Sync, SetLen}
use Rattle.rp_disk.specs.Blocks.{EachBlock, blocks_done, flat}
use Rattle.rp_disk.specs.Calls.{all_done, overwritten}
use Rattle.rp_disk.specs.Ranges.{Inside, Misses}
use Rattle.rp_disk.specs.Stops.{Each}
use Rattle.rp_disk.proofs.Blocks.{all_done-flat, each_flat}
use Rattle.rp_disk.proofs.Ranges.{bytes_at-overwritten, same_bytes}
use Rattle.rp_gpt.specs.Accepted.{HoldsTable}
use Rattle.rp_gpt.specs.Mbr.{foreign_type, mbr_bytes, mbr_state}
use Rattle.rp_gpt.specs.Copy.{exact}
use Rattle.rp_gpt.specs.Shown.{shows, first_told, shown, told_at}
use Rattle.rp_gpt.proofs.Sectors.{copy_bytes-is, sector_least}
use Rattle.rp_stops.specs.Final.{IsElsewhere, IsFinal, copy_length, copy_offset}
use Rattle.rp_stops.specs.Order.{AreCallsOf, IsMbrPart, written, left, array_call, contents_blocks, copies, growth, header_offset, mbr_call, target_sectors}
use Rattle.rp_stops.specs.Rows.{Contents, Fills, IsByteOf, IsInNewRow, grown}
use Rattle.rp_stops.proofs.Bytes.{get_or-all_done}
use Rattle.rp_stops.proofs.Carried.{held}
use Rattle.rp_stops.proofs.Finishing.{IsDone, all_done-done, all_parts, copies_done, blocks_done-append, growth_done, still_grown}
use Rattle.rp_stops.proofs.Given.{Given, grows, layout, length-mbr, old_long, old_sectors, order, room, rows_between, target_long}
use Rattle.rp_stops.proofs.Growing.{length-grown}
use Rattle.rp_stops.proofs.Known.{Still, opened, opened_place}
use Rattle.rp_stops.proofs.Missing.{OfCopies, behind_inside, each_behind, zeros_long}
use Rattle.rp_stops.proofs.Places.{backup_header, place_at, sectors_are, whole_sectors}

-- an MBR in the state Same is the exact one
same_mbr : (sector : List ℕ) (sectors : ℕ) → mbr_state sector sectors ≡ mbrs.Same → slice_range sector 446 512 ≡ mbr_bytes sectors
unfolding mbr_state
same_mbr sector sectors = by_type (is_some (foreign_type sector)) where
  by_bytes : (b : Bool) → bytes_eq (slice_range sector 446 512) (mbr_bytes sectors) ≡ b → cond b mbrs.Same mbrs.Differs ≡ mbrs.Same
      → slice_range sector 446 512 ≡ mbr_bytes sectors
  by_bytes true is e = (bytes_eq-Decides (slice_range sector 446 512) (mbr_bytes sectors)).0 is
  by_bytes false is e = cc

  by_type : (b : Bool) → cond b mbrs.Foreign (cond (bytes_eq (slice_range sector 446 512)
      (mbr_bytes sectors)) mbrs.Same mbrs.Differs) ≡ mbrs.Same → slice_range sector 446 512 ≡ mbr_bytes sectors
  by_type true e = cc
  by_type false e = by_bytes (bytes_eq (slice_range sector 446 512) (mbr_bytes sectors)) refl e

pub mbr_range : (image : List ℕ) → slice_range (take 512 image) 446 512 ≡ bytes_at image 446 66
mbr_range image = ap (take 66) (drop-take 446 66 image) ∙ take-take 66 66 (drop 446 image) (omega arith)

-- a write inside a row misses a byte that isn't the row's
outside : (at n start size k : ℕ) → 512 * start ≤ at → at + n ≤ 512 * (start + size)
    → ((512 * start ≤ k) × (k < 512 * (start + size)) → ⊥) → (k < at) ⊎ (at + n ≤ k)
outside at n start size k low high not = elim (cases_lt k at) [
  | inl below ↦ inl below
  | inr from ↦ elim (cases_lt k (at + n)) [
    | inl within ↦ absurd (not (omega arith, omega arith))
    | inr above ↦ inr above
  ]
]

module _ (old : List ℕ) (seen : Seen) (plan : Plan) (g : Given old seen plan) (body calls : List Call)
    (are : AreCallsOf seen plan body calls) where
  abbrev behind : List (List Call)
  behind = contents_blocks body ++ (copies plan are.order ++ are.mbr)

  body_outside : (k : ℕ) → All (λ noted. noted.1.change ≡ changes.New → IsByteOf noted.0 k → ⊥) (noted_of plan) → (call : Call)
      → IsInNewRow plan call → Misses k call
  body_outside k none (Write at bytes) (j, noted, lt, same, inside) =
      let P : Noted → Type 0 = λ x. x.1.change ≡ changes.New → IsByteOf x.0 k → ⊥ in
      let not = subst P same (none j noted lt) inside.0 in
      outside at (length bytes) noted.0.start noted.0.size k inside.1.0 inside.1.1 not
  body_outside k none Sync (j, noted, lt, same, inside) = absurd inside.1
  body_outside k none (SetLen len) (j, noted, lt, same, inside) = absurd inside.1

  -- a byte outside a copy's place is missed by its writes
  place_outside : (k : ℕ) → ((which : Which) → (k < copy_offset plan which) ⊎ (copy_offset plan which + copy_length plan ≤ k))
      → OfCopies (Misses k) plan
  place_outside k none = record {
    closes = λ which. head which _
        (zeros_long old seen plan g body are.order are.mbr are.inside are.mbr_part);
    fills = array;
    opens =
        λ which. head which _ ((layout old seen plan g).head_long which);
  } where
    size : copy_length plan ≡ plan.goal.sector + plan.goal.sector * array_sectors plan.goal.sector plan.goal.entries
    size = copy_bytes-is plan.goal.sector g.is_sector plan.goal.entries

    head : (which : Which) (bytes : List ℕ) → length bytes ≡ plan.goal.sector
        → Misses k (Write (header_offset plan.goal.sector (target_sectors plan) which) bytes)
    head Primary bytes long = elim (none Primary) [ inl below ↦ inl below | inr above ↦ inr (omega (arith, size)) ]
    head Backup bytes long =
        let at = backup_header (target_sectors plan) plan.goal.entries plan.goal.sector g.is_sector (room old seen plan g) in
        elim (none Backup) [ inl below ↦ inl (omega (arith, at)) | inr above ↦ inr (omega (arith, size, at)) ]

    array : (which : Which) → Misses k (array_call plan which)
    array Primary = let long = (layout old seen plan g).array_long Primary in elim
        (none Primary) [ inl below ↦ inl (omega arith) | inr above ↦ inr (omega (arith, size)) ]
    array Backup = let long = (layout old seen plan g).array_long Backup in elim
        (none Backup) [ inl below ↦ inl below | inr above ↦ inr (omega (arith, size)) ]

  all_behind : all_done old calls ≡ all_done (grown old plan) (flat (contents_blocks body ++ (copies plan are.order ++ are.mbr)))
  all_behind =
      ap (all_done old) are.are ∙ all_done-flat old (growth seen plan ++ (contents_blocks body ++ (copies plan are.order ++ are.mbr)))
      ∙ blocks_done-append old (growth seen plan) (contents_blocks body ++ (copies plan are.order ++ are.mbr))
      ∙ ap (λ i. blocks_done i (contents_blocks body ++ (copies plan are.order ++ are.mbr))) (growth_done old seen plan g)
      ∙ sym (all_done-flat (grown old plan) (contents_blocks body ++ (copies plan are.order ++ are.mbr)))

  -- a byte that all calls behind the growth miss
  pub missed_byte : (k : ℕ) → EachBlock (Misses k) (contents_blocks body ++ (copies plan are.order ++ are.mbr))
      → get_or (all_done old calls) k 0 ≡ get_or (grown old plan) k 0
  missed_byte k misses =
      ap (λ (xs : List ℕ). get_or xs k 0) all_behind
      ∙ get_or-all_done (512 * plan.target) (flat (contents_blocks body ++ (copies plan are.order ++ are.mbr))) (grown old plan) k
      (length-grown old plan (grows old seen plan g))
      (each_flat (Inside (512 * plan.target)) tt (contents_blocks body ++ (copies plan are.order ++ are.mbr))
      (behind_inside old seen plan g body are.order are.mbr are.inside are.mbr_part))
      (each_flat (Misses k) tt (contents_blocks body ++ (copies plan are.order ++ are.mbr)) misses)

  each_body : (P : Call → Type 0) → ((call : Call) → IsInNewRow plan call → P call) → (calls : List Call) → Each (IsInNewRow plan) calls
      → Each P calls
  each_body P of [] each = tt
  each_body P of (call ∷ calls) each = (of call each.0, each_body P of calls each.1)

  mbr_elsewhere : (k : ℕ) → (seen.mbr ≡ mbrs.Foreign) ⊎ ((k < 446) ⊎ (512 ≤ k)) → (blocks : List (List Call))
      → IsMbrPart seen plan blocks → EachBlock (Misses k) blocks
  mbr_elsewhere k (inl foreign) blocks (written other is) = absurd (other foreign)
  mbr_elsewhere k (inr beside) blocks (written other is) =
      let size = length-mbr (target_sectors plan) in
      let misses : Misses k (mbr_call plan) = elim beside [ inl low ↦ inl low | inr high ↦ inr (omega arith) ] in
      subst (EachBlock (Misses k)) (sym is) ((misses, tt), tt)
  mbr_elsewhere k beside blocks (left right is) = subst (EachBlock (Misses k)) (sym is) tt

  pub elsewhere_misses : (k : ℕ) → IsElsewhere seen plan k
      → EachBlock (Misses k) (contents_blocks body ++ (copies plan are.order ++ are.mbr))
  elsewhere_misses k e =
      each_behind (Misses k) plan body are.order are.mbr (each_body (Misses k) (body_outside k e.rows) body are.inside)
      (place_outside k e.places)
      (mbr_elsewhere k e.mbr are.mbr are.mbr_part)

  pub done : IsDone old seen plan g body calls are (all_done old calls)
  done = all_done-done old seen plan g body calls are

  -- the bytes before the primary are in no place and in no new row
  pub low_places : (k : ℕ) → k < 512 → (which : Which) → (k < copy_offset plan which) ⊎ (copy_offset plan which + copy_length plan ≤ k)
  low_places k low Primary = let large = sector_least plan.goal.sector g.is_sector in inl (omega arith)
  low_places k low Backup =
      let large = sector_least plan.goal.sector g.is_sector in
      let middle = (order old seen plan g).middle in
      inl (omega arith)

  pub low_rows : (k : ℕ) → k < 512 → All (λ noted. noted.1.change ≡ changes.New → IsByteOf noted.0 k → ⊥) (noted_of plan)
  low_rows k low i d lt new byte =
      let bounds = rows_between old seen plan g i d lt in
      let from = bounds.0 in
      let here = byte.0 in
      let large = sector_least plan.goal.sector g.is_sector in
      omega arith

  mbr_still : seen.mbr ≡ mbrs.Same → Still old seen plan g → are.mbr ≡ []
      → bytes_at (all_done old calls) 446 66 ≡ mbr_bytes (target_sectors plan)
  mbr_still same still none =
      let large = sector_least plan.goal.sector g.is_sector in
      let long = (done).len in
      let target = target_long old seen plan g in
      let middle = (order old seen plan g).middle in
      let backup = (order old seen plan g).backup in
      let end = (order old seen plan g).end in
      let sectors : sectors_of plan.goal.sector old ≡ target_sectors plan =
      sectors_are plan.goal.sector g.is_sector old (old_sectors old seen plan g) (old_long old seen plan g)
      ∙ ap (λ n. n / sector_units plan.goal.sector) (sym still) in
      same_bytes 446 66 (all_done old calls) (grown old plan) (omega arith)
      (omega (arith, length-grown old plan (grows old seen plan g))) (λ k low high. missed_byte k (low_misses k high))
      ∙ ap (λ i. bytes_at i 446 66) (still_grown old seen plan g still)
      ∙ sym (mbr_range old) ∙ same_mbr (take 512 old) (sectors_of plan.goal.sector old) (sym g.seen_of.mbr ∙ same) ∙ ap mbr_bytes sectors
    where
      low_misses : (k : ℕ) → k < 512 → EachBlock (Misses k) (contents_blocks body ++ (copies plan are.order ++ are.mbr))
      low_misses k low =
          each_behind (Misses k) plan body are.order are.mbr (each_body (Misses k) (body_outside k (low_rows k low)) body are.inside)
          (place_outside k (low_places k low))
          (subst (EachBlock (Misses k)) (sym none) tt)

  pub mbr_final : seen.mbr ≢ mbrs.Foreign → (blocks : List (List Call)) → IsMbrPart seen plan blocks → are.mbr ≡ blocks
      → bytes_at (all_done old calls) 446 66 ≡ mbr_bytes (target_sectors plan)
  mbr_final other blocks (written foreign is) same =
      let before = blocks_done (all_done (grown old plan) body) (copies plan are.order) in
      let long = (copies_done old seen plan g body calls are are.order are.ordered).len in
      let size = length-mbr (target_sectors plan) in
      let large = sector_least plan.goal.sector g.is_sector in
      let target = target_long old seen plan g in
      let middle = (order old seen plan g).middle in
      let backup = (order old seen plan g).backup in
      let end = (order old seen plan g).end in
      let fits : 446 + length (mbr_bytes (target_sectors plan)) ≤ length
      (blocks_done (all_done (grown old plan) body) (copies plan are.order)) = omega arith in
      ap (λ i. bytes_at i 446 66) (all_parts old seen plan g body calls are
      ∙ ap (blocks_done (blocks_done (all_done (grown old plan) body) (copies plan are.order))) (same ∙ is))
      ∙ ap (λ n. bytes_at (overwritten (blocks_done (all_done (grown old plan) body) (copies plan are.order)) 446
      (mbr_bytes (target_sectors plan))) 446 n) (sym size)
      ∙ bytes_at-overwritten 446 (mbr_bytes (target_sectors plan))
      (blocks_done (all_done (grown old plan) body) (copies plan are.order)) fits
  mbr_final other blocks (left (inl foreign) is) same = absurd (other foreign)
  mbr_final other blocks (left (inr right) is) same = mbr_still right.0 right.1 (same ∙ is)

  pub final : (contents : Contents) → Fills old plan contents body → IsFinal old seen plan contents (all_done old calls)
  final contents fills = record {
    len = (done).len;
    places = λ which.
        sym (place_at plan.goal.sector g.is_sector (all_done old calls) (target_sectors plan)
        ((done).len ∙ target_long old seen plan g) plan.goal.entries (room old seen plan g) which)
        ∙ opened_place old seen plan g (all_done old calls) (done).len which ((done).goals which);
    rows = held old seen plan g body calls are contents fills (all_done old calls) (done).news;
    mbr = λ other. mbr_final other are.mbr are.mbr_part refl;
    kept = λ k lt e. missed_byte k (elsewhere_misses k e);
  }

  -- both copies show the goal
  pub told_goal : (which : Which) → told_at plan.goal.sector (all_done old calls) which ≡ shows plan.goal
  told_goal which = opened old seen plan g (all_done old calls) (done).len which ((done).goals which)

  pub shown_goal : shown plan.goal.sector (all_done old calls) ≡ shows plan.goal
  unfolding shown
  shown_goal = ap (λ t. first_told t (told_at plan.goal.sector (all_done old calls) Backup)) (told_goal Primary)

  pub holds_table : HoldsTable (all_done old calls) plan.goal
  holds_table =
      let long = (done).len in
      let few = g.fits.well_formed.target.most in
      let units : sectors_of 512 (all_done old calls) ≡ plan.target = ap (λ n. n / 512) (done).len ∙ omega arith in
      let same = sectors_are plan.goal.sector g.is_sector (all_done old calls) (target_sectors plan)
      ((done).len ∙ target_long old seen plan g) in
      record {
        whole = whole_sectors plan.goal.sector g.is_sector (all_done old calls) (target_sectors plan)
            ((done).len ∙ target_long old seen plan g);
        most = omega arith;
        in_place = subst (λ n. IsInPlace n plan.goal) (sym units) g.fits.well_formed.in_place;
        places = λ which. opened_place old seen plan g (all_done old calls) (done).len which ((done).goals which)
            ∙ ap (λ n. exact plan.goal which n) (sym same);
      }
