-- What a stop in a plan's calls shows.
use Rattle.std.proofs.Common.{◌≡◌, ◌≢◌, ℕ, ◌+◌, ◌*◌, ◌≤◌, Bool, true, false, cond, List, [], ◌∷◌, ◌++◌, length, refl, sym, ap, ◌∙◌, subst, inl, inr, arith}
use Rattle.std.specs.Prelude.{nat_lt}
use Rattle.rp_base.specs.Image.{bytes_at}
use Rattle.rp_base.specs.declared.geometry.Which.{Which}
use Rattle.rp_base.specs.declared.geometry.Which.TheVariants.{Primary, Backup}
use Rattle.rp_base.specs.declared.plan.Plan.{Plan}
use Rattle.rp_base.specs.declared.seen.Origin.{Origin}
use Rattle.rp_base.specs.declared.seen.Origin.TheVariants as origins
use Rattle.rp_base.specs.declared.seen.Seen.{Seen}
use Rattle.rp_disk.specs.declared.call.Call.{Call}
use Rattle.rp_disk.specs.declared.call.Call.TheVariants.{Write, Sync, SetLen}
use Rattle.rp_disk.specs.Blocks.{EachBlock, Unsynced}
use Rattle.rp_disk.specs.Calls.{all_done, has_sync}
use Rattle.rp_disk.specs.Ranges.{Apart, Inside}
use Rattle.rp_disk.specs.Stops.{Each}
use Rattle.rp_disk.proofs.Blocks.{Each-imp, Unsynced-append}
use Rattle.rp_disk.proofs.Ranges.{length-all_done}
use Rattle.rp_gpt.specs.Accepted.{TellBy}
use Rattle.rp_gpt.specs.Shown.{shows, refuses, nothing, first_told, shown, told_at}
use Rattle.rp_stops.specs.Order.{contents_blocks, copies, growth, IsOrder, primary_last, backup_last, primary_alone, backup_alone, no_copy, IsMbrPart, written, left, target_sectors}
use Rattle.rp_stops.specs.Rows.{IsInNewRow, IsInOldRow, grown}
use Rattle.rp_stops.specs.Safe.{ShowsEither}
use Rattle.rp_stops.specs.Writers.{Event, calls_of, ours, others}
use Rattle.rp_stops.proofs.Bytes.{ours_range}
use Rattle.rp_stops.proofs.Cells.{Calm, HasGoal, Same, SameNews, Steady, same-then}
use Rattle.rp_stops.proofs.Cuts.{each_call}
use Rattle.rp_stops.proofs.Given.{Given, grows, layout, order, room, target_long}
use Rattle.rp_stops.proofs.Growing.{InGrowth, IsBase, growth_stages, length-grown}
use Rattle.rp_stops.proofs.Known.{Stance, stands_primary, stands_backup, stands_neither, Still, backup_held, not_refused, opened, primary_held, primary_here, shown_first, stance}
use Rattle.rp_stops.proofs.Showing.{Case, by_primary, by_none, by_backup, only_primary, only_backup, neither, Outcome, contents_outcome, copies_of}
use Rattle.rp_stops.proofs.Stages.{Stages}
use Rattle.rp_stops.proofs.Writes.{body_steady, mbr_calm, others_calm}

-- writes into new rows have no sync
pub body_unsynced : (plan : Plan) (body : List Call) → Each (IsInNewRow plan) body → has_sync body ≡ false
body_unsynced plan [] each = refl
body_unsynced plan (Write at bytes ∷ body) each = body_unsynced plan body each.1
body_unsynced plan (Sync ∷ body) each = absurd each.0.4.1
body_unsynced plan (SetLen len ∷ body) each = body_unsynced plan body each.1

growth_unsynced : (seen : Seen) (plan : Plan) → Unsynced (growth seen plan)
growth_unsynced seen plan = by_growth (nat_lt seen.sectors plan.target) where
  by_growth : (b : Bool) → Unsynced (cond b ((SetLen (512 * plan.target) ∷ []) ∷ []) [])
  by_growth true = (refl, tt)
  by_growth false = tt

contents_unsynced : (plan : Plan) (body : List Call) → Each (IsInNewRow plan) body → Unsynced (contents_blocks body)
contents_unsynced plan [] each = tt
contents_unsynced plan (call ∷ body) each = (body_unsynced plan (call ∷ body) each, tt)

copies_unsynced : (plan : Plan) (order : List Which) → Unsynced (copies plan order)
copies_unsynced plan [] = tt
copies_unsynced plan (which ∷ rest) = (refl, (refl, (refl, copies_unsynced plan rest)))

mbr_unsynced : (seen : Seen) (plan : Plan) (blocks : List (List Call)) → IsMbrPart seen plan blocks → Unsynced blocks
mbr_unsynced seen plan blocks (written foreign is) = subst Unsynced (sym is) (refl, tt)
mbr_unsynced seen plan blocks (left right is) = subst Unsynced (sym is) tt

-- no block of a plan has a sync inside
pub blocks_unsynced : (seen : Seen) (plan : Plan) (body : List Call) (order : List Which) (mbr : List (List Call))
    → Each (IsInNewRow plan) body → IsMbrPart seen plan mbr
    → Unsynced (growth seen plan ++ (contents_blocks body ++ (copies plan order ++ mbr)))
blocks_unsynced seen plan body order mbr each part =
    Unsynced-append (growth seen plan) (contents_blocks body ++ (copies plan order ++ mbr)) (growth_unsynced seen plan)
    (Unsynced-append (contents_blocks body) (copies plan order ++ mbr) (contents_unsynced plan body each)
    (Unsynced-append (copies plan order) mbr (copies_unsynced plan order) (mbr_unsynced seen plan mbr part)))

module _ (old : List ℕ) (seen : Seen) (plan : Plan) (g : Given old seen plan) where
  abbrev O : Call → Type 0
  O call = IsInOldRow seen call

  calm : (call : Call) → IsInOldRow seen call → Calm (layout old seen plan g) call
  calm call o = others_calm old seen plan g call o

  mbr_blocks_calm : (blocks : List (List Call)) → IsMbrPart seen plan blocks → EachBlock (Calm (layout old seen plan g)) blocks
  mbr_blocks_calm blocks (written foreign is) = subst (EachBlock (Calm (layout old seen plan g))) (sym is)
      ((mbr_calm old seen plan g, tt), tt)
  mbr_blocks_calm blocks (left right is) = subst (EachBlock (Calm (layout old seen plan g))) (sym is) tt

  -- the copies' blocks, as calls on the layout
  copies_same : (order : List Which) → copies plan order ≡ copies_of (layout old seen plan g) (λ c. IsInOldRow seen c) calm plan.goal
      (shown plan.goal.sector old) (opened old seen plan g) order
  copies_same [] = refl
  copies_same (which ∷ rest) = ap (λ (l : List (List Call)). copies plan (which ∷ []) ++ l) (copies_same rest)

  not_primary : (o : Origin) → seen.origin ≡ o → o ≢ origins.Primary → Still old seen plan g
  not_primary o is other = elim g.fits.grows [ inl still ↦ still | inr primary ↦ absurd (other (sym is ∙ primary)) ]

  module _ (base : List ℕ) (b : IsBase old seen plan g base) where
    -- the primary stands, where it is shown
    primary_stands : told_at plan.goal.sector old Primary ≡ shows seen.shown → (xs : List ℕ) → length xs ≡ 512 * plan.target
        → Same (layout old seen plan g) Primary base xs
        → told_at plan.goal.sector xs Primary ≡ shows seen.shown
    primary_stands tells xs long same =
        primary_here old seen plan g tells xs (target_sectors plan) (long ∙ target_long old seen plan g) (room old seen plan g)
        (same-then (layout old seen plan g) Primary old base xs b.primary same)

    still_same : Still old seen plan g → (which : Which) (xs : List ℕ) → Same (layout old seen plan g) which base xs
        → Same (layout old seen plan g) which old xs
    still_same still which xs same = subst (λ i. Same (layout old seen plan g) which i xs) (b.still still) same

    -- as long as both places stay, the image shows what it showed
    shows_still : (xs : List ℕ) → length xs ≡ 512 * plan.target → Same (layout old seen plan g) Primary base xs
        → Same (layout old seen plan g) Backup base xs
        → shown plan.goal.sector xs ≡ shown plan.goal.sector old
    unfolding shown
    shows_still xs long p q = by_stance (stance old seen plan g) where
      by_stance : Stance old seen plan g → first_told (told_at plan.goal.sector xs Primary) (told_at plan.goal.sector xs Backup)
          ≡ first_told (told_at plan.goal.sector old Primary) (told_at plan.goal.sector old Backup)
      by_stance (stands_primary is tells) =
          ap (λ t. first_told t (told_at plan.goal.sector xs Backup)) (primary_stands tells xs long p)
          ∙ sym (shown_first old seen plan g tells)
      by_stance (stands_backup is primary backup was) =
          let still = not_primary origins.Backup is (λ e. cc) in
          ap (λ t. first_told t (told_at plan.goal.sector xs Backup)) (primary still xs long (still_same still Primary xs p))
          ∙ backup still xs long (still_same still Backup xs q) ∙ sym was
      by_stance (stands_neither is primary backup was) =
          let still = not_primary origins.Neither is (λ e. cc) in
          ap (λ t. first_told t (told_at plan.goal.sector xs Backup)) (primary still xs long (still_same still Primary xs p))
          ∙ backup still xs long (still_same still Backup xs q) ∙ sym was

    -- what is known of the places, by the order of the copies
    case_of : (late : List (List Call)) (late_calm : EachBlock (Calm (layout old seen plan g)) late) (order : List Which)
        → IsOrder seen plan order
        → Case (layout old seen plan g) (λ c. IsInOldRow seen c) calm plan.goal (shown plan.goal.sector old)
        (opened old seen plan g) late late_calm base order
    case_of late late_calm order (primary_last other is) = by_stance (stance old seen plan g) where
      by_stance : Stance old seen plan g → Case (layout old seen plan g) (λ c. IsInOldRow seen c) calm plan.goal
          (shown plan.goal.sector old) (opened old seen plan g) late late_calm base order
      by_stance (stands_primary here tells) = by_primary (shows seen.shown) tt (λ xs long same. primary_stands tells xs long same)
          (shown_first old seen plan g tells) is
      by_stance (stands_backup here primary backup was) = absurd (other here)
      by_stance (stands_neither here primary backup was) =
          let still = not_primary origins.Neither here (λ e. cc) in
          by_none (λ xs long same. primary still xs long (still_same still Primary xs same))
          (λ xs long same. backup still xs long (still_same still Backup xs same)) was is
    case_of late late_calm order (backup_last here is) = by_stance (stance old seen plan g) where
      by_stance : Stance old seen plan g → Case (layout old seen plan g) (λ c. IsInOldRow seen c) calm plan.goal
          (shown plan.goal.sector old) (opened old seen plan g) late late_calm base order
      by_stance (stands_primary other tells) = let e : origins.Primary ≡ origins.Backup = sym other ∙ here in absurd (cc)
      by_stance (stands_backup same primary backup was) =
          let still = not_primary origins.Backup here (λ e. cc) in
          by_backup (shows seen.shown) (λ xs long same. primary still xs long (still_same still Primary xs same))
          (λ xs long same. backup still xs long (still_same still Backup xs same)) was is
      by_stance (stands_neither other primary backup was) = let e : origins.Neither ≡ origins.Backup = sym other ∙ here in absurd (cc)
    case_of late late_calm order (primary_alone unchanged same is) = by_stance (stance old seen plan g) where
      has : HasGoal (layout old seen plan g) Backup base
      has = subst (λ i. HasGoal (layout old seen plan g) Backup i) (sym (b.still unchanged.target))
          (backup_held old seen plan g unchanged same)

      by_stance : Stance old seen plan g → Case (layout old seen plan g) (λ c. IsInOldRow seen c) calm plan.goal
          (shown plan.goal.sector old) (opened old seen plan g) late late_calm base order
      by_stance (stands_primary here tells) = only_primary (shows seen.shown) nothing has
          (λ xs long same. primary_stands tells xs long same) (shown_first old seen plan g tells) is
      by_stance (stands_backup here primary backup was) =
          only_primary nothing (shows seen.shown) has (λ xs long same. primary unchanged.target xs long
          (still_same unchanged.target Primary xs same)) was is
      by_stance (stands_neither here primary backup was) = absurd (unchanged.origin here)
    case_of late late_calm order (backup_alone unchanged same is) =
        only_backup (subst (λ i. HasGoal (layout old seen plan g) Primary i) (sym (b.still unchanged.target))
        (primary_held old seen plan g unchanged same)) is
    case_of late late_calm order (no_copy unchanged same same' is) =
        neither (subst (λ i. HasGoal (layout old seen plan g) Primary i) (sym (b.still unchanged.target))
        (primary_held old seen plan g unchanged same)) is

    -- the new rows behind the contents, whatever others wrote
    filled_news : (body : List Call) → Each (IsInNewRow plan) body → (part : List Event) → ours part ≡ body
        → Each (IsInOldRow seen) (others part)
        → SameNews (layout old seen plan g) (all_done (grown old plan) body) (all_done base (calls_of part))
    filled_news body each part is others_in at n range =
        let m = 512 * plan.target in
        let between = (layout old seen plan g).news at n range in
        let high = between.1 in
        let backup = (order old seen plan g).backup in
        let end = (order old seen plan g).end in
        let fits : at + n ≤ 512 * plan.target = omega (arith, target_long old seen plan g) in
        let inside_body : Each (Inside (512 * plan.target)) body =
        Each-imp (IsInNewRow plan) (Inside (512 * plan.target)) (λ c o. (body_steady old seen plan g c o).inside) body each in
        let inside : Each (Inside (512 * plan.target)) (calls_of part) =
        each_call (Inside (512 * plan.target)) part (subst (Each (Inside (512 * plan.target))) (sym is) inside_body)
        (Each-imp (IsInOldRow seen) (Inside (512 * plan.target)) (λ c o. (calm c o).steady.inside) (others part) others_in) in
        let long_grown = length-grown old plan (grows old seen plan g) in
        let inside_ours : Each (Inside (512 * plan.target)) (ours part) =
        subst (Each (Inside (512 * plan.target))) (sym is) inside_body in
        ours_range (512 * plan.target) at n part base (grown old plan) fits b.len long_grown
        (length-all_done (calls_of part) base (512 * plan.target) b.len inside)
        (length-all_done (ours part) (grown old plan) (512 * plan.target) long_grown inside_ours) inside
        (Each-imp (IsInOldRow seen) (Apart at n) (λ c o. (calm c o).news at n range) (others part) others_in) (b.news at n range)
        ∙ ap (λ l. bytes_at (all_done (grown old plan) l) at n) is

  -- what a stop shows: the old table or the goal, and where the goal, what the contents left in new rows
  pub record Shows (body : List Call) (new : List ℕ) : Type 0 where
    pub either : ShowsEither plan.goal.sector old plan new
    pub news : shown plan.goal.sector new ≡ shows plan.goal → shown plan.goal.sector old ≢ shows plan.goal
        → SameNews (layout old seen plan g) (all_done (grown old plan) body) new

  from_growth : (body : List Call) (new : List ℕ) → InGrowth old seen plan g new → Shows body new
  unfolding shown
  from_growth body new in_growth =
      let same : shown plan.goal.sector new ≡ shown plan.goal.sector old =
      ap (λ t. first_told t (told_at plan.goal.sector new Backup)) in_growth.tells ∙ sym (shown_first old seen plan g in_growth.before) in
      record {
        either = record {
          len = in_growth.len;
          table = inl same;
          accepted = λ fault e. not_refused old seen plan g fault (sym same ∙ e);
        };
        news = λ goal other. absurd (other (sym same ∙ goal));
      }

  from_outcome : (body : List Call) (new : List ℕ) → Outcome (layout old seen plan g) (λ c. IsInOldRow seen c) calm plan.goal
      (shown plan.goal.sector old) (opened old seen plan g) (all_done (grown old plan) body) new → Shows body new
  from_outcome body new outcome = record {
    either = record {
      len = inr outcome.len;
      table = elim outcome.shows_it [ inl same ↦ inl same | inr goal ↦ inr goal.0 ];
      accepted = λ fault e. elim outcome.shows_it [
        | inl same ↦ not_refused old seen plan g fault (sym same ∙ e)
        | inr goal ↦ let both : shows plan.goal ≡ refuses fault = sym goal.0 ∙ e in cc
      ];
    };
    news = λ goal other. elim outcome.shows_it [ inl same ↦ absurd (other (sym same ∙ goal)) | inr is ↦ is.1 ];
  }

  -- each stage
  pub stage_shows : (body : List Call) (order : List Which) (mbr : List (List Call)) → Each (IsInNewRow plan) body
      → IsOrder seen plan order → IsMbrPart seen plan mbr → (new : List ℕ)
      → Stages plan.goal.sector (IsInOldRow seen) old (growth seen plan ++ (contents_blocks body ++ (copies plan order ++ mbr))) new
      → Shows body new
  stage_shows body order mbr each ordered part new stages =
      elim (growth_stages old seen plan g tells (contents_blocks body ++ (copies plan order ++ mbr)) new stages) [
        | inl in_growth ↦ from_growth body new in_growth
        | inr behind ↦
            let base = behind.0 in
            let b = behind.1 in
            let late_calm = mbr_blocks_calm mbr part in
            let P : List (List Call) → Type 0 = λ l. Stages plan.goal.sector (λ c. IsInOldRow seen c) behind.0
            (contents_blocks body ++ (l ++ mbr)) new in
            from_outcome body new
            (contents_outcome (layout old seen plan g) (λ c. IsInOldRow seen c) calm plan.goal (shown plan.goal.sector old)
            (opened old seen plan g) mbr late_calm body
            (Each-imp (IsInNewRow plan) (Steady (layout old seen plan g)) (λ c o. body_steady old seen plan g c o) body each)
            (all_done (grown old plan) body) behind.0 new order b.len
            (λ part is others_in. filled_news behind.0 behind.1 body each part is others_in)
            (λ xs long p q. shows_still behind.0 behind.1 xs long p q)
            (case_of behind.0 behind.1 mbr late_calm order ordered) (subst P (copies_same order) behind.2))
      ]
    where
      tells : seen.origin ≡ origins.Primary → told_at plan.goal.sector old Primary ≡ shows seen.shown
      tells is = subst (λ o. TellBy o plan.goal.sector old seen.shown) is g.seen_of.tell
