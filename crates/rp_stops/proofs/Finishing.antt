-- What all of a plan's calls, done whole, give.
use Rattle.std.proofs.Common.{◌≡◌, ℕ, ◌-◌, ◌*◌, ◌≤◌, Bool, true, false, cond, List, [], ◌∷◌, ◌++◌, length, replicate, refl, sym, ap, ◌∙◌, subst, arith, append-nil}
use Rattle.std.specs.Prelude.{nat_lt}
use Rattle.std.proofs.lemmas.Bool.{ltb-false}
use Rattle.std.proofs.lemmas.List.{take_all}
use Rattle.rp_base.specs.declared.geometry.Which.{Which}
use Rattle.rp_base.specs.declared.geometry.Which.TheVariants.{Primary, Backup}
use Rattle.rp_base.specs.declared.plan.Plan.{Plan}
use Rattle.rp_base.specs.declared.seen.Seen.{Seen}
use Rattle.rp_disk.specs.declared.call.Call.{Call}
use Rattle.rp_disk.specs.declared.call.Call.TheVariants.{SetLen}
use Rattle.rp_disk.specs.Blocks.{blocks_done}
use Rattle.rp_disk.specs.Calls.{all_done}
use Rattle.rp_disk.specs.Stops.{Each}
use Rattle.rp_disk.proofs.Blocks.{Each-imp, all_done-flat}
use Rattle.rp_stops.specs.Order.{AreCallsOf, IsMbrPart, written, left, IsOrder, primary_last, backup_last, primary_alone, backup_alone, no_copy, contents_blocks, copies, copy_blocks, growth, mbr_call}
use Rattle.rp_stops.specs.Rows.{IsInNewRow, IsInOldRow, grown}
use Rattle.rp_stops.proofs.Cells.{Calm, HasGoal, Same, SameNews, Steady, news-then, same-goal, steady_same, calm_news, whole, kept_length}
use Rattle.rp_stops.proofs.Copying.{After, copy_done}
use Rattle.rp_stops.proofs.Given.{Given, grows, layout}
use Rattle.rp_stops.proofs.Growing.{length-grown}
use Rattle.rp_stops.proofs.Known.{Still, backup_held, primary_held, still_long}
use Rattle.rp_stops.proofs.Writes.{body_steady, mbr_calm, others_calm}

pub blocks_done-append : (image : List ℕ) (xs ys : List (List Call))
    → blocks_done image (xs ++ ys) ≡ blocks_done (blocks_done image xs) ys
blocks_done-append image [] ys = refl
blocks_done-append image (x ∷ xs) ys = blocks_done-append (all_done image x) xs ys

module _ (old : List ℕ) (seen : Seen) (plan : Plan) (g : Given old seen plan) where
  -- where nothing grows, the image is as it is
  pub still_grown : Still old seen plan g → grown old plan ≡ old
  still_grown still =
      let same : 512 * plan.target - length old ≡ 0 = (let long = still_long old seen plan g still in omega arith) in
      ap (λ (n : ℕ). old ++ replicate n 0) same ∙ append-nil old

  -- the growth by itself
  pub growth_done : blocks_done old (growth seen plan) ≡ grown old plan
  growth_done = by_growth (nat_lt seen.sectors plan.target) refl where
    by_growth : (b : Bool) → nat_lt seen.sectors plan.target ≡ b
        → blocks_done old (cond b ((SetLen (512 * plan.target) ∷ []) ∷ []) []) ≡ grown old plan
    by_growth true is = ap (λ (xs : List ℕ). xs ++ replicate (512 * plan.target - length old) 0)
        (take_all (512 * plan.target) old (grows old seen plan g))
    by_growth false is =
        let more : plan.target ≤ seen.sectors = ltb-false seen.sectors plan.target is in
        let le = g.fits.well_formed.target.least in
        sym (still_grown (omega arith))

  grown_long : length (grown old plan) ≡ 512 * plan.target
  grown_long = length-grown old plan (grows old seen plan g)

  module _ (body calls : List Call) (are : AreCallsOf seen plan body calls) where
    pub filled_is : blocks_done (grown old plan) (contents_blocks body) ≡ all_done (grown old plan) body
    filled_is = by_body body where
      by_body : (body : List Call) → blocks_done (grown old plan) (contents_blocks body) ≡ all_done (grown old plan) body
      by_body [] = refl
      by_body (call ∷ body) = refl

    -- the calls by their parts
    pub all_parts : all_done old calls ≡ blocks_done (blocks_done (all_done (grown old plan) body) (copies plan are.order)) are.mbr
    all_parts =
        ap (all_done old) are.are ∙ all_done-flat old (growth seen plan ++ (contents_blocks body ++ (copies plan are.order ++ are.mbr)))
        ∙ blocks_done-append old (growth seen plan) (contents_blocks body ++ (copies plan are.order ++ are.mbr))
        ∙ ap (λ i. blocks_done i (contents_blocks body ++ (copies plan are.order ++ are.mbr))) growth_done
        ∙ blocks_done-append (grown old plan) (contents_blocks body) (copies plan are.order ++ are.mbr)
        ∙ ap (λ i. blocks_done i (copies plan are.order ++ are.mbr)) filled_is
        ∙ blocks_done-append (all_done (grown old plan) body) (copies plan are.order) are.mbr

    body_steady_each : Each (Steady (layout old seen plan g)) body
    body_steady_each = Each-imp (IsInNewRow plan) (Steady (layout old seen plan g))
        (λ c o. body_steady old seen plan g c o) body are.inside

    pub filled_long : length (all_done (grown old plan) body) ≡ 512 * plan.target
    filled_long = kept_length (layout old seen plan g) (Steady (layout old seen plan g)) (λ c s. s.inside) (grown old plan) body
        (all_done (grown old plan) body) grown_long body_steady_each
        (whole (layout old seen plan g) (Steady (layout old seen plan g)) (λ c s. s.inside)
        (grown old plan) body grown_long body_steady_each)

    filled_same : (which : Which) → Same (layout old seen plan g) which (grown old plan) (all_done (grown old plan) body)
    filled_same which = steady_same (layout old seen plan g) which (grown old plan) body
        (all_done (grown old plan) body) grown_long body_steady_each
        (whole (layout old seen plan g) (Steady (layout old seen plan g)) (λ c s. s.inside)
        (grown old plan) body grown_long body_steady_each)

    -- both places have the goal, and the new rows are as they were filled
    pub record IsDone (image : List ℕ) : Type 0 where
      pub len : length image ≡ 512 * plan.target
      pub goals : (which : Which) → HasGoal (layout old seen plan g) which image
      pub news : SameNews (layout old seen plan g) (all_done (grown old plan) body) image

    calm : (call : Call) → IsInOldRow seen call → Calm (layout old seen plan g) call
    calm call o = others_calm old seen plan g call o

    copied : (which : Which) (image : List ℕ) → length image ≡ 512 * plan.target
        → After (layout old seen plan g) (λ c. IsInOldRow seen c) calm which image (blocks_done image (copy_blocks plan which))
    copied which image long = copy_done (layout old seen plan g) (λ c. IsInOldRow seen c) calm which image long

    held_filled : Still old seen plan g → (which : Which) → HasGoal (layout old seen plan g) which old
        → HasGoal (layout old seen plan g) which (all_done (grown old plan) body)
    held_filled still which has =
        same-goal (layout old seen plan g) which (grown old plan) (all_done (grown old plan) body) (filled_same which)
        (subst (λ i. HasGoal (layout old seen plan g) which i) (sym (still_grown still)) has)

    after_primary : (image : List ℕ) → length image ≡ 512 * plan.target → HasGoal (layout old seen plan g) Backup image
        → SameNews (layout old seen plan g) (all_done (grown old plan) body) image
        → IsDone (blocks_done image (copy_blocks plan Primary))
    after_primary image long has news =
        let after = copied Primary image long in record {
          len = after.keeps.len;
          goals = goals;
          news = news-then (layout old seen plan g) (all_done (grown old plan) body) image
              (blocks_done image (copy_blocks plan Primary)) news after.keeps.news;
        }
      where
        goals : (which : Which) → HasGoal (layout old seen plan g) which (blocks_done image (copy_blocks plan Primary))
        goals Primary = (copied Primary image long).goal
        goals Backup = same-goal (layout old seen plan g) Backup image (blocks_done image (copy_blocks plan Primary))
            (copied Primary image long).keeps.other has

    after_backup : (image : List ℕ) → length image ≡ 512 * plan.target → HasGoal (layout old seen plan g) Primary image
        → SameNews (layout old seen plan g) (all_done (grown old plan) body) image
        → IsDone (blocks_done image (copy_blocks plan Backup))
    after_backup image long has news =
        let after = copied Backup image long in record {
          len = after.keeps.len;
          goals = goals;
          news = news-then (layout old seen plan g) (all_done (grown old plan) body) image
              (blocks_done image (copy_blocks plan Backup)) news after.keeps.news;
        }
      where
        goals : (which : Which) → HasGoal (layout old seen plan g) which (blocks_done image (copy_blocks plan Backup))
        goals Primary = same-goal (layout old seen plan g) Primary image (blocks_done image (copy_blocks plan Backup))
            (copied Backup image long).keeps.other has
        goals Backup = (copied Backup image long).goal

    news_refl : SameNews (layout old seen plan g) (all_done (grown old plan) body) (all_done (grown old plan) body)
    news_refl at n range = refl

    pub copies_done : (places : List Which) → IsOrder seen plan places
        → IsDone (blocks_done (all_done (grown old plan) body) (copies plan places))
    copies_done places (primary_last other is) =
        let backup = copied Backup (all_done (grown old plan) body) filled_long in
        subst (λ ws. IsDone (blocks_done (all_done (grown old plan) body) (copies plan ws))) (sym is)
        (after_primary (blocks_done (all_done (grown old plan) body)
        (copy_blocks plan Backup)) backup.keeps.len backup.goal backup.keeps.news)
    copies_done places (backup_last other is) =
        let primary = copied Primary (all_done (grown old plan) body) filled_long in
        subst (λ ws. IsDone (blocks_done (all_done (grown old plan) body) (copies plan ws))) (sym is)
        (after_backup (blocks_done (all_done (grown old plan) body)
        (copy_blocks plan Primary)) primary.keeps.len primary.goal primary.keeps.news)
    copies_done places (primary_alone unchanged same is) =
        subst (λ ws. IsDone (blocks_done (all_done (grown old plan) body) (copies plan ws))) (sym is)
        (after_primary (all_done (grown old plan) body) filled_long
        (held_filled unchanged.target Backup (backup_held old seen plan g unchanged same)) news_refl)
    copies_done places (backup_alone unchanged same is) =
        subst (λ ws. IsDone (blocks_done (all_done (grown old plan) body) (copies plan ws))) (sym is)
        (after_backup (all_done (grown old plan) body) filled_long
        (held_filled unchanged.target Primary (primary_held old seen plan g unchanged same)) news_refl)
    copies_done places (no_copy unchanged same same' is) =
        subst (λ ws. IsDone (blocks_done (all_done (grown old plan) body) (copies plan ws))) (sym is)
        (record { len = filled_long; goals = goals; news = news_refl })
      where
        goals : (which : Which) → HasGoal (layout old seen plan g) which (all_done (grown old plan) body)
        goals Primary = held_filled unchanged.target Primary (primary_held old seen plan g unchanged same)
        goals Backup = held_filled unchanged.target Backup (backup_held old seen plan g unchanged same')

    mbr_done : (image : List ℕ) → IsDone image → IsDone (all_done image (mbr_call plan ∷ []))
    mbr_done image done =
        let each : Each (Calm (layout old seen plan g)) (mbr_call plan ∷ []) = (mbr_calm old seen plan g, tt) in
        let agrees = whole (layout old seen plan g) (Calm (layout old seen plan g)) (λ c q. q.steady.inside) image
        (mbr_call plan ∷ []) done.len each in record {
          len = kept_length (layout old seen plan g) (Calm (layout old seen plan g)) (λ c q. q.steady.inside) image (mbr_call plan ∷ [])
              (all_done image (mbr_call plan ∷ [])) done.len each agrees;
          goals = λ which. same-goal (layout old seen plan g) which image (all_done image (mbr_call plan ∷ []))
              (steady_same (layout old seen plan g) which image (mbr_call plan ∷ []) (all_done image (mbr_call plan ∷ [])) done.len
              (each.0.steady, tt) agrees) (done.goals which);
          news = news-then (layout old seen plan g) (all_done (grown old plan) body) image (all_done image (mbr_call plan ∷ [])) done.news
              (calm_news (layout old seen plan g) image (mbr_call plan ∷ []) (all_done image (mbr_call plan ∷ [])) done.len each agrees);
        }

    late_done : (image : List ℕ) → IsDone image → (blocks : List (List Call)) → IsMbrPart seen plan blocks
        → IsDone (blocks_done image blocks)
    late_done image done blocks (written foreign is) = subst (λ l. IsDone (blocks_done image l)) (sym is) (mbr_done image done)
    late_done image done blocks (left right is) = subst (λ l. IsDone (blocks_done image l)) (sym is) done

    -- all calls, done whole
    pub all_done-done : IsDone (all_done old calls)
    all_done-done = subst IsDone (sym all_parts) (late_done (blocks_done (all_done (grown old plan) body) (copies plan are.order))
        (copies_done are.order are.ordered) are.mbr are.mbr_part)
