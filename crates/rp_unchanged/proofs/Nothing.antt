-- A final image differs in nothing from what is planned for it again.
use Rattle.std.proofs.Common.{◌≡◌, ◌∙◌, ℕ, Bool, true, false, cond, List, [], get_or, Option, Some, None, IfSome, refl, ap, sym, subst}
use Rattle.std.specs.Prelude.{◌&&◌, nat_le, option_and_then, option_map}
use Rattle.rp_apply.specs.Sourced.{paths_of}
use Rattle.rp_base.specs.Plan.{IsPair, IsTarget, IsWellFormed, Noted, noted_of}
use Rattle.rp_base.specs.declared.guid.Guid.{Guid}
use Rattle.rp_base.specs.declared.plan.Plan.{Plan}
use Rattle.rp_base.specs.declared.seen.Seen.{Seen}
use Rattle.rp_base.specs.declared.table.Row.{Row}
use Rattle.rp_defs.specs.declared.definition.Definition.{Definition}
use Rattle.rp_difference.specs.Difference.{bad_of, difference, tree_difference}
use Rattle.rp_difference.specs.declared.difference.Difference.TheVariants as differences
use Rattle.rp_gpt.specs.declared.table_fault.Empty.{Empty}
use Rattle.rp_gpt.specs.declared.table_fault.Empty.TheVariants.{Require}
use Rattle.rp_headline.specs.Left.{ShowsGoal}
use Rattle.rp_idle.specs.Idle.{IsPlanned}
use Rattle.rp_idle.proofs.Public.{plan_for, plannable}
use Rattle.rp_io.specs.declared.stored.Stored.{Stored}
use Rattle.rp_roots.proofs.Public.{goal_has_roots}
use Rattle.rp_sizes.specs.Facts.{facts}
use Rattle.rp_sizes.specs.declared.need.Fact.{Fact}
use Rattle.rp_step.specs.Sourced.{sources_in}
use Rattle.rp_steps.specs.Contents.{NotesFit, contents}
use Rattle.rp_stops.specs.After.{seen_after}
use Rattle.rp_stops.specs.Final.{IsFinal}
use Rattle.rp_stops.specs.Rows.{grown}
use Rattle.rp_tree.specs.Checked.{first_bad}
use Rattle.rp_tree.specs.declared.bad.Bad.{Bad}
use Rattle.rp_types.specs.declared.arch.Arch.{Arch}
use Rattle.rp_types.specs.declared.arch.Designator.{Designator}
use Rattle.rp_types.specs.declared.arch.Designator.TheVariants.{Root, Usr}
use Rattle.rp_verdict.specs.Rows.{row_of, tree_row}
use Rattle.rp_unchanged.specs.Defined.{AreSteady, TakeHalves}
use Rattle.rp_unchanged.specs.Pairs.{HaveRightTrees}
use Rattle.rp_unchanged.specs.Unchanged.{ArePaired, DiffersInNothing, HasPairOf, HasPairs, IsPlannedAgain, IsUnchanged}
use Rattle.rp_unchanged.proofs.Again.{final_shows, seen_as_planned}
use Rattle.rp_unchanged.proofs.Blank.{no_rows, none_dropped}
use Rattle.rp_unchanged.proofs.Halves.{goal_has_root_ids}
use Rattle.rp_unchanged.proofs.Paired.{goal_has_pairs}
use Rattle.rp_unchanged.proofs.Sealed.{trees_right}

module _ (image : List ℕ) (arch : Arch) (plan : Plan) (right : HaveRightTrees plan image) where
  -- nothing is wrong of a pair of the plan
  paired_right : (payload hash : Row) → ArePaired plan payload hash → first_bad image payload hash ≡ None
  paired_right payload hash (i, first, near, is, (j, other, far, at, (pair, one, two))) =
      let P : Noted → Type 0 = λ n. IsPair n (get_or (noted_of plan) j other)
      → first_bad image n.0 (get_or (noted_of plan) j other).0 ≡ None in
      let Q : Noted → Type 0 = λ m. IsPair first m → first_bad image first.0 m.0 ≡ None in
      let found : first_bad image first.0 other.0 ≡ None = subst Q at (subst P is (right i first near j other far)) pair in
      sym (ap (λ (r : Row). first_bad image r other.0) one ∙ ap (first_bad image payload) two) ∙ found

  bad_by : (b : Bool) (o : Option Bad) → o ≡ None → cond b o None ≡ None
  bad_by true o is = is
  bad_by false o is = refl

  tree_by : (d : Designator) (payload hash : Option Row) → IfSome payload (λ p. IfSome hash (λ h. ArePaired plan p h))
      → option_map (differences.Tree d) (option_and_then (λ p. option_and_then (bad_of image p) hash) payload) ≡ None
  tree_by d None hash are = refl
  tree_by d (Some p) None are = refl
  tree_by d (Some p) (Some h) are =
      ap (option_map (differences.Tree d)) (bad_by (nat_le 8 p.size && nat_le 8 h.size) (first_bad image p h) (paired_right p h are))

  no_tree : (d : Designator) → HasPairOf arch plan d → tree_difference image arch plan.goal.rows d ≡ None
  unfolding tree_difference
  no_tree d has = tree_by d (row_of arch plan.goal.rows d) (tree_row arch plan.goal.rows d) has

  pub nothing : (seen : Seen) (defs : List Definition) (others : List Fact) (seed : Guid) → HasPairs arch plan
      → IsPlannedAgain (seen_after seen plan) defs others seed → DiffersInNothing image arch (seen_after seen plan) defs others seed
  unfolding difference
  nothing seen defs others seed has again = record {
    plan = again.plan;
    goal_is = again.goal_is;
    same = rw (again.same, no_tree Root has.0, no_tree Usr has.1) refl;
  }

module _ (sector : ℕ) (old : List ℕ) (empty : Empty) (seen : Seen) (target : ℕ) (defs : List Definition) (known : List Fact) (seed : Guid)
    (plan : Plan) (is : IsPlanned sector old empty seen target defs known seed plan) where
  pub unchanged : (image : List ℕ) (arch : Arch) → plan.dropped ≡ [] → ShowsGoal sector seen plan image → HaveRightTrees plan image
      → HasPairs arch plan → IsUnchanged sector image arch seen plan defs seed
  unchanged image arch whole shows right has =
      let planned = seen_as_planned sector old empty seen target defs known seed plan is image whole shows in
      record { shows = planned.shows; again = λ others. nothing image arch plan right seen defs others seed has (planned.again others) }

module _ (sector : ℕ) (old : List ℕ) (empty : Empty) (seen : Seen) (target : ℕ) (defs : List Definition) (files : List Stored) (seed : Guid)
    (plan : Plan) (is : IsPlanned sector old empty seen target defs (facts seed files seen.shown defs) seed plan) where
  pub final_trees : (image : List ℕ) → NotesFit plan → TakeHalves defs
      → IsFinal old seen plan (contents plan (sources_in files (paths_of defs)) (grown old plan)) image → HaveRightTrees plan image
  final_trees image fit takes final =
      let ready = plannable sector old empty seen is.of_sector is.seen_of in
      let aim : IsTarget seen.shown.sector seen.sectors target = rw ready.1 is.aim in
      let formed : IsWellFormed seen plan =
      (plan_for sector old empty seen target defs (facts seed files seen.shown defs) seed plan is).fits.well_formed in
      trees_right seen plan (sources_in files (paths_of defs)) (grown old plan) image formed fit
      (goal_has_roots seen target defs files seed plan ready.0 aim is.definitions is.goal_is)
      (goal_has_root_ids seen target defs (facts seed files seen.shown defs) seed plan ready.0 aim is.definitions is.known takes is.goal_is)
      final.rows

  pub final_unchanged : (image : List ℕ) (arch : Arch) → plan.dropped ≡ [] → NotesFit plan → TakeHalves defs
      → IsFinal old seen plan (contents plan (sources_in files (paths_of defs)) (grown old plan)) image
      → HasPairs arch plan → IsUnchanged sector image arch seen plan defs seed
  final_unchanged image arch whole fit takes final has =
      unchanged sector old empty seen target defs (facts seed files seen.shown defs) seed plan is image arch whole
      (final_shows sector old empty seen target defs (facts seed files seen.shown defs) seed plan is
      (sources_in files (paths_of defs)) image fit final)
      (final_trees image fit takes final) has

-- an image that showed no table
pub made_unchanged : (sector : ℕ) (old : List ℕ) (seen : Seen) (target : ℕ) (defs : List Definition) (files : List Stored) (seed : Guid)
    (plan : Plan) (image : List ℕ) (arch : Arch)
    → IsPlanned sector old Require seen target defs (facts seed files seen.shown defs) seed plan → NotesFit plan → AreSteady arch defs
    → IsFinal old seen plan (contents plan (sources_in files (paths_of defs)) (grown old plan)) image
    → (plan.dropped ≡ []) × IsUnchanged sector image arch seen plan defs seed
made_unchanged sector old seen target defs files seed plan image arch is fit steady final =
    let known = facts seed files seen.shown defs in
    let ready = plannable sector old Require seen is.of_sector is.seen_of in
    let aim : IsTarget seen.shown.sector seen.sectors target = rw ready.1 is.aim in
    let whole = none_dropped seen target defs known seed plan steady.kept is.goal_is in (
      whole,
      final_unchanged sector old Require seen target defs files seed plan is image arch whole fit steady.halves final
          (goal_has_pairs seen target defs known seed plan arch ready.0 aim is.definitions is.known is.goal_is
          (no_rows sector old seen is.seen_of) steady.sealed),
    )
