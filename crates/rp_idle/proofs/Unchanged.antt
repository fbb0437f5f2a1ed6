-- A plan without steps leaves the table as it is.
use Rattle.std.proofs.Common.{◌≡◌, Bool, true, false, ◌||◌, not, List, [], ◌∷◌, ◌++◌, filter, flat_map, refl}
use Rattle.rp_base.specs.declared.geometry.Which.{Which}
use Rattle.rp_base.specs.declared.geometry.Which.TheVariants.{Primary, Backup}
use Rattle.rp_base.specs.declared.plan.Plan.{Plan}
use Rattle.rp_base.specs.declared.seen.Origin.{Origin}
use Rattle.rp_base.specs.declared.seen.Origin.TheVariants as origins
use Rattle.rp_base.specs.declared.seen.Seen.{Seen}
use Rattle.rp_steps.specs.Steps.{contents_steps, copy_order, copy_phases, growth, is_same, mbr_phases, phase_of, phases, steps, synced, writes_both, written_copies}
use Rattle.rp_steps.specs.declared.step.Step.{Step}
use Rattle.rp_steps.specs.declared.step.Step.TheVariants.{Sync}
use Rattle.rp_steps.proofs.SameLemmas.{same_table-Decides}

none_of : {X : Type 0} (xs ys : List X) → xs ++ ys ≡ [] → (xs ≡ []) × (ys ≡ [])
none_of [] ys e = (refl, e)
none_of (x ∷ xs) ys e = absurd (cc)

no_phase : (phases : List (List Step)) → synced phases ≡ [] → phases ≡ []
no_phase [] e = refl
no_phase (phase ∷ phases) e = absurd (
    let first : phase ++ Sync ∷ [] ≡ [] = (none_of (phase ++ Sync ∷ []) (synced phases) e).0 in
    let last : Sync ∷ [] ≡ [] = (none_of phase (Sync ∷ []) first).1 in
    cc
    )

no_copy : (copies : List Which) → flat_map copy_phases copies ≡ [] → copies ≡ []
no_copy [] e = refl
no_copy (Primary ∷ copies) e = absurd (cc)
no_copy (Backup ∷ copies) e = absurd (cc)

one_alone : (seen : Seen) (both : Bool) (origin : Origin) → filter (λ which. both || not (is_same seen which)) (copy_order origin) ≡ [] → both ≡ false
one_alone seen false origin e = refl
one_alone seen true origins.Primary e = absurd (cc)
one_alone seen true origins.Backup e = absurd (cc)
one_alone seen true origins.Neither e = absurd (cc)

first_holds : (a b c : Bool) → (not a || not b || c) ≡ false → a ≡ true
first_holds true b c e = refl
first_holds false b c e = absurd (cc)

module _ (plan : Plan) (seen : Seen) (none : steps plan seen ≡ []) where
  no_copies : written_copies plan seen ≡ []
  unfolding steps phases
  no_copies =
      let all = no_phase (phases plan seen) none in
      let before_mbr = (none_of (growth plan seen ++ phase_of (contents_steps plan) ++ flat_map copy_phases (written_copies plan seen))
      (mbr_phases plan seen) all).0 in
      no_copy (written_copies plan seen)
      (none_of (growth plan seen ++ phase_of (contents_steps plan)) (flat_map copy_phases (written_copies plan seen)) before_mbr).1

  not_both : writes_both plan seen ≡ false
  unfolding written_copies
  not_both = one_alone seen (writes_both plan seen) seen.origin no_copies

  pub table_stays : plan.goal ≡ seen.shown
  unfolding writes_both
  table_stays = (same_table-Decides plan.goal seen.shown).0 (first_holds _ _ _ not_both)
