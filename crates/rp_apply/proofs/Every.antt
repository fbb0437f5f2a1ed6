-- What holds of each step of a plan.
use Rattle.std.proofs.Common.{◌*◌, Bool, true, false, cond, ltb, List, [], ◌∷◌, ◌++◌, refl, sym, subst, arith, All, flat_map}
use Rattle.std.proofs.lemmas.List.Elements.{All-append, All-cons, All-filter, All-nil, All-tail}
use Rattle.rp_base.specs.Plan.{Noted, noted_of}
use Rattle.rp_base.specs.declared.geometry.Which.{Which}
use Rattle.rp_base.specs.declared.geometry.Which.TheVariants.{Primary, Backup}
use Rattle.rp_base.specs.declared.plan.Plan.{Plan}
use Rattle.rp_base.specs.declared.seen.Seen.{Seen}
use Rattle.rp_steps.specs.Steps.{contents_steps, copy_phases, growth, is_new, mbr_phases, new_rows, payload_steps, phase_of, phases, steps, synced, tree_steps, writes_mbr, written_copies}
use Rattle.rp_steps.specs.declared.step.Step.{Step}
use Rattle.rp_steps.specs.declared.step.Step.TheVariants.{Grow, ClosePrimary, ArrayPrimary, HeaderPrimary, CloseBackup, ArrayBackup, HeaderBackup, Mbr, Sync}
use Rattle.rp_steps.proofs.Copying.{part_added, synced-append}

-- what it takes that something holds of each step: it holds of those that no row has a part in, and of those of each row
pub record Everywhere (plan : Plan) (P : Step → Type 0) (Q : Noted → Type 0) : Type 0 where
  pub sync : P Sync
  pub grow : P (Grow (512 * plan.target))
  pub mbr : P Mbr
  pub primary : P ClosePrimary × P ArrayPrimary × P HeaderPrimary
  pub backup : P CloseBackup × P ArrayBackup × P HeaderBackup
  pub payload : (noted : Noted) → Q noted → All P (payload_steps noted noted.1.role)
  pub tree : (noted : Noted) → Q noted → All P (tree_steps plan.goal.rows noted.0 noted.1.role)

module _ (P : Step → Type 0) where
  one : (step : Step) → P step → All P (step ∷ [])
  one step p = All-cons P step [] p (All-nil P)

  each_of : {X : Type 0} (Q : X → Type 0) (f : X → List Step) → ((x : X) → Q x → All P (f x)) → (xs : List X) → All Q xs → All P (flat_map f xs)
  each_of Q f each [] holds = All-nil P
  each_of Q f each (x ∷ xs) holds =
      All-append P (f x) (flat_map f xs) (each x (holds 0 x (omega arith))) (each_of Q f each xs (All-tail Q x xs holds))

  phase : P Sync → (steps : List Step) → All P steps → All P (synced (phase_of steps))
  phase sync [] all = All-nil P
  phase sync (step ∷ steps) all =
      All-append P ((step ∷ steps) ++ Sync ∷ []) [] (All-append P (step ∷ steps) (Sync ∷ []) all (one Sync sync)) (All-nil P)

  single : P Sync → (step : Step) → P step → (b : Bool) → All P (synced (cond b ((step ∷ []) ∷ []) []))
  single sync step p true = All-cons P step (Sync ∷ []) p (one Sync sync)
  single sync step p false = All-nil P

  pair : P Sync → (step : Step) (steps : List Step) → P step → All P steps → All P (step ∷ Sync ∷ steps)
  pair sync step steps p all = All-cons P step (Sync ∷ steps) p (All-cons P Sync steps sync all)

  three : P Sync → (a b c : Step) → P a × P b × P c → All P (a ∷ Sync ∷ b ∷ Sync ∷ c ∷ Sync ∷ [])
  three sync a b c all =
      pair sync a (b ∷ Sync ∷ c ∷ Sync ∷ []) all.0 (pair sync b (c ∷ Sync ∷ []) all.1 (pair sync c [] all.2 (All-nil P)))

  module _ (plan : Plan) (Q : Noted → Type 0) (e : Everywhere plan P Q) where
    copy : (which : Which) → All P (synced (copy_phases which))
    copy Primary = three e.sync ClosePrimary ArrayPrimary HeaderPrimary e.primary
    copy Backup = three e.sync CloseBackup ArrayBackup HeaderBackup e.backup

    pub copies : (order : List Which) → All P (synced (flat_map copy_phases order))
    copies [] = All-nil P
    copies (which ∷ order) =
        subst (λ (l : List Step). All P l) (sym (synced-append (copy_phases which) (flat_map copy_phases order)))
        (All-append P _ _ (copy which) (copies order))

    contents : All Q (noted_of plan) → All P (contents_steps plan)
    unfolding contents_steps
    contents all =
        let news = All-filter (λ (noted : Noted). is_new noted.1.change) Q (noted_of plan) all in
        All-append P _ _ (each_of Q (λ noted. payload_steps noted noted.1.role) e.payload (new_rows plan) news)
        (each_of Q (λ noted. tree_steps plan.goal.rows noted.0 noted.1.role) e.tree (new_rows plan) news)

    pub grown : (seen : Seen) → All P (synced (growth plan seen))
    unfolding growth
    grown seen = single e.sync (Grow (512 * plan.target)) e.grow (ltb seen.sectors plan.target)

    pub mbr : (seen : Seen) → All P (synced (mbr_phases plan seen))
    unfolding mbr_phases
    mbr seen = single e.sync Mbr e.mbr (writes_mbr plan seen seen.mbr)

    pub every_step : (seen : Seen) → All Q (noted_of plan) → All P (steps plan seen)
    unfolding steps phases
    every_step seen all =
        let order = written_copies plan seen in
        let one = part_added (growth plan seen) (phase_of (contents_steps plan)) _ _ refl refl in
        let two = part_added _ (flat_map copy_phases order) _ _ one refl in
        let three = part_added _ (mbr_phases plan seen) _ _ two refl in
        subst (λ (l : List Step). All P l) three
        (All-append P _ _ (All-append P _ _ (All-append P _ _ (grown seen) (phase e.sync (contents_steps plan) (contents all))) (copies order)) (mbr seen))
