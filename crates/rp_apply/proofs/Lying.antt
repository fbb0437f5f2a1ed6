-- The calls of a plan lie in the disk.
use Rattle.std.proofs.Common.{◌≡◌, ℕ, ◌+◌, ◌*◌, ◌≤◌, Bool, true, false, cond, ltb, List, [], ◌∷◌, ◌++◌, flat_map, refl, sym, ap, ◌∙◌, subst, arith, All, append_assoc}
use Rattle.std.proofs.lemmas.Bool.{ltb-false}
use Rattle.std.proofs.lemmas.List.Elements.{All-cons, All-head, All-nil, All-tail}
use Rattle.rp_base.specs.Plan.{IsWellFormed, Noted}
use Rattle.rp_base.specs.declared.plan.Plan.{Plan}
use Rattle.rp_base.specs.declared.plan.Role.{Role}
use Rattle.rp_base.specs.declared.plan.Role.TheVariants.{Plain, Data, Hash}
use Rattle.rp_base.specs.declared.seen.Seen.{Seen}
use Rattle.rp_step.specs.Found.{LiesIn}
use Rattle.rp_step.specs.Run.{AllLieIn, size_after}
use Rattle.rp_steps.specs.Planned.{HasRoom}
use Rattle.rp_steps.specs.Steps.{byte_count, byte_of_slot, contents_steps, copy_phases, from_byte, growth, mbr_phases, phase_of, phases, steps, synced, tree_steps, written_copies}
use Rattle.rp_steps.specs.declared.step.Step.{Step}
use Rattle.rp_steps.specs.declared.step.Step.TheVariants.{Grow, Tree}
use Rattle.rp_apply.proofs.Can.{IsRow, are_rows, partner_at, row_inside}
use Rattle.rp_apply.proofs.Every.{every_step}
use Rattle.rp_apply.proofs.Parts.{OfRange, payload_each, zeros_each}
use Rattle.rp_apply.proofs.Roots.{all_right}
use Rattle.rp_steps.proofs.Copying.{synced-append}

-- a step lies in the target, which it leaves in its length
abbrev LiesHere : Plan → Step → Type 0
LiesHere plan step = LiesIn plan (512 * plan.target) step × (size_after (512 * plan.target) step ≡ 512 * plan.target)

here : (plan : Plan) (low high : ℕ) → high ≤ 512 * plan.target → OfRange (LiesHere plan) low high
here plan low high fits = record {
  zero = λ at len some from to. (omega (arith, fits, to), refl);
  copy = λ file at len some from to. (omega (arith, fits, to), refl);
}

all_lie : (plan : Plan) (size : ℕ) (steps : List Step) → size ≡ 512 * plan.target → All (LiesHere plan) steps → AllLieIn plan size steps
all_lie plan size [] is lie = tt
all_lie plan size (step ∷ steps) is lie =
    let one = All-head (LiesHere plan) step steps lie in
    let P : ℕ → Type 0 = λ n. LiesIn plan n step in
    (subst P (sym is) one.0, all_lie plan (size_after size step) steps (ap (λ (n : ℕ). size_after n step) is ∙ one.1) (All-tail (LiesHere plan) step steps lie))

module _ (seen : Seen) (plan : Plan) (formed : IsWellFormed seen plan) where
  tree_here : (noted : Noted) (role : Role) → noted.1.role ≡ role → IsRow seen plan formed noted → All (LiesHere plan) (tree_steps plan.goal.rows noted.0 role)
  unfolding tree_steps
  tree_here noted Plain is row = All-nil (LiesHere plan)
  tree_here noted (Data partner root) is row = All-nil (LiesHere plan)
  tree_here noted (Hash partner blocks salt uuid root) is row =
      let p = partner_at seen plan formed noted row partner blocks salt uuid root is in
      let of = are_rows seen plan formed p.place p.under p.below in
      let u : IsRow seen plan formed p.under = subst (λ (n : Noted). IsRow seen plan formed n) p.is of in
      let room : HasRoom noted.0 (Hash partner blocks salt uuid root) = subst (λ (r : Role). HasRoom noted.0 r) is row.planned_is.tree in
      let under = row_inside seen plan formed p.under u in
      let fits = row_inside seen plan formed noted row in
      let at = p.at in
      let whole = p.whole in
      let few = room.2 in
      All-cons (LiesHere plan) (Tree (byte_of_slot plan.goal.rows partner) (from_byte noted.0) blocks salt uuid root) _
      ((omega (arith, at, whole, under), omega (arith, few, fits)), refl)
      (zeros_each (LiesHere plan) (from_byte noted.0) (from_byte noted.0 + byte_count noted.0) (here plan _ _ fits) _ _ (omega arith) (omega (arith, few)))

  lie_here : All (LiesHere plan) (steps plan seen)
  lie_here = every_step (LiesHere plan) plan (IsRow seen plan formed) record {
    sync = (tt, refl);
    grow = (tt, refl);
    mbr = (omega arith, refl);
    primary = ((omega arith, refl), (omega arith, refl), (omega arith, refl));
    backup = ((omega arith, refl), (omega arith, refl), (omega arith, refl));
    payload = λ noted row. payload_each (LiesHere plan) noted noted.1.role row.planned_is.source (here plan _ _ (row_inside seen plan formed noted row));
    tree = λ noted row. tree_here noted noted.1.role refl row;
  } seen (are_rows seen plan formed)

  front_lies : (b : Bool) → ltb seen.sectors plan.target ≡ b → (rest : List Step) → All (LiesHere plan) rest
      → AllLieIn plan (512 * seen.sectors) (synced (cond b ((Grow (512 * plan.target) ∷ []) ∷ []) []) ++ rest)
  front_lies true grows rest lie = (tt, (tt, all_lie plan (512 * plan.target) rest refl lie))
  front_lies false stays rest lie =
      let few = ltb-false seen.sectors plan.target stays in
      let least = formed.target.least in
      all_lie plan (512 * seen.sectors) rest (omega (arith, few, least)) lie

  -- the calls of a plan lie in a disk of the length that was seen
  pub lies : AllLieIn plan (512 * seen.sectors) (steps plan seen)
  unfolding steps phases growth
  lies =
      let c = phase_of (contents_steps plan) in
      let k = flat_map copy_phases (written_copies plan seen) in
      let m = mbr_phases plan seen in
      let rest = (c ++ k) ++ m in
      let split : steps plan seen ≡ synced (growth plan seen) ++ synced rest =
      ap synced (append_assoc (growth plan seen ++ c) k m ∙ append_assoc (growth plan seen) c (k ++ m)
      ∙ ap (λ (l : List (List Step)). growth plan seen ++ l) (sym (append_assoc c k m)))
      ∙ synced-append (growth plan seen) rest in
      subst (λ (l : List Step). AllLieIn plan (512 * seen.sectors) l) (sym split)
      (front_lies (ltb seen.sectors plan.target) refl (synced rest)
      (all_right (LiesHere plan) (synced (growth plan seen)) (synced rest) (subst (λ (l : List Step). All (LiesHere plan) l) split lie_here)))
