-- Steps of phases, and of the copies that are written.
use Rattle.std.proofs.Common.{◌≡◌, Bool, true, false, List, [], ◌∷◌, ◌++◌, length, refl, sym, ap, ◌∙◌, arith, append_assoc, filter, flat_map}
use Rattle.std.proofs.lemmas.Grind.{flat_map-append}
use Rattle.std.proofs.lemmas.List.{append-nil, length-append}
use Rattle.rp_base.specs.declared.geometry.Which.{Which}
use Rattle.rp_steps.specs.Steps.{copy_phases, phase_of, synced}
use Rattle.rp_steps.specs.declared.step.Step.{Step}
use Rattle.rp_steps.specs.declared.step.Step.TheVariants.{Sync}

pub synced-append : (xs ys : List (List Step)) → synced (xs ++ ys) ≡ synced xs ++ synced ys
synced-append xs ys = flat_map-append (λ phase. phase ++ Sync ∷ []) xs ys

-- the copies of two places, each by itself
cond-append : (test : Which → Bool) (a b : Which) (x : Bool) → test a ≡ x
    → filter test (a ∷ b ∷ []) ≡ filter test (a ∷ []) ++ filter test (b ∷ [])
cond-append test a b true is = rw is refl
cond-append test a b false is = rw is refl

pub two_copies : (test : Which → Bool) (a b : Which)
    → synced (flat_map copy_phases (filter test (a ∷ b ∷ [])))
    ≡ synced (flat_map copy_phases (filter test (a ∷ []))) ++ synced (flat_map copy_phases (filter test (b ∷ [])))
two_copies test a b =
    ap (λ l. synced (flat_map copy_phases l)) (cond-append test a b (test a) refl)
    ∙ ap synced (flat_map-append copy_phases (filter test (a ∷ [])) (filter test (b ∷ [])))
    ∙ synced-append (flat_map copy_phases (filter test (a ∷ []))) (flat_map copy_phases (filter test (b ∷ [])))

-- the copies of an order of two, one after the other
pub copies_added : (test : Which → Bool) (order : List Which) (a b : Which) (old mid new : List Step) → a ∷ b ∷ [] ≡ order
    → mid ≡ old ++ synced (flat_map copy_phases (filter test (a ∷ []))) → new ≡ mid ++ synced (flat_map copy_phases (filter test (b ∷ [])))
    → new ≡ old ++ synced (flat_map copy_phases (filter test order))
copies_added test order a b old mid new is first second =
    second ∙ ap (λ l. l ++ synced (flat_map copy_phases (filter test (b ∷ [])))) first ∙ append_assoc old _ _
    ∙ ap (λ l. old ++ l) (sym (two_copies test a b)) ∙ ap (λ o. old ++ synced (flat_map copy_phases (filter test o))) is

-- where nothing was added, the phase has no steps
nothing_added : (old more : List Step) → length (old ++ more) ≡ length old → more ≡ []
nothing_added old [] same = refl
nothing_added old (x ∷ more) same = absurd (omega (arith, length-append old (x ∷ more), same))

pub phase_none : (old a b new : List Step) → new ≡ (old ++ a) ++ b → length new ≡ length old → new ≡ old ++ synced (phase_of (a ++ b))
phase_none old a b new is same =
    let joined : new ≡ old ++ (a ++ b) = is ∙ append_assoc old a b in
    let none : a ++ b ≡ [] = nothing_added old (a ++ b) (sym (ap length joined) ∙ same) in
    joined ∙ ap (λ l. old ++ l) (none ∙ sym (ap (λ l. synced (phase_of l)) none))

a_phase : (old steps : List Step) → (length (old ++ steps) ≡ length old → ⊥) → (old ++ steps) ++ Sync ∷ [] ≡ old ++ synced (phase_of steps)
a_phase old [] more = absurd (more (ap length (append-nil old)))
a_phase old (x ∷ steps) more = append_assoc old (x ∷ steps) (Sync ∷ []) ∙ ap (λ l. old ++ l) (sym (append-nil ((x ∷ steps) ++ Sync ∷ [])))

pub phase_some : (old a b new : List Step) → new ≡ (old ++ a) ++ b → (length new ≡ length old → ⊥)
    → new ++ Sync ∷ [] ≡ old ++ synced (phase_of (a ++ b))
phase_some old a b new is more =
    let joined : new ≡ old ++ (a ++ b) = is ∙ append_assoc old a b in
    ap (λ l. l ++ Sync ∷ []) joined ∙ a_phase old (a ++ b) (λ same. more (ap length joined ∙ same))

-- parts of all phases, one after another
pub part_added : (a b : List (List Step)) (old new : List Step) → old ≡ synced a → new ≡ old ++ synced b → new ≡ synced (a ++ b)
part_added a b old new first second = second ∙ ap (λ l. l ++ synced b) first ∙ sym (synced-append a b)
