use Rattle.std.proofs.Common.{◌≡◌, ◌∙◌, ◌++◌, List, ap, flat_map, subst, sym}
use Rattle.rp_steps.specs.Steps.{contents_steps, copy_phases, growth, mbr_phases, phase_of, phases, steps, synced, written_copies}
use Rattle.rp_steps.specs.Writes.{AreCountable}
use Rattle.rp_steps.specs.declared.step.Step.{Step}
use Rattle.rp_steps.proofs.Copying.{part_added}
use Rattle.rp_steps.proofs.Counted.{countable}
use Rattle.rp_steps.proofs.Planned.{planned}
use Rattle.rp_steps.proofs.journal.steps_of.Goals as goal

pub push_contents-requires-clause-planned : goal.push_contents-requires-clause-planned
push_contents-requires-clause-planned c = planned c.args.seen.now c.args.plan.now c.requires

pub returns-clause-steps : goal.returns-clause-steps
unfolding steps phases
returns-clause-steps c =
    let plan = c.args.plan.now in
    let seen = c.args.seen.now in
    let first : c.push_growth.new.steps ≡ synced (growth plan seen) =
    c.in_ok-push_growth.ensures {u = tt} ∙ ap (λ (l : List Step). l ++ synced (growth plan seen)) c.new-steps.ensures in
    let second = part_added (growth plan seen) (phase_of (contents_steps plan)) c.push_growth.new.steps c.push_contents.new.steps first
    (c.in_ok-push_contents.ensures {u = tt}) in
    let third = part_added _ (flat_map copy_phases (written_copies plan seen)) c.push_contents.new.steps c.push_copies.new.steps second
    (c.in_ok-push_copies.ensures {u = tt}) in
    part_added _ (mbr_phases plan seen) c.push_copies.new.steps c.push_mbr.new.steps third (c.in_ok-push_mbr.ensures {u = tt})

pub returns-clause-countable : goal.returns-clause-countable
returns-clause-countable c = subst AreCountable (sym (returns-clause-steps c)) (countable c.args.seen.now c.args.plan.now c.requires)
