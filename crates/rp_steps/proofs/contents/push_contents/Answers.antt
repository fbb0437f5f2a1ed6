use Rattle.std.proofs.Common.{◌≡◌, ◌∙◌, ◌++◌, List, ap, sym}
use Rattle.rp_steps.specs.Steps.{contents_steps}
use Rattle.rp_steps.specs.declared.step.Step.{Step}
use Rattle.rp_steps.proofs.Copying.{phase_none, phase_some}
use Rattle.rp_steps.proofs.contents.push_contents.Goals as goal

-- what both loops added
joined : (old a b mid new : List Step) → mid ≡ old ++ a → new ≡ mid ++ b → new ≡ (old ++ a) ++ b
joined old a b mid new first second = second ∙ ap (λ l. l ++ b) first

pub returns-then-len-before : goal.returns-then-len-before
unfolding contents_steps
returns-then-len-before c =
    phase_none c.args.steps.now _ _ c.push_trees.new.steps
    (joined c.args.steps.now _ _ c.push_payloads.new.steps c.push_trees.new.steps (c.in_ok-push_payloads.ensures {u = tt}) (c.in_ok-push_trees.ensures {u = tt}))
    (sym c.len.ensures ∙ c.if-len-before.true ∙ c.len-before.ensures)

pub returns : goal.returns
unfolding contents_steps
returns c =
    c.in_ok-push.ensures.ok
    ∙ phase_some c.args.steps.now _ _ c.push_trees.new.steps
    (joined c.args.steps.now _ _ c.push_payloads.new.steps c.push_trees.new.steps (c.in_ok-push_payloads.ensures {u = tt}) (c.in_ok-push_trees.ensures {u = tt}))
    (λ same. c.if-len-before.false (c.len.ensures ∙ same ∙ sym c.len-before.ensures))
