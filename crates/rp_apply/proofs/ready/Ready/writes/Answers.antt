use Rattle.std.proofs.Common.{List, subst, sym, ap, ◌∙◌}
use Rattle.rp_steps.specs.Writes.{AreCountable, writes}
use Rattle.rp_steps.specs.declared.step.Step.{Step}
use Rattle.rp_steps.proofs.Counted.{countable}
use Rattle.rp_apply.proofs.ready.Ready.writes.Goals as goal

pub returns : goal.returns
returns c =
    let r = c.requires in
    let e = c.as_slice.ensures in
    c.writes_of.ensures.exact (subst (λ (l : List Step). AreCountable l) (sym (e ∙ r.steps)) (countable c.args.self.now.seen c.args.self.now.plan r.well_formed))
    ∙ ap (λ (l : List Step). writes l) e
