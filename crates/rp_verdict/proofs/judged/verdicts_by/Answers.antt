use Rattle.std.proofs.Common.{◌≡◌, Some, None, ◌∙◌, ap, sym, inl}
use Rattle.rp_verdict.specs.Verdicts.{first_denial, whole}
use Rattle.rp_verdict.proofs.Judging.{whole-allowed, whole-denied}
use Rattle.rp_verdict.proofs.judged.verdicts_by.Goals as goal

pub returns-in-Some-clause-gives : goal.returns-in-Some-clause-gives
returns-in-Some-clause-gives c = λ f e.
    let denied : first_denial c.in-Ok.list ≡ Some c.in-Some.fault = cc in
    inl (sym (ap (whole c.args.arch c.args.rows.now) (sym (c.in-Ok.ensures.list f e))
    ∙ whole-denied c.args.arch c.args.rows.now c.in-Ok.list c.in-Some.fault denied))

pub returns-clause-gives : goal.returns-clause-gives
returns-clause-gives c = λ f e.
    let allowed : first_denial c.in-Ok.list ≡ None = cc in
    inl (sym (ap (whole c.args.arch c.args.rows.now) (sym (c.in-Ok.ensures.list f e))
    ∙ whole-allowed c.args.arch c.args.rows.now c.in-Ok.list c.in-Ok-extra.extra c.in-Ok-extra.ensures allowed))

pub returns-clause-verdicts : goal.returns-clause-verdicts
returns-clause-verdicts c = record { order = c.in-Ok.ensures.order; allowed = cc }
