use Rattle.std.proofs.Common.{rules}
use Rattle.std.proofs.lemmas.Result.{err_from_is_err_and}
use Rattle.rp_policy.proofs.Steps.{flag_last, flag_last_lost, flag_lost, flag_next}
use Rattle.rp_policy.proofs.reading.named_flags.Goals as goal

pub returns-in_err-flags : goal.returns-in_err-flags
returns-in_err-flags c =
    let p = err_from_is_err_and c.from_residual.result c.from_residual.ensures.1 in
    rw (p.1, p.2) (flag_lost c.args.at c.args.text.now c.loop-name.flags c.loop-name.place c.loop-name.rest.now
    c.in-Some.name.now c.in-Some.behind.now
    c.in_err-flags.field-0.0 c.loop-name.invariant.1 c.in-Some.ensures c.in_err-flags.ensures)

pub loop-name-preserved : goal.loop-name-preserved
loop-name-preserved c = (
  search rules,
  flag_next c.args.at c.args.text.now c.loop-name.flags c.loop-name.place c.loop-name.rest.now
      c.in-Some.name.now c.in-Some.behind.now
      c.in_ok-flags.field-0 c.loop-name.invariant.1 c.in-Some.ensures c.in_ok-flags.ensures,
)

pub returns-in_err-flag : goal.returns-in_err-flag
returns-in_err-flag c =
    let p = err_from_is_err_and c.from_residual-in_err-flag.result c.from_residual-in_err-flag.ensures.1 in
    rw (p.1, p.2) (flag_last_lost c.args.at c.args.text.now c.loop-name.flags c.loop-name.place c.loop-name.rest.now
    c.in_err-flag.field-0.0 c.loop-name.invariant.1 c.in_default.ensures c.in_err-flag.ensures)

pub returns : goal.returns
returns c = flag_last c.args.at c.args.text.now c.loop-name.flags c.loop-name.place c.loop-name.rest.now
    c.in_ok-flag.field-0 c.loop-name.invariant.1 c.in_default.ensures c.in_ok-flag.ensures
