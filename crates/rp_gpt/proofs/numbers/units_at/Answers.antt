use Rattle.std.proofs.Common.{◌+◌, ◌*◌, arith}
use Rattle.std.proofs.lemmas.List.{get_or_default}
use Rattle.std.proofs.lemmas.List.FromFn.{fill_by_all}
use Rattle.rp_gpt.specs.Numbers.{u16_at, units_at}
use Rattle.rp_gpt.proofs.numbers.units_at.Goals as goal

pub returns-clause-value : goal.returns-clause-value
unfolding units_at
returns-clause-value c =
    fill_by_all (λ k. u16_at c.args.bytes.now (c.args.at + 2 * k)) _ 36 0 (omega arith) (λ k h. c.loop-k.invariant.are k (omega arith))

pub returns-clause-fits : goal.returns-clause-fits
returns-clause-fits c = λ k d h. rw (get_or_default c.loop-k.unit-items k d 0 h) (c.loop-k.invariant.fits k (omega arith))
