-- By the part that is turned.
use Rattle.std.proofs.Common.{refl, arith}
use Rattle.rp_rows_plans.specs.Values.{old}
use Rattle.rp_rows_plans.proofs.tables.what_can_be_written.Goals as goal

pub returns-clause-slot : goal.returns-clause-slot
returns-clause-slot c = λ fine. absurd (omega (arith, (fine.rows.rows 0 old (omega arith)).slot))

pub returns-clause-unused : goal.returns-clause-unused
returns-clause-unused c = λ fine. (fine.rows.rows 0 old (omega arith)).used refl

pub returns-clause-empty : goal.returns-clause-empty
returns-clause-empty c = λ fine. absurd (omega (arith, (fine.rows.rows 0 old (omega arith)).size))

pub returns-clause-far : goal.returns-clause-far
returns-clause-far c = λ fine. absurd (omega (arith, (fine.rows.rows 0 old (omega arith)).fits))

pub returns-clause-start : goal.returns-clause-start
returns-clause-start c = λ fine. absurd (omega (arith, (fine.rows.rows 0 old (omega arith)).start_whole))

pub returns-clause-size : goal.returns-clause-size
returns-clause-size c = λ fine. absurd (omega (arith, (fine.rows.rows 0 old (omega arith)).size_whole))

pub returns-clause-falling : goal.returns-clause-falling
returns-clause-falling c = λ fine. absurd (omega (arith, fine.rows.rising 0 1 old (omega arith) (omega arith)))

pub returns-clause-twice : goal.returns-clause-twice
returns-clause-twice c = λ fine. absurd (omega (arith, fine.rows.rising 0 1 old (omega arith) (omega arith)))
