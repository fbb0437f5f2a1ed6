-- By the part that is turned.
use Rattle.std.proofs.Common.{inl, inr, arith}
use Rattle.rp_rows_plans.specs.Values.{old}
use Rattle.rp_rows_plans.proofs.tables.what_is_in_place.Goals as goal

pub returns-clause-sized : goal.returns-clause-sized
returns-clause-sized c = λ fine. absurd (omega (arith, fine.rows.sized 0 old (omega arith)))

pub returns-clause-before : goal.returns-clause-before
returns-clause-before c = λ fine. absurd (omega (arith, (fine.rows.in_bounds 0 old (omega arith)).0))

pub returns-clause-behind : goal.returns-clause-behind
returns-clause-behind c = λ fine. absurd (omega (arith, (fine.rows.in_bounds 0 old (omega arith)).1))

pub returns-clause-apart : goal.returns-clause-apart
returns-clause-apart c = λ fine. elim (fine.rows.apart 0 1 old (omega arith) (omega arith)) [
  | inl w ↦ absurd (omega (arith, w))
  | inr w ↦ absurd (omega (arith, w))
]
