use Rattle.std.proofs.Common.{◌∙◌, inl, inr, arith}
use Rattle.rp_table.proofs.Judging.{fault-bounds, fault-short, fault-rows}
use Rattle.rp_table.proofs.check.table_fault.Goals as goal
use Rattle.rp_table.proofs.check.table_fault.Goals.{then-first-first_usable-via-then-first-first_usable, then-first-first_usable-via-else-first-first_usable+then-last-first}

pub returns-then-first-first_usable-clause-fault : goal.returns-then-first-first_usable-clause-fault
returns-then-first-first_usable-clause-fault c =
    fault-bounds c.args.sectors c.args.table.now c.requires.disk (elim c.then-first-first_usable.branch [
      | then-first-first_usable-via-then-first-first_usable w ↦ inl (omega (arith, w.if-first-first_usable.true, c.first_usable.ensures))
      | then-first-first_usable-via-else-first-first_usable+then-last-first w ↦ inr (omega (arith, w.if-last-first.true))
    ])

pub returns-then-last-usable_end-clause-fault : goal.returns-then-last-usable_end-clause-fault
returns-then-last-usable_end-clause-fault c =
    rw (c.from.ensures) (fault-short c.args.sectors c.args.table.now c.requires.disk (omega (arith, c.first_usable.ensures)) (omega arith) (omega (arith, c.usable_end.ensures)))

pub returns-clause-fault : goal.returns-clause-fault
returns-clause-fault c =
    c.rows_fault.ensures.fault ∙ fault-rows c.args.sectors c.args.table.now c.requires.disk (omega (arith, c.first_usable.ensures)) (omega arith) (omega (arith, c.usable_end.ensures))
