use Rattle.std.proofs.Common.{rules}
use Rattle.std.proofs.lemmas.Result.{err_from_is_err_and}
use Rattle.rp_policy.proofs.Steps.{entry_last, entry_lost, entry_next}
use Rattle.rp_policy.proofs.reading.entries_in.Goals as goal

pub returns-in_err-entries : goal.returns-in_err-entries
returns-in_err-entries c =
    let p = err_from_is_err_and c.from_residual.result c.from_residual.ensures.1 in
    rw (p.1, p.2) (entry_lost c.args.text.now c.loop-entry.entries c.loop-entry.at c.loop-entry.rest.now
    c.in-Some.entry.now c.in-Some.behind.now
    c.in_err-entries.field-0.0 c.loop-entry.invariant.1 c.in-Some.ensures c.in_err-entries.ensures)

pub loop-entry-preserved : goal.loop-entry-preserved
loop-entry-preserved c = (
  search rules,
  entry_next c.args.text.now c.loop-entry.entries c.loop-entry.at c.loop-entry.rest.now
      c.in-Some.entry.now c.in-Some.behind.now
      c.in_ok-entries.entries c.loop-entry.invariant.1 c.in-Some.ensures c.in_ok-entries.ensures,
)

pub returns : goal.returns
returns c = entry_last c.args.text.now c.loop-entry.entries c.loop-entry.at c.loop-entry.rest.now c.with_entry-2.result
    c.loop-entry.invariant.1 c.in_default.ensures c.with_entry-2.ensures
