use Rattle.rp_policy.proofs.Full.{read_full}
use Rattle.rp_policy.proofs.reading.parse.Goals as goal

pub returns-clause-full : goal.returns-clause-full
returns-clause-full c = read_full c.args.text.now c.in_ok-entries_in.field-0 c.whole.result c.in_ok-entries_in.ensures c.whole.ensures
