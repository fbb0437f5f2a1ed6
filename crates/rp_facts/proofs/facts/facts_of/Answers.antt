use Rattle.rp_facts.proofs.Asking.{told_there}
use Rattle.rp_facts.proofs.facts.facts_of.Goals as goal

pub returns-clause-there : goal.returns-clause-there
returns-clause-there g c = told_there (g.S.Sources.told c.args.sources.now) c.args.list.now c.args.needs.now c.in_ok-lens.lens _ c.in_ok-lens.ensures.lens
