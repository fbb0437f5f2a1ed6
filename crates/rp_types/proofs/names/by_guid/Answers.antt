use Rattle.rp_types.specs.Types.{as_listed}
use Rattle.rp_types.proofs.TypeLemmas.{by_name-entry, entry_of-fits}
use Rattle.rp_types.proofs.names.by_guid.Goals as goal

pub returns-in-Some-clause-back : goal.returns-in-Some-clause-back
returns-in-Some-clause-back c = by_name-entry c.args.kind (as_listed c.in-Some.field-0.now) c.in-Some.ensures

pub returns-in-Some-clause-fits : goal.returns-in-Some-clause-fits
returns-in-Some-clause-fits c = entry_of-fits c.args.kind (as_listed c.in-Some.field-0.now) c.in-Some.ensures
