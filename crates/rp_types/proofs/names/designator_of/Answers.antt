use Rattle.rp_types.specs.Types.{as_listed}
use Rattle.rp_types.proofs.TypeLemmas.{by_name-designators}
use Rattle.rp_types.proofs.names.designator_of.Goals as goal

pub returns-in-Some-clause-back : goal.returns-in-Some-clause-back
returns-in-Some-clause-back c =
    by_name-designators c.args.kind c.args.arch (as_listed c.in-Some.field-0.now) c.designator_under.result c.in-Some.ensures
    c.designator_under.ensures
