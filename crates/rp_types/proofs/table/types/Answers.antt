use Rattle.rp_types.proofs.Listed.{types_are, types-IsTable}
use Rattle.rp_types.proofs.table.types.Goals as goal

pub returns-clause-entries : goal.returns-clause-entries
returns-clause-entries c = types_are

pub returns-clause-rule : goal.returns-clause-rule
returns-clause-rule c = types-IsTable
