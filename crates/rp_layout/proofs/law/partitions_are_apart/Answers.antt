use Rattle.rp_layout.proofs.Public.{rows_apart, spots_apart}
use Rattle.rp_layout.proofs.law.partitions_are_apart.Goals as goal

pub returns-clause-apart : goal.returns-clause-apart
returns-clause-apart c table last matched wants areas news kept file other s t ready differ at also = spots_apart table last matched wants
    areas news kept ready file other s t differ at also

pub returns-clause-off_rows : goal.returns-clause-off_rows
returns-clause-off_rows c table last matched wants areas news kept file s place row ready at here other = rows_apart table last matched
    wants areas news kept ready file s place row at here other
