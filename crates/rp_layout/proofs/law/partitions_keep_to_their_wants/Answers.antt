use Rattle.rp_layout.proofs.Public.{length-answer, spot_is}
use Rattle.rp_layout.proofs.law.partitions_keep_to_their_wants.Goals as goal

pub returns-clause-one_each : goal.returns-clause-one_each
returns-clause-one_each c table matched wants areas news kept = length-answer table.rows matched wants areas news kept.areas

pub returns-clause-spot : goal.returns-clause-spot
returns-clause-spot c table last matched wants areas news kept file s ready at = spot_is table last matched wants areas news kept ready
    file s at
