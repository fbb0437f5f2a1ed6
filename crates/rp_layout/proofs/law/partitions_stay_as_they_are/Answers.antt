use Rattle.rp_layout.proofs.Public.{idle_here, seat_again}
use Rattle.rp_layout.proofs.law.partitions_stay_as_they_are.Goals as goal

pub returns-clause-seats : goal.returns-clause-seats
returns-clause-seats c own file has want limits some asks = seat_again own file has want limits some asks

pub returns-clause-idle : goal.returns-clause-idle
returns-clause-idle c table last matched wants areas news kept own i limit area ready limits asks at is =
    idle_here table last matched wants areas news kept ready own limits asks i area at limit is
