use Rattle.rp_stops.proofs.Carried.{alone, stops}
use Rattle.rp_stops.proofs.Whole.{whole_sectors-honest}
use Rattle.rp_stops.specs.Writers.{calls_of}
use Rattle.rp_stops.proofs.law.stops_of_whole_sectors.Goals as goal

pub returns-clause-others : goal.returns-clause-others
returns-clause-others c sector old empty seen plan body calls events front rest image is are live cut left whole =
    stops sector old empty seen plan body calls events front rest image is are live cut left (whole_sectors-honest sector old (calls_of front) image left whole)

pub returns-clause-alone : goal.returns-clause-alone
returns-clause-alone c sector old empty seen plan body calls made image is are front left whole =
    alone sector old empty seen plan body calls made image is are front left (whole_sectors-honest sector old made image left whole)
