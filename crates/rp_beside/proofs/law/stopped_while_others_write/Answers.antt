use Rattle.rp_stops.proofs.Whole.{whole_sectors-honest}
use Rattle.rp_stops.specs.Writers.{calls_of}
use Rattle.rp_beside.proofs.Beside.{safe_beside}
use Rattle.rp_beside.proofs.law.stopped_while_others_write.Goals as goal

pub returns-clause-honest : goal.returns-clause-honest
returns-clause-honest c = safe_beside

pub returns-clause-whole : goal.returns-clause-whole
returns-clause-whole c sector old empty seen plan sources events front rest image is fit live cut left whole =
    safe_beside sector old empty seen plan sources events front rest image is fit live cut left
    (whole_sectors-honest sector old (calls_of front) image left whole)
