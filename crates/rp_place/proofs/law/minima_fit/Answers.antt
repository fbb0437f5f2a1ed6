use Rattle.rp_place.proofs.Minima.{minima_fit}
use Rattle.rp_place.proofs.law.minima_fit.Goals as goal

pub returns : goal.returns
returns c table last matched wants areas news free p are is place area at = minima_fit table last matched wants areas news free p are is
    place area at
