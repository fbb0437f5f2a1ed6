use Rattle.rp_place.proofs.Keeps.{no_slot, placement_at}
use Rattle.rp_place.proofs.Least.{places_are_least}
use Rattle.rp_place.proofs.law.each_goes_to_the_least_area.Goals as goal

pub returns-clause-least : goal.returns-clause-least
returns-clause-least c areas news t places is = places_are_least areas news t places is

pub returns-clause-fits : goal.returns-clause-fits
returns-clause-fits c areas news t places used is = placement_at areas news t places used is

pub returns-clause-no_slot : goal.returns-clause-no_slot
returns-clause-no_slot c areas news t file is = no_slot areas news t file is
