use Rattle.rp_layout.proofs.Public.{areas_of_own, filled_again}
use Rattle.rp_layout.proofs.law.rows_after_fill_the_areas.Goals as goal

pub returns-clause-areas : goal.returns-clause-areas
returns-clause-areas c table last matched wants areas news kept own ready asks = areas_of_own table last matched wants areas news kept
    ready own asks

pub returns-clause-filled : goal.returns-clause-filled
returns-clause-filled c table last matched wants areas news kept own again rematched before others ready asks first end rows is =
    filled_again table last matched wants areas news kept ready own asks again rematched before others first end rows is
