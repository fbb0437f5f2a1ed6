use Rattle.rp_ini.proofs.TextLemmas.{no_return}
use Rattle.rp_ini.proofs.lines.without_return.Goals as goal

pub returns-in-None : goal.returns-in-None
returns-in-None c = no_return _ c.in-None.ensures.cases
