use Rattle.rp_ini.proofs.DecodeLemmas.{behind_mark, no_mark}
use Rattle.rp_ini.proofs.decode.without_mark.Goals as goal

pub returns-in-Some : goal.returns-in-Some
returns-in-Some c = behind_mark _ _ c.in-Some.ensures.cases

pub returns-in-None : goal.returns-in-None
returns-in-None c = no_mark _ c.in-None.ensures.cases
