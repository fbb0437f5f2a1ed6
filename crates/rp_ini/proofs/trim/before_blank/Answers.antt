use Rattle.rp_ini.proofs.TrimLemmas.{no_blank_end}
use Rattle.rp_ini.proofs.trim.before_blank.Goals as goal

pub returns-clause-none : goal.returns-clause-none
returns-clause-none c = no_blank_end c.args.text.now c.strip_suffix-2.result c.in_default.ensures.cases c.strip_suffix-2.ensures.cases
