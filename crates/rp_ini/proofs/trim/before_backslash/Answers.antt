use Rattle.rp_ini.proofs.TrimLemmas.{no_backslash_end}
use Rattle.rp_ini.proofs.trim.before_backslash.Goals as goal

pub returns-clause-none : goal.returns-clause-none
returns-clause-none c = no_backslash_end c.args.text.now c.strip_suffix.result c.strip_suffix.ensures.cases
