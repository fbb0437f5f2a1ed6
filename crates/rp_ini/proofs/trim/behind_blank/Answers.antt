use Rattle.rp_ini.proofs.TrimLemmas.{no_blank_front}
use Rattle.rp_ini.proofs.trim.behind_blank.Goals as goal

pub returns-clause-none : goal.returns-clause-none
returns-clause-none c = no_blank_front c.args.text.now c.strip_prefix-2.result c.in_default.ensures.cases c.strip_prefix-2.ensures.cases
