use Rattle.std.proofs.Common.{sym, ◌∙◌}
use Rattle.rp_ini.proofs.TrimLemmas.{opened_cases}
use Rattle.rp_ini.proofs.logical.opened.Goals as goal

pub returns : goal.returns
returns c = opened_cases c.args.line.now c.strip_suffix.result c.strip_suffix.ensures.cases (sym c.continues.ensures ∙ c.if-not-continues.false)
