use Rattle.std.proofs.Common.{None, sym, lit<}
use Rattle.std.proofs.lemmas.Str.Pattern.{split_once_first}
use Rattle.rp_ini.proofs.LineLemmas.{no_equals}
use Rattle.rp_ini.proofs.entry.assignment.Goals as goal

pub returns-in_err-key : goal.returns-in_err-key
returns-in_err-key c = rw c.from_residual.ensures (sym (no_equals _ (split_once_first 61 c.args.text.now None c.in_err-key.ensures.cases (lit< tt))))
