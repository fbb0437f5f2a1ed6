use Rattle.std.proofs.Common.{Some, None, lit<}
use Rattle.std.proofs.lemmas.Str.Pattern.{split_parts}
use Rattle.rp_ini.proofs.TextLemmas.{lines_of-cut, lines_of-last}
use Rattle.rp_ini.proofs.lines.cut_line.Goals as goal

pub returns-in-Some-clause-lines : goal.returns-in-Some-clause-lines
returns-in-Some-clause-lines c = lines_of-cut _ _ _ (split_parts 10 c.args.text.now (Some (c.in-Some.line, c.in-Some.behind)) c.in-Some.ensures.cases (lit< tt))

pub returns-in-None-clause-lines : goal.returns-in-None-clause-lines
returns-in-None-clause-lines c = lines_of-last _ c.requires (split_parts 10 c.args.text.now None c.in-None.ensures.cases (lit< tt))
