use Rattle.std.proofs.Common.{lit<}
use Rattle.std.proofs.lemmas.Str.Pattern.{strip_prefix_char}
use Rattle.rp_words.proofs.Hyphens.{behind_hyphen-found}
use Rattle.rp_words.proofs.words.behind_hyphen.Goals as goal

pub returns : goal.returns
returns c = behind_hyphen-found c.args.text.now c.strip_prefix.result
    (strip_prefix_char 45 c.args.text.now c.strip_prefix.result c.strip_prefix.ensures.cases (lit< tt))
