use Rattle.std.proofs.Common.{Some, None, lit<, ap, sym, ◌∙◌}
use Rattle.std.proofs.lemmas.Str.Pattern.{strip_prefix_char}
use Rattle.rp_values.specs.Texts.{expanded, joined}
use Rattle.rp_values.proofs.ExpandLemmas.{expanded-percent, expanded-arch, expanded-unknown}
use Rattle.rp_values.proofs.expand.specifier.Goals as goal

pub returns-in-Some-clause-meaning : goal.returns-in-Some-clause-meaning
returns-in-Some-clause-meaning c =
    expanded-percent c.args.arch _ _ (strip_prefix_char 37 c.args.text.now (Some c.in-Some.after) c.in-Some.ensures.cases (lit< tt))

pub returns-in_err-after-clause-meaning : goal.returns-in_err-after-clause-meaning
returns-in_err-after-clause-meaning c =
    rw c.from_residual.ensures
    (expanded-unknown c.args.arch _ (strip_prefix_char 37 c.args.text.now None c.in_default.ensures.cases (lit< tt))
    (strip_prefix_char 97 c.args.text.now None c.in_err-after.ensures.cases (lit< tt)))

pub returns-clause-meaning : goal.returns-clause-meaning
returns-clause-meaning c =
    expanded-arch c.args.arch _ _ (strip_prefix_char 97 c.args.text.now (Some c.in_ok-after.after) c.in_ok-after.ensures.cases (lit< tt))
    ∙ ap (λ m. joined (Some m) (expanded c.args.arch c.in_ok-after.after.now)) (sym c.name.ensures)
