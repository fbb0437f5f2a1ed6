use Rattle.std.proofs.Common.{Some, None, cond, sym, ◌∙◌, ap, ◌∷◌, lit<}
use Rattle.std.proofs.lemmas.Str.Pattern.{strip_prefix_char, strip_suffix_char}
use Rattle.rp_ini.proofs.LineLemmas.{header_of-there, no_opening, no_closing}
use Rattle.rp_ini.proofs.entry.header.Goals as goal

pub returns-in_err-strip_prefix : goal.returns-in_err-strip_prefix
returns-in_err-strip_prefix c = rw c.from_residual.ensures (sym (no_opening _ c.in_err-strip_prefix.ensures.cases))

pub returns-in_err-name : goal.returns-in_err-name
returns-in_err-name c = rw c.from_residual-in_err-name.ensures (sym (no_closing _ _
    (strip_prefix_char 91 c.args.text.now (Some c.in_ok-strip_prefix.field-0) c.in_ok-strip_prefix.ensures.cases (lit< tt)) c.in_err-name.ensures.cases))

pub returns-then-is_name : goal.returns-then-is_name
returns-then-is_name c =
    let behind = strip_prefix_char 91 c.args.text.now (Some c.in_ok-strip_prefix.field-0) c.in_ok-strip_prefix.ensures.cases (lit< tt) in
    let before = strip_suffix_char 93 c.in_ok-strip_prefix.field-0.now (Some c.in_ok-name.name) c.in_ok-name.ensures.cases (lit< tt) in
    sym (header_of-there _ _ (behind ∙ ap (λ t. 91 ∷ t) before) ∙ ap (λ b. cond b (Some c.in_ok-name.name.now) None) (sym c.if-is_name.ensures))

pub returns-else-is_name : goal.returns-else-is_name
returns-else-is_name c =
    let behind = strip_prefix_char 91 c.args.text.now (Some c.in_ok-strip_prefix.field-0) c.in_ok-strip_prefix.ensures.cases (lit< tt) in
    let before = strip_suffix_char 93 c.in_ok-strip_prefix.field-0.now (Some c.in_ok-name.name) c.in_ok-name.ensures.cases (lit< tt) in
    sym (header_of-there _ _ (behind ∙ ap (λ t. 91 ∷ t) before) ∙ ap (λ b. cond b (Some c.in_ok-name.name.now) None) (sym c.if-is_name.ensures))
