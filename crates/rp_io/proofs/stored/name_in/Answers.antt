-- The path is the folder, a slash and the name, or it isn't.
use Rattle.std.proofs.Common.{Some, None, cond, sym, ◌∙◌, ap}
use Rattle.rp_io.proofs.StoredLemmas.{name_of-there, name_of-elsewhere, behind_folder, no_slash}
use Rattle.rp_io.proofs.stored.name_in.Goals as goal

pub returns-in_err-strip_prefix : goal.returns-in_err-strip_prefix
returns-in_err-strip_prefix c = rw c.from_residual.ensures (sym (name_of-elsewhere _ _ (λ name is. c.in_err-strip_prefix.ensures.cases _ is)))

pub returns-in_err-name : goal.returns-in_err-name
returns-in_err-name c = rw c.from_residual-in_err-name.ensures (sym (name_of-elsewhere _ _ (no_slash _ _ _ c.in_ok-strip_prefix.ensures.cases c.in_err-name.ensures.cases)))

pub returns-then-is_single : goal.returns-then-is_single
returns-then-is_single c =
    let is = behind_folder _ _ _ _ c.in_ok-strip_prefix.ensures.cases c.in_ok-name.ensures.cases in
    sym (name_of-there _ _ _ is ∙ ap (λ b. cond b (Some c.in_ok-name.name.now) None) (sym c.if-is_single.ensures))

pub returns-else-is_single : goal.returns-else-is_single
returns-else-is_single c =
    let is = behind_folder _ _ _ _ c.in_ok-strip_prefix.ensures.cases c.in_ok-name.ensures.cases in
    sym (name_of-there _ _ _ is ∙ ap (λ b. cond b (Some c.in_ok-name.name.now) None) (sym c.if-is_single.ensures))
