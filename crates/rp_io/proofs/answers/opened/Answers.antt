-- The folder of drop-ins is told by the end of its path.
use Rattle.std.proofs.Common.{ap, sym, ◌∙◌}
use Rattle.std.specs.Prelude.{codes}
use Rattle.std.specs.IoError.{error_kind}
use Rattle.std.proofs.lemmas.Str.Pattern.{ends_text}
use Rattle.rp_io.specs.Host as host
use Rattle.rp_io.proofs.answers.opened.Goals as goal

pub returns-in-Err : goal.returns-in-Err
returns-in-Err g c =
    c.not_opened.ensures
    ∙ ap (λ kind. host.not_opened c.ends_with-is_drop_in.result kind) c.kind.ensures
    ∙ ap (λ b. host.not_opened b (error_kind c.in-Err.error)) (ends_text c.ends_with-is_drop_in.result (codes ".conf.d") c.args.dir.now c.ends_with-is_drop_in.ensures.cases)
    ∙ ap (λ answer. host.opened (host.is_drop_in_folder c.args.dir.now) answer) (sym c.in-Err.is)
