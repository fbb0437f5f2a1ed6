use Rattle.std.proofs.Common.{ap, ◌∙◌}
use Rattle.std.proofs.lemmas.Str.{is_utf8-from_IsUtf8}
use Rattle.rp_ini.specs.declared.fault.IniFault.TheVariants.{NotUtf8}
use Rattle.rp_ini.specs.Lines.{without_mark, line_at}
use Rattle.rp_ini.proofs.DecodeLemmas.{not_utf8}
use Rattle.rp_ini.proofs.decode.decoded.Goals as goal

pub returns-in-Ok : goal.returns-in-Ok
returns-in-Ok c = (is_utf8-from_IsUtf8 _ c.in-Ok.ensures.cases.1, c.without_mark.ensures ∙ ap without_mark c.in-Ok.ensures.cases.0)

pub returns-in-Err : goal.returns-in-Err
returns-in-Err c = (
  not_utf8 _ c.in-Err.ensures.cases.0,
  ap NotUtf8 (c.line_at.ensures ∙ ap (line_at c.args.bytes.now) (c.valid_up_to.ensures ∙ c.in-Err.ensures.valid_len)),
)
