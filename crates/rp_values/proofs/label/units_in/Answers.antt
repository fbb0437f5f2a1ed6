use Rattle.std.proofs.Common.{length, ap, sym, subst, ◌∙◌, IsUtf8}
use Rattle.std.proofs.lemmas.Iterator.Consumers.{count_from_yields_List}
use Rattle.rp_base.proofs.Units.{units_left-all}
use Rattle.rp_values.proofs.LabelLemmas.{YieldsList-from_utf16}
use Rattle.rp_values.proofs.label.units_in.Goals as goal

pub returns : goal.returns
returns c =
    let it = c.encode_utf16 in
    count_from_yields_List it.result c.count.result c.count.ensures.ran
    (YieldsList-from_utf16 it.result (subst IsUtf8 (sym it.ensures.text) c.utf8.text))
    ∙ ap length (sym (units_left-all it.result c.args.text.now it.ensures.pending it.ensures.text))
