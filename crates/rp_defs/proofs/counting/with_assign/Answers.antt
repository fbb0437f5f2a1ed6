use Rattle.std.proofs.Common.{ap, sym, ◌∙◌, position}
use Rattle.std.specs.Prelude.{Option, slice_set}
use Rattle.std.specs.Str.{bytes_eq}
use Rattle.rp_defs.specs.Keys.{key_names}
use Rattle.rp_defs.specs.Kept.{keyed}
use Rattle.rp_defs.specs.declared.setting.Setting.{Setting}
use Rattle.rp_defs.proofs.AssignLemmas.{counts_unknown, counts_known}
use Rattle.rp_defs.proofs.counting.with_assign.Goals as goal

pub returns-in_default-clause-also : goal.returns-in_default-clause-also
returns-in_default-clause-also c =
    counts_unknown (keyed c.args.piece.now c.args.assign.now) c.args.counting
    (sym c.in_default.is ∙ c.place_of.ensures ∙ ap (λ key. position (bytes_eq key) key_names) c.as_str.ensures)

pub returns-clause-also : goal.returns-clause-also
returns-clause-also c =
    counts_known (keyed c.args.piece.now c.args.assign.now) c.args.counting c.with_setting.result c.in-Some.place
    (sym c.in-Some.is ∙ c.place_of.ensures ∙ ap (λ key. position (bytes_eq key) key_names) c.as_str.ensures)
    (c.with_setting.ensures ∙ ap (λ (setting : Option Setting). slice_set c.args.counting c.in-Some.place setting) c.in_ok-setting.ensures)
