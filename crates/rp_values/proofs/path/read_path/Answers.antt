use Rattle.std.proofs.Common.{Some, ap, sym, ◌∙◌, string_bytes}
use Rattle.std.specs.Option.{option_map}
use Rattle.rp_values.specs.Texts.{is_path}
use Rattle.rp_values.proofs.PathLemmas.{path_of-none, path_of-path, path_of-other}
use Rattle.rp_values.proofs.path.read_path.Goals as goal

pub returns-in_default : goal.returns-in_default
returns-in_default c = path_of-none _ _ (ap (option_map string_bytes) (sym c.in_default.is) ∙ c.in_ok-whole.ensures)

pub returns-then-is_path : goal.returns-then-is_path
returns-then-is_path c =
    ap Some c.from_string.ensures
    ∙ path_of-path _ _ _ (ap (option_map string_bytes) (sym c.in-Some.is) ∙ c.in_ok-whole.ensures)
    (ap is_path (sym c.as_str.ensures.value) ∙ sym c.is_path.ensures ∙ c.if-is_path.true)

pub returns-else-is_path : goal.returns-else-is_path
returns-else-is_path c =
    path_of-other _ _ _ (ap (option_map string_bytes) (sym c.in-Some.is) ∙ c.in_ok-whole.ensures)
    (ap is_path (sym c.as_str.ensures.value) ∙ sym c.is_path.ensures ∙ c.if-is_path.false)
