use Rattle.std.proofs.Common.{Some, Ok, ap, sym, ◌∙◌, string_bytes, inl}
use Rattle.std.specs.Prelude.{codes}
use Rattle.std.specs.Option.{option_map}
use Rattle.std.specs.Str.{bytes_eq}
use Rattle.rp_values.specs.Texts.{is_file_name}
use Rattle.rp_values.proofs.SplitLemmas.{split_name_of-none, split_name_of-unset, split_name_of-name, split_name_of-other}
use Rattle.rp_values.proofs.split.read_split_name.Goals as goal

pub returns-in_default : goal.returns-in_default
returns-in_default c = inl (split_name_of-none _ _ (ap (option_map string_bytes) (sym c.in_default.is) ∙ c.in_ok-whole.ensures))

pub returns-then-eq : goal.returns-then-eq
returns-then-eq c = inl (split_name_of-unset _ _ _ (ap (option_map string_bytes) (sym c.in-Some.is) ∙ c.in_ok-whole.ensures)
    (ap (λ text. bytes_eq text (codes "-")) (sym c.as_str.ensures.value) ∙ sym c.eq.ensures ∙ c.if-eq.true))

pub returns-then-is_file_name : goal.returns-then-is_file_name
returns-then-is_file_name c = inl (ap (λ name. Ok (Some name)) c.from_string.ensures
    ∙ split_name_of-name _ _ _ (ap (option_map string_bytes) (sym c.in-Some.is) ∙ c.in_ok-whole.ensures)
    (ap (λ text. bytes_eq text (codes "-")) (sym c.as_str.ensures.value) ∙ sym c.eq.ensures ∙ c.if-eq.false)
    (ap is_file_name (sym c.as_str-2.ensures.value) ∙ sym c.is_file_name.ensures ∙ c.if-is_file_name.true))

pub returns-else-is_file_name : goal.returns-else-is_file_name
returns-else-is_file_name c = inl (split_name_of-other _ _ _ (ap (option_map string_bytes) (sym c.in-Some.is) ∙ c.in_ok-whole.ensures)
    (ap (λ text. bytes_eq text (codes "-")) (sym c.as_str.ensures.value) ∙ sym c.eq.ensures ∙ c.if-eq.false)
    (ap is_file_name (sym c.as_str-2.ensures.value) ∙ sym c.is_file_name.ensures ∙ c.if-is_file_name.false))
