use Rattle.std.proofs.Common.{Some, IfOk, slice_index, ◌≢◌, ap, sym, subst, ◌∙◌, string_bytes, inl}
use Rattle.std.specs.Option.{option_map}
use Rattle.rp_values.proofs.LabelLemmas.{label_of_text-none, label_of_text-some, label_units-first, expanded-there}
use Rattle.rp_values.proofs.label.read_label.Goals as goal

pub returns-in_default-clause-label : goal.returns-in_default-clause-label
returns-in_default-clause-label c = inl (label_of_text-none _ _ (ap (option_map string_bytes) (sym c.in_default.is) ∙ c.in_ok-whole.ensures))

pub returns-clause-label : goal.returns-clause-label
returns-clause-label c =
    let is_whole = ap Some c.as_str.ensures.value ∙ ap (option_map string_bytes) (sym c.in-Some.is) ∙ c.in_ok-whole.ensures in
    inl (c.units.ensures ∙ label_of_text-some _ _ _ is_whole)

pub returns-clause-not_empty : goal.returns-clause-not_empty
returns-clause-not_empty c = λ there.
    let is_whole = ap Some c.as_str.ensures.value ∙ ap (option_map string_bytes) (sym c.in-Some.is) ∙ c.in_ok-whole.ensures in
    subst (λ r. IfOk r (λ units. slice_index units 0 ≢ 0)) (sym c.units.ensures)
    (label_units-first _ c.as_str.utf8 (expanded-there _ _ _ there is_whole))
