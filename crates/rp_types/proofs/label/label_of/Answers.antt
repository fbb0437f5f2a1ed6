use Rattle.std.proofs.Common.{◌≢◌, get_or, sym, ap, subst, ◌∙◌}
use Rattle.std.specs.Prelude.{unwrap_or}
use Rattle.rp_types.specs.Guids.{guid_text}
use Rattle.rp_types.specs.Types.{label_of, padded}
use Rattle.rp_types.proofs.TypeLemmas.{by_guid-begins, guid_text-begins, padded-begins}
use Rattle.rp_types.proofs.label.label_of.Goals as goal

pub returns-in-Some-clause-value : goal.returns-in-Some-clause-value
unfolding label_of
returns-in-Some-clause-value c =
    c.units_of.ensures ∙ ap (padded 36) c.as_bytes.ensures.value
    ∙ ap (λ o. padded 36 (unwrap_or o (guid_text c.args.kind))) c.in-Some.ensures.value

pub returns-in-Some-clause-not_empty : goal.returns-in-Some-clause-not_empty
returns-in-Some-clause-not_empty c =
    let begins = by_guid-begins c.args.kind c.in-Some.name.now c.in-Some.ensures.value in
    subst (λ units. get_or units 0 0 ≢ 0) (sym (c.units_of.ensures ∙ ap (padded 36) c.as_bytes.ensures.value))
    (padded-begins 36 c.in-Some.name.now begins)

pub returns-in-None-clause-value : goal.returns-in-None-clause-value
unfolding label_of
returns-in-None-clause-value c =
    c.units_of-in-None.ensures ∙ ap (padded 36) c.write_guid.ensures.text
    ∙ ap (λ o. padded 36 (unwrap_or o (guid_text c.args.kind))) c.in-None.ensures.value

pub returns-in-None-clause-not_empty : goal.returns-in-None-clause-not_empty
returns-in-None-clause-not_empty c =
    subst (λ units. get_or units 0 0 ≢ 0) (sym (c.units_of-in-None.ensures ∙ ap (padded 36) c.write_guid.ensures.text))
    (padded-begins 36 (guid_text c.args.kind) (guid_text-begins c.args.kind))
