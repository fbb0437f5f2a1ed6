use Rattle.std.proofs.Common.{◌∙◌, ◌^◌, Some, ap, sym}
use Rattle.rp_values.specs.Numbers.{at_most}
use Rattle.rp_values.proofs.NumberLemmas.{IsCut, size_of-none, size_of-some, size_of-huge}
use Rattle.rp_values.proofs.numbers.read_size.Goals as goal

pub returns-in_err-number : goal.returns-in_err-number
returns-in_err-number c =
    let cut : IsCut c.args.text.now c.parts-factor.result.0.now c.parts-factor.result.1 =
    record { digits_are = c.parts-factor.ensures.digits; factor_is = c.parts-factor.ensures.factor } in
    c.from_residual.ensures ∙ sym (size_of-none _ _ _ cut c.in_err-number.ensures)

pub returns-in_err-size : goal.returns-in_err-size
returns-in_err-size c =
    let cut : IsCut c.args.text.now c.parts-factor.result.0.now c.parts-factor.result.1 =
    record { digits_are = c.parts-factor.ensures.digits; factor_is = c.parts-factor.ensures.factor } in
    c.from_residual-in_err-size.ensures ∙ sym (size_of-huge _ _ _ c.in_ok-number.field-0 cut c.in_ok-number.ensures c.in_err-size.ensures)

pub returns : goal.returns
returns c =
    let cut : IsCut c.args.text.now c.parts-factor.result.0.now c.parts-factor.result.1 =
    record { digits_are = c.parts-factor.ensures.digits; factor_is = c.parts-factor.ensures.factor } in
    c.at_most.ensures ∙ ap (λ n. at_most (2 ^ 60) (Some n)) c.in_ok-size.ensures.1 ∙ sym (size_of-some _ _ _ c.in_ok-number.field-0 cut c.in_ok-number.ensures)
