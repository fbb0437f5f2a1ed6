use Rattle.std.proofs.Common.{◌∙◌, sym}
use Rattle.rp_values.proofs.NumberLemmas.{parsed}
use Rattle.rp_values.proofs.numbers.number.Goals as goal

pub returns-then-is_digits : goal.returns-then-is_digits
returns-then-is_digits c =
    c.ok.ensures.value ∙ parsed c.args.text.now c.parse.result (sym c.is_digits.ensures ∙ c.if-is_digits.true) c.parse.ensures.value.0
