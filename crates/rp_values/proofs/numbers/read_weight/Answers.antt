use Rattle.std.proofs.Common.{◌∙◌, sym}
use Rattle.rp_values.proofs.NumberLemmas.{weight_of-none, weight_of-some}
use Rattle.rp_values.proofs.numbers.read_weight.Goals as goal

pub returns-in_err-number : goal.returns-in_err-number
returns-in_err-number c = rw c.from_residual.ensures (sym (weight_of-none c.args.text.now c.in_err-number.ensures))

pub returns : goal.returns
returns c = c.at_most.ensures ∙ sym (weight_of-some c.args.text.now _ c.in_ok-number.ensures)
