use Rattle.std.proofs.Common.{sym, ◌∙◌, ap, cond, None}
use Rattle.rp_values.specs.Numbers.{at_most, number_of, weight_of}
use Rattle.rp_words.proofs.Numbers.{most_of_weight}
use Rattle.rp_words.proofs.values.read_number.Goals as goal

pub returns : goal.returns
unfolding weight_of
returns c =
    let number = number_of c.args.text.now in
    c.at_most_100.ensures ∙ ap (at_most 100) c.read_weight.ensures ∙ most_of_weight number
    ∙ sym (ap (λ b. cond b None (at_most 100 number)) (sym c.if-begins_with_zero.ensures))
