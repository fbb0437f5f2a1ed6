use Rattle.std.proofs.Common.{◌∙◌, sym}
use Rattle.rp_defs.proofs.BoundLemmas.{bound_of, weight_of_bound}
use Rattle.rp_defs.proofs.readers.weight.Goals as goal

pub returns-in-Some-clause-bounded : goal.returns-in-Some-clause-bounded
returns-in-Some-clause-bounded c =
    bound_of 1000000 c.in-Some.weight _ (weight_of_bound c.args.text.now) (sym c.in-Some.is ∙ c.read_weight.ensures)
