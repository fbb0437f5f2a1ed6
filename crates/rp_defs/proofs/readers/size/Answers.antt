use Rattle.std.proofs.Common.{◌∙◌, ◌^◌, sym}
use Rattle.rp_defs.proofs.BoundLemmas.{bound_of, size_of_bound}
use Rattle.rp_defs.proofs.readers.size.Goals as goal

pub returns-in-Some-clause-bounded : goal.returns-in-Some-clause-bounded
returns-in-Some-clause-bounded c =
    bound_of (2 ^ 60) c.in-Some.size _ (size_of_bound c.args.text.now) (sym c.in-Some.is ∙ c.read_size.ensures)
