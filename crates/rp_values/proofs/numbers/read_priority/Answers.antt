use Rattle.std.proofs.Common.{◌∙◌}
use Rattle.rp_values.proofs.NumberLemmas.{priority_of-parsed}
use Rattle.rp_values.proofs.numbers.read_priority.Goals as goal

pub returns : goal.returns
returns c = c.ok.ensures.value ∙ priority_of-parsed c.args.text.now c.parse.result c.parse.ensures.value.0
