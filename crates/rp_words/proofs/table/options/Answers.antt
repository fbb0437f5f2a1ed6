use Rattle.std.proofs.Common.{refl}
use Rattle.rp_words.specs.Table.{options}
use Rattle.rp_words.proofs.table.options.Goals as goal

pub returns : goal.returns
unfolding options
returns c = refl
