use Rattle.std.proofs.Common.{refl}
use Rattle.rp_words.specs.Table.{commands}
use Rattle.rp_words.proofs.table.commands.Goals as goal

pub returns : goal.returns
unfolding commands
returns c = refl
