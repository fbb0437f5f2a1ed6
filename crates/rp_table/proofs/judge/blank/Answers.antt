use Rattle.std.proofs.Common.{refl}
use Rattle.rp_gpt.specs.Shown.{blank}
use Rattle.rp_table.proofs.judge.blank.Goals as goal

pub returns : goal.returns
unfolding blank
returns c = rw (c.usable_end.ensures, c.new.ensures) refl
