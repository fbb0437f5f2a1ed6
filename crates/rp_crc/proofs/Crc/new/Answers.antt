use Rattle.std.proofs.Common.{refl}
use Rattle.rp_crc.specs.Crc.{start}
use Rattle.rp_crc.proofs.Crc.new.Goals as goal

pub returns : goal.returns
unfolding start
returns c = refl
