use Rattle.std.proofs.Common.{ℕ, ◌-◌, ap}
use Rattle.rp_crc.specs.Crc.{inverted}
use Rattle.rp_crc.proofs.Crc.value.Goals as goal

pub returns : goal.returns
unfolding inverted
returns c = ap (λ (r : ℕ). 4294967295 - r) c.self.view_is
