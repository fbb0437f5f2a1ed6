use Rattle.std.proofs.Common.{ap, sym}
use Rattle.rp_crc.specs.Crc.{start, inverted}
use Rattle.rp_gpt.specs.Copy.{summed}
use Rattle.rp_gpt.proofs.Parts.{fed_three}
use Rattle.rp_gpt.proofs.decode.header_crc.Goals as goal

pub returns : goal.returns
unfolding summed
returns c =
    rw (c.value.ensures, c.update-3.ensures, c.update-2.ensures, c.update.ensures, c.new-crc.ensures) (ap inverted (sym (fed_three start _ _ _)))
