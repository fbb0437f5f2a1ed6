use Rattle.std.proofs.Common.{refl}
use Rattle.rp_crc.specs.Crc.{shifted}
use Rattle.rp_crc.specs.Tables.{shifts, shifted_bytes, shifted_tables}
use Rattle.rp_crc.proofs.tables.byte_tables.Goals as goal

pub returns : goal.returns
unfolding shifted shifts shifted_bytes shifted_tables
returns c = refl
