use Rattle.std.proofs.Common.{◌/◌, ap, ◌∙◌}
use Rattle.std.specs.Prelude.{bit_xor}
use Rattle.rp_crc.proofs.Shifts.{shifts_byte}
use Rattle.rp_crc.proofs.feed.shifted_byte.Goals as goal

pub returns : goal.returns
returns c = ap (λ x. bit_xor x (c.args.register / 256)) c.entry.ensures ∙ shifts_byte c.args.register
