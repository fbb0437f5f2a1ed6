use Rattle.std.proofs.Common.{ℕ, List, ◌/◌, length}
use Rattle.rp_crc.proofs.Feeding.{fed_chunks}
use Rattle.rp_crc.proofs.Crc.update.Goals as goal

pub returns : goal.returns
returns c =
    let bytes : List ℕ = c.args.bytes.now in
    let whole = fed_chunks c.args.self.now (length bytes / 8) bytes in
    cc (c.as_chunks.ensures.front, c.as_chunks.ensures.back, c.self.view_is)
