use Rattle.std.proofs.Common.{◌≡◌, ℕ, ◌<◌, length, get_or, rules}
use Rattle.rp_crc.proofs.Feeding.{fed_word}
use Rattle.rp_crc.proofs.feed.feed_word.Goals as goal

pub returns : goal.returns
returns c =
    let eight : length c.args.word ≡ 8 = search rules in
    let bytes : (i : ℕ) → get_or c.args.word i 0 < 256 = search rules in
    let whole = fed_word c.args.register c.args.word eight bytes in
    cc (c.from_le_bytes.ensures)
