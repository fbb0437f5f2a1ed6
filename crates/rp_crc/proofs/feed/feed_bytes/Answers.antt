use Rattle.std.proofs.Common.{◌<◌, get_or, sym, arith}
use Rattle.rp_crc.proofs.Feeding.{fed-none, fed_more}
use Rattle.rp_crc.proofs.feed.feed_bytes.Goals as goal

pub loop-byte-init : goal.loop-byte-init
loop-byte-init c = sym (fed-none c.args.register)

pub loop-byte-preserved : goal.loop-byte-preserved
loop-byte-preserved c =
    let byte : get_or c.args.bytes.now c.loop-byte.byte-index 0 < 256 =
    omega (arith, c.type_inv.bytes c.loop-byte.byte-index) in
    let next = fed_more c.args.register c.args.bytes.now c.loop-byte.byte-index c.loop-byte-test.true byte in
    cc
