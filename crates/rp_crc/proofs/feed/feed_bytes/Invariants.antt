use Rattle.std.proofs.Common.{◌≡◌, take}
use Rattle.rp_crc.specs.Crc.{fed}
use Rattle.rp_crc.proofs.feed.feed_bytes.Given as goal

abbrev pub invariant-loop-byte : goal.invariant-loop-byte
invariant-loop-byte l = l.register ≡ fed l.fn.register (take l.byte-index l.bytes)
