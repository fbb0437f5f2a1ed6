use Rattle.std.proofs.Common.{◌≡◌, ◌*◌, length, take}
use Rattle.sha2.specs.Sha256.{digest_bytes}
use Rattle.rp_lanes.specs.Lanes.{lane}
use Rattle.rp_lanes.proofs.digest.digest.Given as goal

abbrev pub invariant-words : goal.invariant-words
invariant-words l = (length l.bytes ≡ 32) × (take (4 * l.i) l.bytes ≡ digest_bytes (lane l.j l.state) l.i)
