-- A write into a slice.
use Rattle.std.proofs.Common.{◌≡◌, ℕ, ◌+◌, ◌≤◌, List, ◌++◌, length, take, arith}
use borrow.Rule.Slice.PartMut.{put_mid}
use Rattle.std.proofs.lemmas.Slice.{take-put_mid}

pub put : (out bytes : List ℕ) (at k : ℕ) → at + length bytes ≤ length out → take (at + length bytes) (put_mid at k out bytes) ≡ take at out ++ bytes
put out bytes at k h = take-put_mid at k out bytes (at + length bytes) (omega arith) (omega arith)
