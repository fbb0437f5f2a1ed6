use Rattle.std.proofs.Common.{◌≡◌, ℕ, ◌++◌, take, drop, map, bit_xor}
use Rattle.rp_hmac.proofs.pad.Given as goal

abbrev pub invariant-loop-byte : goal.invariant-loop-byte
invariant-loop-byte l =
    let keyed : ℕ → ℕ = λ byte. bit_xor byte l.pad in
    l.byte-items ≡ map keyed (take l.byte-index l.initial.byte-items) ++ drop l.byte-index l.initial.byte-items
