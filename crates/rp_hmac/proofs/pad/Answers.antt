-- One more byte of the block is changed; at the end all are.
use Rattle.std.proofs.Common.{◌≡◌, ◌-◌, ℕ, ◌<◌, ◌≤◌, List, ◌++◌, length, replicate, bit_xor, append-nil, length-append, ap, rules, arith}
use Rattle.std.proofs.lemmas.List.{take_all, drop_all, length-replicate}
use Rattle.std.proofs.lemmas.List.Edits.{map_over_more}
use Rattle.rp_hmac.specs.Hmac.{block_size, padded}
use Rattle.rp_hmac.proofs.pad.Goals as goal

length-filled : (key block : List ℕ) → length key ≤ 64 → block ≡ key ++ replicate (block_size - length key) 0 → length block ≡ 64
length-filled key block short filled =
    let whole : length block ≡ length (key ++ replicate (64 - length key) 0) = ap length filled in
    omega (arith, length-append {A = ℕ}, length-replicate {A = ℕ})

pub loop-byte-preserved : goal.loop-byte-preserved
loop-byte-preserved c =
    let block : List ℕ = c.filled-block.result in
    let whole : length block ≡ 64 = length-filled c.args.key.now block c.requires c.filled-block.ensures in
    let inside : c.loop-byte.byte-index < length block = omega arith in
    search (rules, map_over_more (λ each. bit_xor each c.args.pad))

pub returns : goal.returns
unfolding padded
returns c =
    let block : List ℕ = c.filled-block.result in
    let whole : length block ≡ 64 = length-filled c.args.key.now block c.requires c.filled-block.ensures in
    let all : length block ≤ c.loop-byte.byte-index = omega arith in
    let mapped = rw (take_all c.loop-byte.byte-index block all, drop_all c.loop-byte.byte-index block all, append-nil)
    at c.loop-byte.invariant in
    rw c.filled-block.ensures at mapped
