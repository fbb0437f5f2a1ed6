use Rattle.std.proofs.Common.{◌≡◌, ◌+◌, ◌-◌, ◌*◌, ◌++◌, ℕ, List, length, take, drop, arith, ap, ◌∙◌}
use Rattle.sha2.specs.Sha256.{compress}
use Rattle.rp_lanes.specs.Blocks.{padded_block}
use Rattle.rp_lanes.specs.Lanes.{lane, pick}
use Rattle.rp_lanes.proofs.LaneLemmas.{below_four}
use Rattle.rp_lanes.proofs.PaddedLemmas.{padded_block_inner}
use Rattle.rp_lanes.proofs.digest.absorb.Goals as goal

pub returns-then-i-salt : goal.returns-then-i-salt
returns-then-i-salt c j below =
    let s = c.args.salt.now in
    let i = c.args.i in
    let from = i * 64 - length s in
    let to = from + 64 in
    let part = λ (d : List ℕ). take (to - from) (drop from d) in
    c.compress.ensures j below
    ∙ ap (compress (lane j c.args.state.now))
    (below_four (λ n. pick n (part c.args.a.now) (part c.args.b.now) (part c.args.c.now) (part c.args.d.now)
    ≡ padded_block i (s ++ pick n c.args.a.now c.args.b.now c.args.c.now c.args.d.now))
    (padded_block_inner s c.args.a.now i from to (omega arith) (omega arith) (omega arith))
    (padded_block_inner s c.args.b.now i from to (omega arith) (omega arith) (omega arith))
    (padded_block_inner s c.args.c.now i from to (omega arith) (omega arith) (omega arith))
    (padded_block_inner s c.args.d.now i from to (omega arith) (omega arith) (omega arith))
    j below)
