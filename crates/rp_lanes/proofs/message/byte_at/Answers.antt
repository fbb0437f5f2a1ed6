use Rattle.std.proofs.Common.{◌≡◌, ◌+◌, ◌-◌, ◌*◌, ◌/◌, ◌++◌, List, ℕ, length, slice_index, arith, length-append, ap, sym, ◌∙◌}
use Rattle.rp_lanes.proofs.PaddedLemmas.{padded_at_length}
use Rattle.rp_lanes.proofs.message.byte_at.Goals as goal

pub returns : goal.returns
returns c =
    let m = c.args.salt.now ++ c.args.block.now in
    let n = length c.args.salt.now + length c.args.block.now in
    let long : length m ≡ n = length-append c.args.salt.now c.args.block.now in
    let k = c.args.place + 8 - (n + 72) / 64 * 64 in
    ap (λ (x : List ℕ). slice_index x k) c.to_be_bytes-bits.ensures
    ∙ sym (padded_at_length m c.args.place (8 * n) k (omega (arith, long)) (omega (arith, long)))
