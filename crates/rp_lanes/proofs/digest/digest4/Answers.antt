use Rattle.std.proofs.Common.{◌≡◌, ◌++◌, ℕ, List, length, arith, ap, ◌∙◌}
use Rattle.sha2.specs.Sha256.{digest_bytes, sha256}
use Rattle.rp_lanes.proofs.LaneLemmas.{map_four}
use Rattle.rp_lanes.proofs.digest.digest4.Goals as goal

pub returns : goal.returns
unfolding sha256
returns c =
    let four : length c.args.blocks ≡ 4 = omega arith in
    let bytes = λ (h : List ℕ). digest_bytes h 8 in
    let at = c.hash-state.ensures in
    map_four (λ b. sha256 (c.args.salt.now ++ b.now)) _ _ _ _ _ c.args.blocks four
    (c.digest.ensures ∙ ap bytes (at 0 (omega arith)))
    (c.digest-2.ensures ∙ ap bytes (at 1 (omega arith)))
    (c.digest-3.ensures ∙ ap bytes (at 2 (omega arith)))
    (c.digest-4.ensures ∙ ap bytes (at 3 (omega arith)))
