use Rattle.std.proofs.Common.{◌≡◌, ◌+◌, ◌*◌, ◌/◌, ◌++◌, ℕ, List, length, length-append, refl, arith, ap, sym, ◌∙◌}
use Rattle.sha2.specs.Sha256.{compress, hash_after, initial_hash_256, padded_message}
use Rattle.sha2.proofs.Absorbing256.{hash_after_next}
use Rattle.rp_lanes.specs.Blocks.{padded_block}
use Rattle.rp_lanes.specs.Lanes.{lane, pick}
use Rattle.rp_lanes.proofs.LaneLemmas.{below_four}
use Rattle.rp_lanes.proofs.PaddedLemmas.{length-padded_message}
use Rattle.rp_lanes.proofs.digest.hash.Goals as goal

pub loop-i-init : goal.loop-i-init
unfolding hash_after
loop-i-init c j below = c.initial-state.ensures j below

pub loop-i-preserved : goal.loop-i-preserved
loop-i-preserved c j below =
    let m = c.args.salt.now ++ pick j c.args.a.now c.args.b.now c.args.c.now c.args.d.now in
    c.absorb.ensures j below
    ∙ ap (λ (h : List ℕ). compress h (padded_block c.loop-i.i m)) (c.loop-i.invariant j below)
    ∙ sym (hash_after_next initial_hash_256 (padded_message m) c.loop-i.i)

pub returns : goal.returns
returns c j below =
    let d = pick j c.args.a.now c.args.b.now c.args.c.now c.args.d.now in
    let m = c.args.salt.now ++ d in
    let equal : length d ≡ length c.args.a.now =
    below_four (λ n. length (pick n c.args.a.now c.args.b.now c.args.c.now c.args.d.now) ≡ length c.args.a.now)
    refl c.requires.second c.requires.third c.requires.fourth j below in
    let done : c.loop-i.i ≡ length (padded_message m) / 64 = omega (arith, length-padded_message m, length-append c.args.salt.now d) in
    c.loop-i.invariant j below ∙ ap (hash_after initial_hash_256 (padded_message m)) done
