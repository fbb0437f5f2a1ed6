-- The digests of the blocks, then the first that is another.
use Rattle.std.proofs.Common.{◌≡◌, ℕ, List, length, replicate, length-take-le, ◌∙◌, arith}
use Rattle.rp_verity.specs.Tree.{digest}
use Rattle.rp_tree.proofs.PieceLemmas.{hashed-found}
use Rattle.rp_tree.proofs.right.first_wrong.Goals as goal

pub returns-clause-found : goal.returns-clause-found
unfolding digest
returns-clause-found c =
    let before : List (List ℕ) = replicate 128 (replicate 32 0) in
    let all : length c.digest_blocks.new.out ≡ c.args.count =
    omega (arith, c.digest_blocks.auto.out, length-take-le c.args.count before (omega arith)) in
    c.first_other.ensures.found
    ∙ hashed-found c.args.salt.now c.args.blocks.now c.args.digests.now c.args.count c.digest_blocks.new.out all
    (λ k below. c.digest_blocks.ensures.digests k (omega (arith, below, all, c.digest_blocks.auto.out)))
