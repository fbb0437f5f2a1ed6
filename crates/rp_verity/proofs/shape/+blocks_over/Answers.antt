-- The definition, a level at a time.
use Rattle.std.proofs.Common.{◌≡◌, ◌≢◌, ◌+◌, ◌-◌, ℕ, zero, suc, arith, refl}
use Rattle.rp_verity.specs.Tree.{runs}
use Rattle.rp_verity.specs.Order.{blocks_over}
use Rattle.rp_verity.proofs.shape.+blocks_over.Goals as goal

blocks_over-next : (levels digests : ℕ) → levels ≢ 0
    → blocks_over levels digests ≡ blocks_over (levels - 1) (runs digests) + runs digests
unfolding blocks_over
blocks_over-next zero digests some = absurd (some refl)
blocks_over-next (suc n) digests some = let e : suc n - 1 ≡ n = omega arith in rw e refl

pub returns-then-levels-eq0-clause-blocks : goal.returns-then-levels-eq0-clause-blocks
unfolding blocks_over
returns-then-levels-eq0-clause-blocks t c = rw c.if-levels-eq0.true refl

pub returns-clause-blocks : goal.returns-clause-blocks
returns-clause-blocks t c =
    rw (blocks_over-next c.args.levels c.args.digests c.if-levels-eq0.false, c.blocks_over.ensures.blocks, c.runs-lowest.ensures) refl
