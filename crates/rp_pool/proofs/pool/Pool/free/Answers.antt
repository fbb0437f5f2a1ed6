use Rattle.std.proofs.Common.{◌≡◌, ◌<◌, ◌+◌, length, get_or, sym, subst, arith, ◌∙◌}
use Rattle.std.proofs.lemmas.List.{get_or_read}
use Rattle.rp_pool.proofs.Scan.{Counted, count_free, count_past}
use Rattle.rp_pool.proofs.pool.Pool.free.Goals as goal

pub loop-block-preserved-then-lent-eq0 : goal.loop-block-preserved-then-lent-eq0
loop-block-preserved-then-lent-eq0 c =
    let out = c.self.inside.out.items in
    let below : c.loop-block.block < length c.self.inside.out.items = omega (arith, c.self.inside.out.ok.0) in
    let lent = c.from-lent.ensures ∙ get_or_read out _ _ below c.index.ensures 0 in
    count_free out c.loop-block.free c.loop-block.block c.loop-block.invariant below (sym lent ∙ c.if-lent-eq0.true)

pub loop-block-preserved : goal.loop-block-preserved
loop-block-preserved c =
    let out = c.self.inside.out.items in
    let below : c.loop-block.block < length c.self.inside.out.items = omega (arith, c.self.inside.out.ok.0) in
    let lent : c.from-lent.result ≡ get_or c.self.inside.out.items c.loop-block.block 0 =
    c.from-lent.ensures ∙ get_or_read out _ _ below c.index.ensures 0 in
    let none = c.if-lent-eq0.false in
    subst (λ n. Counted c.self.inside.out.items c.loop-block.free (c.loop-block.block + n)) (sym lent)
    (count_past out c.loop-block.free c.loop-block.block c.self.invariant.disjoint c.loop-block.invariant below (omega arith))
