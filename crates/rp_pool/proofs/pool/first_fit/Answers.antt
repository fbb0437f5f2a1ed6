use Rattle.std.proofs.Common.{◌≡◌, ◌+◌, get_or, sym, subst, arith}
use Rattle.rp_pool.proofs.Scan.{Scanned, scan_end, scan_found, scan_past}
use Rattle.rp_pool.proofs.pool.first_fit.Goals as goal

pub returns-then-block-from : goal.returns-then-block-from
returns-then-block-from c = sym (scan_found c.args.out.now c.args.blocks c.loop-block.from c.loop-block.block c.loop-block.invariant
    (omega arith) (grind arith) (omega arith))

pub returns : goal.returns
returns c = sym (scan_end c.args.out.now c.args.blocks c.loop-block.from c.loop-block.block c.loop-block.invariant (omega arith))

pub loop-block-preserved : goal.loop-block-preserved
loop-block-preserved c =
    let out = c.args.out.now in
    let block = c.loop-block.block in
    let lent : c.from-lent.result ≡ get_or c.args.out.now c.loop-block.block 0 = c.from-lent.ensures in
    let none = c.if-lent-eq0.false in
    subst (λ n. Scanned c.args.out.now c.args.blocks (c.loop-block.block + n) (c.loop-block.block + n)) (sym lent)
    (scan_past out c.args.blocks c.loop-block.from block c.requires.disjoint c.loop-block.invariant c.loop-block-test.true (omega arith))
