-- One digest after another.
use Rattle.std.proofs.Common.{◌≡◌, true, false, length, refl, sym, arith}
use Rattle.rp_tree.proofs.PieceLemmas.{other}
use Rattle.rp_tree.proofs.RangeLemmas.{find-first, find-none_more}
use Rattle.rp_tree.proofs.right.first_other.Goals as goal

pub loop-k-preserved : goal.loop-k-preserved
loop-k-preserved c =
    let fails : other c.args.own.now c.args.digests.now c.loop-k.k ≡ false =
    rw (← c.is_stored.ensures, c.if-not-is_stored.false) refl in
    find-none_more (other c.args.own.now c.args.digests.now) c.loop-k.k c.loop-k.invariant fails

pub returns-then-not-is_stored-clause-found : goal.returns-then-not-is_stored-clause-found
returns-then-not-is_stored-clause-found c =
    let passes : other c.args.own.now c.args.digests.now c.loop-k.k ≡ true =
    rw (← c.is_stored.ensures, c.if-not-is_stored.true) refl in
    sym (find-first (other c.args.own.now c.args.digests.now) c.loop-k.k (length c.args.own.now) (omega arith) c.loop-k.invariant passes)

pub returns-clause-found : goal.returns-clause-found
returns-clause-found c =
    let all : c.loop-k.k ≡ length c.args.own.now = omega arith in
    sym (rw all at c.loop-k.invariant)
