-- The root, then the blocks under it.
use Rattle.std.proofs.Common.{◌≡◌, ◌-◌, ◌*◌, drop, arith}
use Rattle.std.specs.Prelude.{IfOk}
use Rattle.rp_disk.specs.History.{held}
use Rattle.rp_disk.specs.Made.{history_of}
use Rattle.rp_disk.proofs.Noting.{can_before}
use Rattle.rp_tree.specs.Checked.{block_of, salt_of, wrong_block}
use Rattle.rp_tree.specs.Reads.{ends_of}
use Rattle.rp_tree.specs.Standing.{IsTreeOf}
use Rattle.rp_tree.proofs.ReadsLemmas.{as_before, ok-map, reads-then}
use Rattle.rp_tree.proofs.RootLemmas.{bad-more, bad-one, shape-of}
use Rattle.rp_tree.proofs.check.check_tree.Goals as goal

pub returns-then-tree-eq1-clause-bad : goal.returns-then-tree-eq1-clause-bad
returns-then-tree-eq1-clause-bad g c past can is =
    bad-one (held (history_of past (g.D.Disk.device c.args.disk.now).calls)) c.args.payload.now c.args.hash.now c.args.tree.now.said c.in_ok-rooted.rooted
    c.top_bad.result c.if-tree-eq1.true (c.in_ok-rooted.ensures.root past can is) c.top_bad.ensures

pub check_blocks-requires-clause-shape : goal.check_blocks-requires-clause-shape
check_blocks-requires-clause-shape g c =
    shape-of c.args.payload.now c.args.hash.now c.args.tree.now.said.blocks c.levels-count.result _ c.requires.fits c.if-tree-eq1.false
    c.levels-count.ensures.levels c.levels-count.ensures.few_levels c.levels-count.ensures.top
    (omega (arith, c.top_stands.auto.standing, c.split_at_mut-standing.ensures.front_len)) c.requires.hash_end

pub returns-clause-reads : goal.returns-clause-reads
returns-clause-reads g c =
    reads-then (ends_of c.args.payload.now c.args.hash.now) _ _ c.in_ok-rooted-2.ensures.reads c.check_blocks.ensures.reads

pub returns-clause-bad : goal.returns-clause-bad
returns-clause-bad g c past can is =
    let payload = c.args.payload.now in
    let hash = c.args.hash.now in
    let tree = c.args.tree.now in
    let image = held (history_of past (g.D.Disk.device c.args.disk.now).calls) in
    let can_top = can_before c.check_blocks.ensures.reads.earlier can in
    let wrong : IfOk c.check_blocks.result (λ bad. bad ≡ wrong_block image (salt_of image hash tree.said) payload hash tree.said.blocks) =
    as_before (λ h. IsTreeOf (held h) payload hash tree
    → drop (4096 * (c.levels-count.result - 1)) c.top_stands.new.standing ≡ block_of (held h) hash 1
    → IfOk c.check_blocks.result (λ bad. bad ≡ wrong_block (held h) (salt_of (held h) hash tree.said) payload hash tree.said.blocks))
    past (g.D.Disk.device c.args.disk.now) (g.D.Disk.device c.top_stands.new.disk) c.in_ok-rooted-2.ensures.reads.calls
    (c.check_blocks.ensures.bad past can) is (c.in_ok-rooted-2.ensures.block past can_top) in
    ok-map c.check_blocks.result
    (λ bad. bad-more image payload hash tree.said c.in_ok-rooted-2.rooted bad (c.in_ok-rooted-2.ensures.root past can_top is) (cc)) wrong
