-- The superblock, then the top.
use Rattle.std.proofs.Common.{◌≡◌, length, take, Some, sym, arith}
use Rattle.std.specs.Prelude.{IfOk}
use Rattle.std.proofs.lemmas.List.{length-take-le}
use Rattle.rp_disk.specs.History.{held}
use Rattle.rp_disk.specs.Made.{history_of}
use Rattle.rp_disk.proofs.Noting.{can_before, earlier_then}
use Rattle.rp_tree.specs.Checked.{is_rooted}
use Rattle.rp_tree.specs.Reads.{end_of, ends_of}
use Rattle.rp_tree.specs.Standing.{IsTreeOf}
use Rattle.rp_tree.proofs.ReadsLemmas.{as_before, ok-map, reads-farther, reads-then}
use Rattle.rp_tree.proofs.RootLemmas.{root-none, root-some}
use Rattle.rp_tree.proofs.check.check_root.Goals as goal

pub slice_bounds-block-end-2 : goal.slice_bounds-block-end-2
slice_bounds-block-end-2 g c = sym (length-take-le 4096 c.args.room.now (omega arith))

pub read_tree-requires-clause-block : goal.read_tree-requires-clause-block
read_tree-requires-clause-block g c = length-take-le 4096 c.args.room.now (omega arith)

pub returns-in_err-tree-clause-inside : goal.returns-in_err-tree-clause-inside
returns-in_err-tree-clause-inside g c =
    (reads-farther (end_of c.args.hash.now) (ends_of c.args.payload.now c.args.hash.now) _ (omega arith) c.in_err-tree.ensures.reads).inside

pub returns-in_default-clause-inside : goal.returns-in_default-clause-inside
returns-in_default-clause-inside g c =
    (reads-farther (end_of c.args.hash.now) (ends_of c.args.payload.now c.args.hash.now) _ (omega arith) c.in_ok-tree.ensures.reads).inside

pub returns-in_default-clause-answer : goal.returns-in_default-clause-answer
returns-in_default-clause-answer g c past can =
    root-none (held (history_of past (g.D.Disk.device c.args.disk.now).calls)) c.args.payload.now c.args.hash.now c.in_ok-tree.field-0
    c.in_default.is (c.in_ok-tree.ensures.tree past can)

pub is_rooted-requires-clause-block : goal.is_rooted-requires-clause-block
is_rooted-requires-clause-block g c =
    let whole : length (take 4096 c.args.room.now) ≡ 4096 = length-take-le 4096 c.args.room.now (omega arith) in
    omega (arith, c.read_tree.auto.block)

pub returns-clause-earlier : goal.returns-clause-earlier
returns-clause-earlier g c = earlier_then c.in_ok-tree.ensures.reads.earlier c.is_rooted.ensures.reads.earlier

pub returns-clause-inside : goal.returns-clause-inside
returns-clause-inside g c =
    (reads-then (ends_of c.args.payload.now c.args.hash.now) _ _
    (reads-farther (end_of c.args.hash.now) (ends_of c.args.payload.now c.args.hash.now) _ (omega arith) c.in_ok-tree.ensures.reads)
    c.is_rooted.ensures.reads).inside

pub returns-clause-answer : goal.returns-clause-answer
returns-clause-answer g c past can =
    let payload = c.args.payload.now in
    let hash = c.args.hash.now in
    let tree = c.in-Some.tree in
    let image = held (history_of past (g.D.Disk.device c.args.disk.now).calls) in
    let is = rw c.in-Some.is at (c.in_ok-tree.ensures.tree past (can_before c.is_rooted.ensures.reads.earlier can)) in
    let root : IsTreeOf image payload hash tree → IfOk c.is_rooted.result (λ right. right ≡ is_rooted image payload hash tree.said) =
    as_before (λ h. IsTreeOf (held h) payload hash tree → IfOk c.is_rooted.result (λ right. right ≡ is_rooted (held h) payload hash tree.said))
    past (g.D.Disk.device c.args.disk.now) (g.D.Disk.device c.read_tree.new.disk) c.in_ok-tree.ensures.reads.calls
    (c.is_rooted.ensures.root past can) in
    ok-map c.is_rooted.result (λ right judged. root-some image payload hash tree right is judged) (root is)
