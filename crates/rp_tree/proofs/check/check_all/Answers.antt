-- The superblock, then the tree.
use Rattle.std.proofs.Common.{◌≡◌, Some, arith}
use Rattle.std.specs.Prelude.{IfOk}
use Rattle.rp_disk.specs.History.{held}
use Rattle.rp_disk.specs.Made.{history_of}
use Rattle.rp_disk.proofs.Noting.{can_before, earlier_then}
use Rattle.rp_tree.specs.Checked.{bad_in}
use Rattle.rp_tree.specs.Reads.{end_of, ends_of}
use Rattle.rp_tree.specs.Standing.{IsTreeOf}
use Rattle.rp_tree.proofs.ReadsLemmas.{as_before, ok-map, reads-farther, reads-then}
use Rattle.rp_tree.proofs.RootLemmas.{bad-none, bad-some}
use Rattle.rp_tree.proofs.check.check_all.Goals as goal

pub returns-in_err-tree-clause-inside : goal.returns-in_err-tree-clause-inside
returns-in_err-tree-clause-inside g c =
    (reads-farther (end_of c.args.hash.now) (ends_of c.args.payload.now c.args.hash.now) _ (omega arith) c.in_err-tree.ensures.reads).inside

pub returns-in_default-clause-inside : goal.returns-in_default-clause-inside
returns-in_default-clause-inside g c =
    (reads-farther (end_of c.args.hash.now) (ends_of c.args.payload.now c.args.hash.now) _ (omega arith) c.in_ok-tree.ensures.reads).inside

pub returns-in_default-clause-answer : goal.returns-in_default-clause-answer
returns-in_default-clause-answer g c past can =
    bad-none (held (history_of past (g.D.Disk.device c.args.disk.now).calls)) c.args.payload.now c.args.hash.now c.in_ok-tree.field-0
    c.in_default.is (c.in_ok-tree.ensures.tree past can)

pub returns-clause-earlier : goal.returns-clause-earlier
returns-clause-earlier g c = earlier_then c.in_ok-tree.ensures.reads.earlier c.check_tree.ensures.reads.earlier

pub returns-clause-inside : goal.returns-clause-inside
returns-clause-inside g c =
    (reads-then (ends_of c.args.payload.now c.args.hash.now) _ _
    (reads-farther (end_of c.args.hash.now) (ends_of c.args.payload.now c.args.hash.now) _ (omega arith) c.in_ok-tree.ensures.reads)
    c.check_tree.ensures.reads).inside

pub returns-clause-answer : goal.returns-clause-answer
returns-clause-answer g c past can =
    let payload = c.args.payload.now in
    let hash = c.args.hash.now in
    let tree = c.in-Some.tree in
    let image = held (history_of past (g.D.Disk.device c.args.disk.now).calls) in
    let is = rw c.in-Some.is at (c.in_ok-tree.ensures.tree past (can_before c.check_tree.ensures.reads.earlier can)) in
    let bad : IsTreeOf image payload hash tree → IfOk c.check_tree.result (λ bad. bad ≡ bad_in image payload hash tree.said) =
    as_before (λ h. IsTreeOf (held h) payload hash tree → IfOk c.check_tree.result (λ bad. bad ≡ bad_in (held h) payload hash tree.said))
    past (g.D.Disk.device c.args.disk.now) (g.D.Disk.device c.read_tree.new.disk) c.in_ok-tree.ensures.reads.calls
    (c.check_tree.ensures.bad past can) in
    ok-map c.check_tree.result (λ bad judged. bad-some image payload hash tree bad is judged) (bad is)
