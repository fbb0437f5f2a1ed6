use Rattle.std.proofs.Common.{◌≡◌, ◌∙◌, sym}
use Rattle.rp_disk.specs.History.{held}
use Rattle.rp_disk.specs.Made.{history_of}
use Rattle.rp_disk.proofs.Noting.{can_before}
use Rattle.rp_tree.specs.Reads.{end_of}
use Rattle.rp_tree.proofs.ReadsLemmas.{as_before, reads-farther, reads-fault, reads-none, reads-then, reads-value}
use Rattle.rp_dissect.specs.Kinds.{has_tree, is_luks}
use Rattle.rp_dissect.specs.Reach.{ends_with}
use Rattle.rp_dissect.proofs.Kinding.{kinds-luks, kinds-plain, kinds-small, kinds-tree}
use Rattle.rp_dissect.proofs.Reaching.{ends_behind}
use Rattle.rp_dissect.proofs.found.kinds_of.Goals as goal

pub returns-then-row-lt-BLOCK_UNITS-clause-kinds : goal.returns-then-row-lt-BLOCK_UNITS-clause-kinds
returns-then-row-lt-BLOCK_UNITS-clause-kinds g c past can =
    sym (kinds-small (held (history_of past (g.D.Disk.device c.args.disk.now).calls)) c.args.row.now c.args.tree c.if-row-lt-BLOCK_UNITS.true)

pub returns-then-branch-clause-kinds : goal.returns-then-branch-clause-kinds
returns-then-branch-clause-kinds g c past can =
    sym (kinds-luks (held (history_of past (g.D.Disk.device c.args.disk.now).calls)) c.args.row.now c.args.tree c.if-row-lt-BLOCK_UNITS.false
    (sym (c.in_ok-is_luks.ensures.luks past can) ∙ c.if-branch.true))

pub returns-then-branch-2-clause-kinds : goal.returns-then-branch-2-clause-kinds
returns-then-branch-2-clause-kinds g c past can =
    let row = c.args.row.now in
    let image = held (history_of past (g.D.Disk.device c.args.disk.now).calls) in
    let luks : c.in_ok-is_luks.field-0 ≡ is_luks image row =
    c.in_ok-is_luks.ensures.luks past (can_before c.in_ok-has_tree.ensures.reads.earlier can) in
    let tree : c.in_ok-has_tree.field-0 ≡ has_tree image row c.args.tree =
    as_before (λ h. c.in_ok-has_tree.field-0 ≡ has_tree (held h) row c.args.tree) past (g.D.Disk.device c.args.disk.now)
    (g.D.Disk.device c.is_luks.new.disk) c.in_ok-is_luks.ensures.reads.calls
    (c.in_ok-has_tree.ensures.tree past can) in
    sym (kinds-tree image row c.args.tree c.if-row-lt-BLOCK_UNITS.false (sym luks ∙ c.if-branch.false) (sym tree ∙ c.if-branch-2.true))

pub returns-else-branch-2-clause-kinds : goal.returns-else-branch-2-clause-kinds
returns-else-branch-2-clause-kinds g c past can =
    let row = c.args.row.now in
    let image = held (history_of past (g.D.Disk.device c.args.disk.now).calls) in
    let luks : c.in_ok-is_luks.field-0 ≡ is_luks image row =
    c.in_ok-is_luks.ensures.luks past (can_before c.in_ok-has_tree.ensures.reads.earlier can) in
    let tree : c.in_ok-has_tree.field-0 ≡ has_tree image row c.args.tree =
    as_before (λ h. c.in_ok-has_tree.field-0 ≡ has_tree (held h) row c.args.tree) past (g.D.Disk.device c.args.disk.now)
    (g.D.Disk.device c.is_luks.new.disk) c.in_ok-is_luks.ensures.reads.calls
    (c.in_ok-has_tree.ensures.tree past can) in
    sym (kinds-plain image row c.args.tree c.if-row-lt-BLOCK_UNITS.false (sym luks ∙ c.if-branch.false) (sym tree ∙ c.if-branch-2.false))

pub returns-then-row-lt-BLOCK_UNITS-clause-reads : goal.returns-then-row-lt-BLOCK_UNITS-clause-reads
returns-then-row-lt-BLOCK_UNITS-clause-reads g c = reads-none _ (g.D.Disk.device c.args.disk.now) _

pub returns-in_err-has_tree-clause-reads : goal.returns-in_err-has_tree-clause-reads
returns-in_err-has_tree-clause-reads g c =
    let end = ends_with c.args.row.now c.args.tree in
    reads-fault end _ c.from_residual-in_err-has_tree.result c.from_residual-in_err-has_tree.ensures.0
    (reads-then end _ _ (reads-farther (end_of c.args.row.now) end _ (ends_behind c.args.row.now c.args.tree) c.in_ok-is_luks.ensures.reads)
    c.in_err-has_tree.ensures.reads)

pub returns-then-branch-2-clause-reads : goal.returns-then-branch-2-clause-reads
returns-then-branch-2-clause-reads g c =
    let end = ends_with c.args.row.now c.args.tree in
    reads-value end c.in_ok-has_tree.field-0 _
    (reads-then end _ _ (reads-farther (end_of c.args.row.now) end _ (ends_behind c.args.row.now c.args.tree) c.in_ok-is_luks.ensures.reads)
    c.in_ok-has_tree.ensures.reads)

pub returns-else-branch-2-clause-reads : goal.returns-else-branch-2-clause-reads
returns-else-branch-2-clause-reads g c =
    let end = ends_with c.args.row.now c.args.tree in
    reads-value end c.in_ok-has_tree.field-0 _
    (reads-then end _ _ (reads-farther (end_of c.args.row.now) end _ (ends_behind c.args.row.now c.args.tree) c.in_ok-is_luks.ensures.reads)
    c.in_ok-has_tree.ensures.reads)
