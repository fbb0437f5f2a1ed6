use Rattle.std.proofs.Common.{◌≡◌, ◌≤◌, ℕ, Some, Option, ◌∙◌, ap, sym, subst}
use Rattle.std.specs.Prelude.{IfSome}
use Rattle.rp_base.specs.declared.table.Row.{Row}
use Rattle.rp_disk.specs.History.{held}
use Rattle.rp_disk.specs.Made.{history_of}
use Rattle.rp_tree.proofs.ReadsLemmas.{reads-farther, reads-fault, reads-none, reads-value}
use Rattle.rp_dissect.specs.Kinds.{found_as, kinds_of}
use Rattle.rp_dissect.specs.Reach.{ends_with, farthest}
use Rattle.rp_dissect.proofs.Kinding.{found-none, found-some}
use Rattle.rp_dissect.proofs.Reaching.{IsAmong, ends_among, row_among, tree_among, well_of}
use Rattle.rp_dissect.proofs.found.found_of.Goals as goal

pub returns-in_default-clause-found : goal.returns-in_default-clause-found
returns-in_default-clause-found g c past can =
    sym (found-none (held (history_of past (g.D.Disk.device c.args.disk.now).calls)) c.args.arch c.args.rows.now c.args.designator
    (sym c.row_of.ensures ∙ c.in_default.is))

pub kinds_of-requires-clause-row : goal.kinds_of-requires-clause-row
kinds_of-requires-clause-row g c =
    (subst (λ (o : Option Row). IfSome o (IsAmong c.args.rows.now)) (sym c.row_of.ensures ∙ c.in-Some.is)
    (row_among c.args.arch c.args.rows.now c.args.designator c.requires.rows)).0

pub kinds_of-requires-clause-tree : goal.kinds_of-requires-clause-tree
kinds_of-requires-clause-tree g c =
    well_of c.args.rows.now c.tree_row-tree.result
    (subst (λ (o : Option Row). IfSome o (IsAmong c.args.rows.now)) (sym c.tree_row-tree.ensures)
    (tree_among c.args.arch c.args.rows.now c.args.designator c.requires.rows))

pub returns-in_err-kinds-clause-reads : goal.returns-in_err-kinds-clause-reads
returns-in_err-kinds-clause-reads g c =
    let rows = c.args.rows.now in
    let near : ends_with c.in-Some.row c.tree_row-tree.result ≤ farthest rows =
    ends_among rows c.in-Some.row c.tree_row-tree.result
    (subst (λ (o : Option Row). IfSome o (IsAmong rows)) (sym c.row_of.ensures ∙ c.in-Some.is)
    (row_among c.args.arch rows c.args.designator c.requires.rows))
    (subst (λ (o : Option Row). IfSome o (IsAmong rows)) (sym c.tree_row-tree.ensures)
    (tree_among c.args.arch rows c.args.designator c.requires.rows)) in
    reads-fault (farthest rows) _ c.from_residual.result c.from_residual.ensures.0
    (reads-farther (ends_with c.in-Some.row c.tree_row-tree.result) (farthest rows) _ near c.in_err-kinds.ensures.reads)

pub returns-clause-reads : goal.returns-clause-reads
returns-clause-reads g c =
    let rows = c.args.rows.now in
    let near : ends_with c.in-Some.row c.tree_row-tree.result ≤ farthest rows =
    ends_among rows c.in-Some.row c.tree_row-tree.result
    (subst (λ (o : Option Row). IfSome o (IsAmong rows)) (sym c.row_of.ensures ∙ c.in-Some.is)
    (row_among c.args.arch rows c.args.designator c.requires.rows))
    (subst (λ (o : Option Row). IfSome o (IsAmong rows)) (sym c.tree_row-tree.ensures)
    (tree_among c.args.arch rows c.args.designator c.requires.rows)) in
    reads-value (farthest rows) c.in_ok-kinds.kinds _
    (reads-farther (ends_with c.in-Some.row c.tree_row-tree.result) (farthest rows) _ near c.in_ok-kinds.ensures.reads)

pub returns-clause-found : goal.returns-clause-found
returns-clause-found g c past can =
    let rows = c.args.rows.now in
    let row = c.in-Some.row in
    let image = held (history_of past (g.D.Disk.device c.args.disk.now).calls) in
    sym (found-some image c.args.arch rows c.args.designator row (sym c.row_of.ensures ∙ c.in-Some.is)
    ∙ ap (λ (kinds : ℕ). Some (found_as row kinds))
    (ap (λ (tree : Option Row). kinds_of image row tree) (sym c.tree_row-tree.ensures) ∙ sym (c.in_ok-kinds.ensures.kinds past can))
    ∙ ap Some (sym c.found_as.ensures))

pub returns-in_default-clause-reads : goal.returns-in_default-clause-reads
returns-in_default-clause-reads g c = reads-none _ (g.D.Disk.device c.args.disk.now) _
