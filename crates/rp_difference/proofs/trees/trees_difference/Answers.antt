-- The tree of usr is looked at where nothing is wrong of that of root.
use Rattle.std.proofs.Common.{◌≡◌, ◌∙◌, None, IfOk, sym, ap}
use Rattle.std.specs.Option.{option_or}
use Rattle.rp_disk.specs.History.{History, held}
use Rattle.rp_disk.specs.Made.{history_of}
use Rattle.rp_disk.proofs.Noting.{can_before}
use Rattle.rp_tree.proofs.ReadsLemmas.{as_before, ok-map, reads-then}
use Rattle.rp_types.specs.declared.arch.Designator.TheVariants as designators
use Rattle.rp_difference.specs.Difference.{tree_difference}
use Rattle.rp_difference.proofs.trees.trees_difference.Goals as goal

pub returns-clause-reads : goal.returns-clause-reads
returns-clause-reads g c =
    reads-then _ c.in_ok-found.field-0 c.tree_difference-2.result c.in_ok-found.ensures.reads
    c.tree_difference-2.ensures.reads

pub returns-clause-found : goal.returns-clause-found
returns-clause-found g c past can =
    let bytes = held (history_of past (g.D.Disk.device c.args.disk.now).calls) in
    let none : None ≡ tree_difference bytes c.args.arch c.args.seen.now.shown.rows designators.Root =
    cc (c.in_default.is, c.in_ok-found.ensures.found past (can_before c.tree_difference-2.ensures.reads.earlier can)) in
    let usr = tree_difference bytes c.args.arch c.args.seen.now.shown.rows designators.Usr in
    ok-map c.tree_difference-2.result (λ found is. is ∙ ap (λ root. option_or root usr) none)
    (as_before (λ h. IfOk c.tree_difference-2.result (λ found. found ≡ tree_difference (held h) c.args.arch c.args.seen.now.shown.rows designators.Usr))
    past (g.D.Disk.device c.args.disk.now) (g.D.Disk.device c.tree_difference.new.disk) c.in_ok-found.ensures.reads.calls (c.tree_difference-2.ensures.found past can))
