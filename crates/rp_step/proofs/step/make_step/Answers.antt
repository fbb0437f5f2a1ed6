use Rattle.std.proofs.Common.{◌≡◌}
use Rattle.rp_disk.proofs.Noting.{inside_told}
use Rattle.rp_step.specs.Found.{HasFile, outside_of}
use Rattle.rp_step.proofs.Arms.{copy_made, disk_cause, fill_disk_cause, fill_source_cause, fixed_made, fixed_of, source_still, still, tree_disk_cause, tree_made, tree_source_still}
use Rattle.rp_step.proofs.Kept.{stocked_still}
use Rattle.rp_step.proofs.step.make_step.Goals as goal

pub returns-in-Copy-clause-made : goal.returns-in-Copy-clause-made
returns-in-Copy-clause-made g c = λ o can.
    rw (c.in-Copy.is, c.of_fill.ensures)
    (copy_made _ (outside_of _ c.args.paths.now _) c.in-Copy.file c.in-Copy.at c.in-Copy.len _ _ c.copy.result
    (rw c.path.ensures at c.copy.ensures.ran))

pub returns-in-Copy-clause-stocked : goal.returns-in-Copy-clause-stocked
returns-in-Copy-clause-stocked g c = stocked_still c.args.plan.now _ _ c.requires.stocked c.copy.ensures.kept

pub returns-in-Copy-clause-disk_cause : goal.returns-in-Copy-clause-disk_cause
returns-in-Copy-clause-disk_cause g c = rw c.of_fill.ensures (fill_disk_cause _ _ c.copy.result c.copy.ensures.disk_cause)

pub returns-in-Copy-clause-source_cause : goal.returns-in-Copy-clause-source_cause
returns-in-Copy-clause-source_cause g c = rw c.of_fill.ensures (fill_source_cause _ _ c.copy.result c.copy.ensures.source_cause)

pub returns-in-Tree-clause-made : goal.returns-in-Tree-clause-made
returns-in-Tree-clause-made g c = λ o can.
    let a = c.in-Tree in
    rw (a.is, c.of_tree.ensures)
    (tree_made _ (outside_of _ c.args.paths.now _) a.data_at a.hash_at a.count a.salt a.uuid a.root _ _ c.tree.result
    (c.tree.ensures.written o can))

pub returns-in-Tree-clause-stocked : goal.returns-in-Tree-clause-stocked
returns-in-Tree-clause-stocked g c = stocked_still c.args.plan.now _ _ c.requires.stocked c.tree.ensures.kept

pub returns-in-Tree-clause-disk_cause : goal.returns-in-Tree-clause-disk_cause
returns-in-Tree-clause-disk_cause g c = rw c.of_tree.ensures (tree_disk_cause _ _ c.tree.result c.in-Tree.root c.tree.ensures.cause)

pub returns-in-Tree-clause-source_cause : goal.returns-in-Tree-clause-source_cause
returns-in-Tree-clause-source_cause g c = rw c.of_tree.ensures (tree_source_still _ c.tree.result c.in-Tree.root)

pub make_fixed-requires-clause-fixed : goal.make_fixed-requires-clause-fixed
make_fixed-requires-clause-fixed g c = fixed_of c.args.paths.now c.args.step.now c.requires.can c.in_default.not-Copy c.in_default.not-Tree

pub returns-in_default-clause-made : goal.returns-in_default-clause-made
returns-in_default-clause-made g c = λ o can.
    rw c.of_disk.ensures
    (fixed_made _ (outside_of _ c.args.paths.now _) c.args.step.now _ _ c.make_fixed.result
    (fixed_of c.args.paths.now c.args.step.now c.requires.can c.in_default.not-Copy c.in_default.not-Tree) c.make_fixed.ensures.ran)

pub returns-in_default-clause-disk_cause : goal.returns-in_default-clause-disk_cause
returns-in_default-clause-disk_cause g c = rw c.of_disk.ensures (disk_cause _ _ c.make_fixed.result c.make_fixed.ensures.cause)

pub returns-in_default-clause-source_cause : goal.returns-in_default-clause-source_cause
returns-in_default-clause-source_cause g c = rw c.of_disk.ensures (source_still _ c.make_fixed.result)

pub returns-in-Copy-clause-source_strays : goal.returns-in-Copy-clause-source_strays
returns-in-Copy-clause-source_strays g c = rw c.in-Copy.is (rw c.path.ensures at c.copy.ensures.source_strays)

pub returns-in-Tree-clause-source_strays : goal.returns-in-Tree-clause-source_strays
returns-in-Tree-clause-source_strays g c = still _ (λ files. HasFile files c.args.paths.now c.args.step.now) _

pub returns-in_default-clause-source_strays : goal.returns-in_default-clause-source_strays
returns-in_default-clause-source_strays g c = still _ (λ files. HasFile files c.args.paths.now c.args.step.now) _

pub returns-in-Copy-clause-disk_strays : goal.returns-in-Copy-clause-disk_strays
returns-in-Copy-clause-disk_strays g c = λ o can. rw c.in-Copy.is (inside_told o (g.D.Disk.device c.args.disk.now) (g.D.Disk.device c.copy.new.disk) _ c.copy.ensures.disk_inside)

pub returns-in-Tree-clause-disk_strays : goal.returns-in-Tree-clause-disk_strays
returns-in-Tree-clause-disk_strays g c = λ o can. rw c.in-Tree.is (c.tree.ensures.strays o can)

pub returns-in_default-clause-disk_strays : goal.returns-in_default-clause-disk_strays
returns-in_default-clause-disk_strays g c = λ o can. inside_told o (g.D.Disk.device c.args.disk.now) (g.D.Disk.device c.make_fixed.new.disk) _ c.make_fixed.ensures.inside
