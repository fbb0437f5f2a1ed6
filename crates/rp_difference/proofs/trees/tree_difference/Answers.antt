-- The rows end within the image; what is wrong of a tree is what differs.
use Rattle.std.proofs.Common.{◌≡◌, ◌≤◌, ◌*◌, ◌∙◌, Some, None, sym, ap}
use Rattle.std.specs.Prelude.{option_map}
use Rattle.rp_disk.specs.History.{held}
use Rattle.rp_disk.specs.Made.{history_of}
use Rattle.rp_tree.specs.Reads.{ends_of}
use Rattle.rp_tree.proofs.ReadsLemmas.{reads-farther, reads-fault, reads-none, reads-value}
use Rattle.rp_difference.specs.declared.difference.Difference.TheVariants as differences
use Rattle.rp_difference.proofs.Differing.{both, no_data, no_tree}
use Rattle.rp_difference.proofs.Ends.{both_end, found_ends, row_ends, tree_ends}
use Rattle.rp_difference.proofs.trees.tree_difference.Goals as goal
use Rattle.rp_verdict.specs.Rows.{row_of, tree_row}

pub returns-in_default-clause-found : goal.returns-in_default-clause-found
returns-in_default-clause-found g c past can =
    let is : row_of c.args.arch c.args.seen.now.shown.rows c.args.designator ≡ None = cc (c.row_of.ensures, c.in_default.is, c.as_slice-rows.ensures) in
    sym (no_data (held (history_of past (g.D.Disk.device c.args.disk.now).calls)) c.args.arch c.args.seen.now.shown.rows c.args.designator is)

pub returns-in_default-tree_row-clause-found : goal.returns-in_default-tree_row-clause-found
returns-in_default-tree_row-clause-found g c past can =
    let is : row_of c.args.arch c.args.seen.now.shown.rows c.args.designator ≡ Some c.in-Some.payload =
    cc (c.row_of.ensures, c.in-Some.is, c.as_slice-rows.ensures) in
    let none : tree_row c.args.arch c.args.seen.now.shown.rows c.args.designator ≡ None =
    cc (c.tree_row.ensures, c.in_default-tree_row.is, c.as_slice-rows.ensures) in
    sym (no_tree (held (history_of past (g.D.Disk.device c.args.disk.now).calls)) c.args.arch c.args.seen.now.shown.rows c.args.designator c.in-Some.payload is none)

pub bad_of-requires-clause-payload : goal.bad_of-requires-clause-payload
bad_of-requires-clause-payload g c =
    let is : row_of c.args.arch c.args.seen.now.shown.rows c.args.designator ≡ Some c.in-Some.payload =
    cc (c.row_of.ensures, c.in-Some.is, c.as_slice-rows.ensures) in
    (found_ends c.args.seen.now.sectors _ c.in-Some.payload is (row_ends c.args.arch c.args.seen.now c.args.designator c.requires.seen)).1

pub bad_of-requires-clause-hash : goal.bad_of-requires-clause-hash
bad_of-requires-clause-hash g c =
    let is : tree_row c.args.arch c.args.seen.now.shown.rows c.args.designator ≡ Some c.in-Some-tree_row.hash =
    cc (c.tree_row.ensures, c.in-Some-tree_row.is, c.as_slice-rows.ensures) in
    (found_ends c.args.seen.now.sectors _ c.in-Some-tree_row.hash is (tree_ends c.args.arch c.args.seen.now c.args.designator c.requires.seen)).1

pub returns-in_err-bad-clause-reads : goal.returns-in_err-bad-clause-reads
returns-in_err-bad-clause-reads g c =
    let is : row_of c.args.arch c.args.seen.now.shown.rows c.args.designator ≡ Some c.in-Some.payload =
    cc (c.row_of.ensures, c.in-Some.is, c.as_slice-rows.ensures) in
    let too : tree_row c.args.arch c.args.seen.now.shown.rows c.args.designator ≡ Some c.in-Some-tree_row.hash =
    cc (c.tree_row.ensures, c.in-Some-tree_row.is, c.as_slice-rows.ensures) in
    let near : ends_of c.in-Some.payload c.in-Some-tree_row.hash ≤ 512 * c.args.seen.now.sectors =
    both_end c.args.seen.now.sectors c.in-Some.payload c.in-Some-tree_row.hash
    (found_ends c.args.seen.now.sectors _ c.in-Some.payload is (row_ends c.args.arch c.args.seen.now c.args.designator c.requires.seen))
    (found_ends c.args.seen.now.sectors _ c.in-Some-tree_row.hash too (tree_ends c.args.arch c.args.seen.now c.args.designator c.requires.seen)) in
    reads-fault (512 * c.args.seen.now.sectors) _ c.from_residual.result c.from_residual.ensures.0
    (reads-farther (ends_of c.in-Some.payload c.in-Some-tree_row.hash) (512 * c.args.seen.now.sectors) _ near c.in_err-bad.ensures.reads)

pub returns-in-Some-2-clause-reads : goal.returns-in-Some-2-clause-reads
returns-in-Some-2-clause-reads g c =
    let is : row_of c.args.arch c.args.seen.now.shown.rows c.args.designator ≡ Some c.in-Some.payload =
    cc (c.row_of.ensures, c.in-Some.is, c.as_slice-rows.ensures) in
    let too : tree_row c.args.arch c.args.seen.now.shown.rows c.args.designator ≡ Some c.in-Some-tree_row.hash =
    cc (c.tree_row.ensures, c.in-Some-tree_row.is, c.as_slice-rows.ensures) in
    let near : ends_of c.in-Some.payload c.in-Some-tree_row.hash ≤ 512 * c.args.seen.now.sectors =
    both_end c.args.seen.now.sectors c.in-Some.payload c.in-Some-tree_row.hash
    (found_ends c.args.seen.now.sectors _ c.in-Some.payload is (row_ends c.args.arch c.args.seen.now c.args.designator c.requires.seen))
    (found_ends c.args.seen.now.sectors _ c.in-Some-tree_row.hash too (tree_ends c.args.arch c.args.seen.now c.args.designator c.requires.seen)) in
    reads-value (512 * c.args.seen.now.sectors) c.in_ok-bad.field-0 _
    (reads-farther (ends_of c.in-Some.payload c.in-Some-tree_row.hash) (512 * c.args.seen.now.sectors) _ near c.in_ok-bad.ensures.reads)

pub returns-in-None-clause-reads : goal.returns-in-None-clause-reads
returns-in-None-clause-reads g c =
    let is : row_of c.args.arch c.args.seen.now.shown.rows c.args.designator ≡ Some c.in-Some.payload =
    cc (c.row_of.ensures, c.in-Some.is, c.as_slice-rows.ensures) in
    let too : tree_row c.args.arch c.args.seen.now.shown.rows c.args.designator ≡ Some c.in-Some-tree_row.hash =
    cc (c.tree_row.ensures, c.in-Some-tree_row.is, c.as_slice-rows.ensures) in
    let near : ends_of c.in-Some.payload c.in-Some-tree_row.hash ≤ 512 * c.args.seen.now.sectors =
    both_end c.args.seen.now.sectors c.in-Some.payload c.in-Some-tree_row.hash
    (found_ends c.args.seen.now.sectors _ c.in-Some.payload is (row_ends c.args.arch c.args.seen.now c.args.designator c.requires.seen))
    (found_ends c.args.seen.now.sectors _ c.in-Some-tree_row.hash too (tree_ends c.args.arch c.args.seen.now c.args.designator c.requires.seen)) in
    reads-value (512 * c.args.seen.now.sectors) c.in_ok-bad.field-0 _
    (reads-farther (ends_of c.in-Some.payload c.in-Some-tree_row.hash) (512 * c.args.seen.now.sectors) _ near c.in_ok-bad.ensures.reads)

pub returns-in-Some-2-clause-found : goal.returns-in-Some-2-clause-found
returns-in-Some-2-clause-found g c past can =
    let is : row_of c.args.arch c.args.seen.now.shown.rows c.args.designator ≡ Some c.in-Some.payload =
    cc (c.row_of.ensures, c.in-Some.is, c.as_slice-rows.ensures) in
    let too : tree_row c.args.arch c.args.seen.now.shown.rows c.args.designator ≡ Some c.in-Some-tree_row.hash =
    cc (c.tree_row.ensures, c.in-Some-tree_row.is, c.as_slice-rows.ensures) in
    ap (option_map (differences.Tree c.args.designator)) (sym c.in-Some-2.is)
    ∙ both (held (history_of past (g.D.Disk.device c.args.disk.now).calls)) c.args.arch c.args.seen.now.shown.rows c.args.designator c.in-Some.payload
    c.in-Some-tree_row.hash c.in_ok-bad.field-0 is too (c.in_ok-bad.ensures.bad past can)

pub returns-in-None-clause-found : goal.returns-in-None-clause-found
returns-in-None-clause-found g c past can =
    let is : row_of c.args.arch c.args.seen.now.shown.rows c.args.designator ≡ Some c.in-Some.payload =
    cc (c.row_of.ensures, c.in-Some.is, c.as_slice-rows.ensures) in
    let too : tree_row c.args.arch c.args.seen.now.shown.rows c.args.designator ≡ Some c.in-Some-tree_row.hash =
    cc (c.tree_row.ensures, c.in-Some-tree_row.is, c.as_slice-rows.ensures) in
    ap (option_map (differences.Tree c.args.designator)) (sym c.in-None.is)
    ∙ both (held (history_of past (g.D.Disk.device c.args.disk.now).calls)) c.args.arch c.args.seen.now.shown.rows c.args.designator c.in-Some.payload
    c.in-Some-tree_row.hash c.in_ok-bad.field-0 is too (c.in_ok-bad.ensures.bad past can)

pub returns-in_default-clause-reads : goal.returns-in_default-clause-reads
returns-in_default-clause-reads g c = reads-none _ (g.D.Disk.device c.args.disk.now) _

pub returns-in_default-tree_row-clause-reads : goal.returns-in_default-tree_row-clause-reads
returns-in_default-tree_row-clause-reads g c = reads-none _ (g.D.Disk.device c.args.disk.now) _
