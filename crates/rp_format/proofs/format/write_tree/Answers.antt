-- The hash blocks, and then the superblock.
use Rattle.std.proofs.Common.{◌≡◌, ◌+◌, ◌≤◌, [], length, sym, ◌∙◌, arith}
use Rattle.std.specs.Prelude.{IfSome}
use Rattle.rp_disk.specs.History.{IsLawful}
use Rattle.rp_disk.specs.Device.{missed_by}
use Rattle.rp_disk.specs.Made.{history_told}
use Rattle.rp_disk.specs.declared.call.Call.{Call}
use Rattle.rp_disk.specs.declared.call.Call.TheVariants.{Write}
use Rattle.rp_disk.proofs.Noting.{possible_before, possible_lawful}
use Rattle.rp_disk.proofs.Runs.{broke_off_at, one_more}
use Rattle.rp_verity.specs.Superblock.{superblock}
use Rattle.rp_format.specs.Written.{LieIn, hash_calls, hash_end}
use Rattle.rp_format.specs.declared.tree.TreePlan.{TreePlan}
use Rattle.rp_format.proofs.Ends.{block_ends, broke_before, hash_length, same_bytes, tree_err}
use Rattle.rp_format.proofs.Told.{SameLength, Stays, stays_call, stays_more, stays_of, stays_says}
use Rattle.rp_format.proofs.format.write_tree.Goals as goal

pub returns-in_err-root-clause-written : goal.returns-in_err-root-clause-written
returns-in_err-root-clause-written g c = λ o can.
    let tree : TreePlan = c.args.tree.now in
    let wrote = c.in_err-root.ensures.written o can in (
      wrote.0,
      wrote.1,
      wrote.2,
      tree_err c.from_residual.result tree wrote.0 _ _ c.from_residual.ensures.0
          (broke_before _ _ (hash_calls tree wrote.0) (Write tree.hash_at (superblock tree.uuid tree.blocks tree.salt)) wrote.3.failed),
    )

pub returns-in_err-write-clause-written : goal.returns-in_err-write-clause-written
returns-in_err-write-clause-written g c = λ o can.
    let tree : TreePlan = c.args.tree.now in
    let before = possible_before o c.write.ensures.earlier can in
    let wrote = c.in_ok-root.ensures.written o before in
    let call : Call = Write tree.hash_at (superblock tree.uuid tree.blocks tree.salt) in (
      wrote.0,
      wrote.1,
      wrote.2,
      tree_err c.from_residual-in_err-write.result tree wrote.0 _ _ c.from_residual-in_err-write.ensures.0
          (broke_off_at _ _ _ (hash_calls tree wrote.0) call [] wrote.3.done
          (rw c.write_superblock.ensures at c.in_err-write.ensures.calls.err)),
    )

pub returns-clause-written : goal.returns-clause-written
returns-clause-written g c = λ o can.
    let tree : TreePlan = c.args.tree.now in
    let before = possible_before o c.write.ensures.earlier can in
    let wrote = c.in_ok-root.ensures.written o before in
    let call : Call = Write tree.hash_at (superblock tree.uuid tree.blocks tree.salt) in
    let same : c.in_ok-root.root ≡ tree.root = same_bytes c.in_ok-root.root tree.root c.ne.result c.ne.ensures c.if-ne.false in (
      wrote.0,
      wrote.1,
      wrote.2,
      record {
        done = (
          one_more _ _ _ (hash_calls tree wrote.0) call wrote.3.done
              (rw c.write_superblock.ensures at c.in_ok-write.ensures.calls.ok),
          sym wrote.3.root ∙ same,
        );
        failed = tt;
      },
    )

pub returns-in_err-write-clause-strays : goal.returns-in_err-write-clause-strays
returns-in_err-write-clause-strays g c = λ o can.
    let tree : TreePlan = c.args.tree.now in
    let before = possible_before o c.write.ensures.earlier can in
    let wrote = c.in_ok-root.ensures.written o before in
    let lawful : IfSome (history_told o (g.D.Disk.device c.write_hashes.new.disk).calls) IsLawful =
    possible_lawful o (g.D.Disk.device c.write_hashes.new.disk) before in
    let same : SameLength o (g.D.Disk.device c.args.disk.now).calls (g.D.Disk.device c.write_hashes.new.disk).calls =
    hash_length tree wrote.0 _ _ _ wrote.3.done lawful in
    let size : length c.write_superblock.new.block ≡ 4096 = omega arith in
    let ends : tree.hash_at + 4096 ≤ hash_end tree = block_ends tree c.requires.plan in
    let one : Stays (LieIn tree) o (g.D.Disk.device c.args.disk.now).calls (missed_by o (g.D.Disk.device c.args.disk.now).answers)
    (missed_by o (g.D.Disk.device c.write_hashes.new.disk).answers) =
    stays_of (LieIn tree) _ _ _ _ (c.write_hashes.ensures.strays o before) in
    let two : Stays (LieIn tree) o (g.D.Disk.device c.write_hashes.new.disk).calls
    (missed_by o (g.D.Disk.device c.write_hashes.new.disk).answers) (missed_by o (g.D.Disk.device c.write.new.self).answers) =
    stays_call (LieIn tree) o (g.D.Disk.device c.write_hashes.new.disk) (g.D.Disk.device c.write.new.self) (tree.hash_at + length c.write_superblock.new.block) (λ n lies. let end = lies.1 in omega arith)
    c.write.ensures.inside in
    stays_says (LieIn tree) _ _ _ _ (stays_more (LieIn tree) _ _ _ _ _ _ same one two)

pub returns-clause-strays : goal.returns-clause-strays
returns-clause-strays g c = λ o can.
    let tree : TreePlan = c.args.tree.now in
    let before = possible_before o c.write.ensures.earlier can in
    let wrote = c.in_ok-root.ensures.written o before in
    let lawful : IfSome (history_told o (g.D.Disk.device c.write_hashes.new.disk).calls) IsLawful =
    possible_lawful o (g.D.Disk.device c.write_hashes.new.disk) before in
    let same : SameLength o (g.D.Disk.device c.args.disk.now).calls (g.D.Disk.device c.write_hashes.new.disk).calls =
    hash_length tree wrote.0 _ _ _ wrote.3.done lawful in
    let size : length c.write_superblock.new.block ≡ 4096 = omega arith in
    let ends : tree.hash_at + 4096 ≤ hash_end tree = block_ends tree c.requires.plan in
    let one : Stays (LieIn tree) o (g.D.Disk.device c.args.disk.now).calls (missed_by o (g.D.Disk.device c.args.disk.now).answers)
    (missed_by o (g.D.Disk.device c.write_hashes.new.disk).answers) =
    stays_of (LieIn tree) _ _ _ _ (c.write_hashes.ensures.strays o before) in
    let two : Stays (LieIn tree) o (g.D.Disk.device c.write_hashes.new.disk).calls
    (missed_by o (g.D.Disk.device c.write_hashes.new.disk).answers) (missed_by o (g.D.Disk.device c.write.new.self).answers) =
    stays_call (LieIn tree) o (g.D.Disk.device c.write_hashes.new.disk) (g.D.Disk.device c.write.new.self) (tree.hash_at + length c.write_superblock.new.block) (λ n lies. let end = lies.1 in omega arith)
    c.write.ensures.inside in
    stays_says (LieIn tree) _ _ _ _ (stays_more (LieIn tree) _ _ _ _ _ _ same one two)

pub returns-clause-range : goal.returns-clause-range
returns-clause-range g c = λ o can. c.in_ok-root.ensures.range o (possible_before o c.write.ensures.earlier can)
