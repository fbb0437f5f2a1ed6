-- All data blocks are taken in turn, some of them read at once.
use Rattle.std.proofs.Common.{◌≡◌, ℕ, ◌+◌, ◌-◌, ◌*◌, ◌<◌, ◌≤◌, [], ◌∷◌, ◌++◌, length, length-take-le, min, take, refl, ◌∙◌, arith}
use Rattle.std.specs.Prelude.{IfSome, None}
use Rattle.rp_disk.specs.History.{IsLawful}
use Rattle.rp_disk.specs.Made.{history_told}
use Rattle.rp_disk.proofs.Noting.{earlier_same, earlier_then, known_told, possible_before, possible_lawful}
use Rattle.rp_format.specs.Taking.{IsAt}
use Rattle.rp_format.specs.Written.{LieIn}
use Rattle.rp_format.specs.declared.tree.TreePlan.{TreePlan}
use Rattle.rp_format.proofs.Steps.{Reaches, SoFar, length_so_far, on_ok, reaches_all, reaches_none, reaches_run, run_read, so_far_blocks, so_far_broke, so_far_more, so_far_none, so_far_same, so_far_shown, so_far_stopped, writes_err, writes_hashes}
use Rattle.rp_format.proofs.Told.{SameLength, stays_more, stays_none, stays_of, stays_says, told_so}
use Rattle.rp_format.proofs.format.write_hashes.Goals as goal

pub runs-init : goal.runs-init
runs-init g c =
    let none : min 0 c.args.tree.now.blocks ≡ 0 = omega arith in
    let at : IsAt c.args.tree.now 0 c.new-builder.result =
    record { sound = c.new-builder.ensures.builder; blocks = c.new-builder.ensures.blocks; pushed = c.new-builder.ensures.pushed } in
    record {
      builder = rw none at;
      waiting = c.new-waiting.ensures;
      earlier = earlier_same _;
      faults = refl;
      strays = λ o can. stays_none _ _ _ _;
      reaches = λ o can. rw none (reaches_none _ _ _);
      so_far = λ o can. ([], rw none (so_far_none _ _ _ _ c.new-builder.ensures.taken));
    }

pub returns-in_err-read_run-clause-written : goal.returns-in_err-read_run-clause-written
returns-in_err-read_run-clause-written g c = λ o can.
    let could = possible_before o c.read_run.ensures.earlier can in
    let tree : TreePlan = c.args.tree.now in
    let k : ℕ = 4 * c.runs.turn in
    let below : k < tree.blocks = omega (arith, c.runs-test.true) in
    let before : min (4 * c.runs.turn) tree.blocks ≡ k = omega arith in
    let so = c.runs.invariant.so_far o could in
    let here : SoFar tree o (g.D.Disk.device c.args.disk.now).calls c.runs.builder k (g.D.Disk.device c.runs.disk).calls so.0 =
    rw before at so.1 in
    writes_err c.from_residual.result tree _ _ _ c.from_residual.ensures.0
    (so_far_stopped tree _ _ c.runs.builder k _ _ so.0 here below c.read_run.ensures.calls)

pub returns-in_err-read_run-clause-strays : goal.returns-in_err-read_run-clause-strays
returns-in_err-read_run-clause-strays g c = λ o can.
    let could = possible_before o c.read_run.ensures.earlier can in
    let tree : TreePlan = c.args.tree.now in
    let so = c.runs.invariant.so_far o could in
    let lawful : IfSome (history_told o (g.D.Disk.device c.runs.disk).calls) IsLawful =
    possible_lawful o (g.D.Disk.device c.runs.disk) could in
    let same : SameLength o (g.D.Disk.device c.args.disk.now).calls (g.D.Disk.device c.runs.disk).calls =
    length_so_far tree _ _ c.runs.builder _ _ so.0 so.1 (omega arith) lawful in
    stays_says (LieIn tree) _ _ _ _
    (stays_more (LieIn tree) _ _ _ _ _ _ same (c.runs.invariant.strays o could)
    (stays_of (LieIn tree) _ _ _ _ (c.read_run.ensures.strays o can)))

pub each-init : goal.each-init
each-init g c =
    let tree : TreePlan = c.args.tree.now in
    let k : ℕ = 4 * c.runs.turn in
    let count : ℕ = min (tree.blocks - k) 4 in
    let low : k < tree.blocks = omega (arith, c.runs-test.true) in
    let counted : c.min-count.result ≡ count = omega arith in
    let old_long : length (take (4096 * c.min-count.result) c.runs.buffer) ≡ 4096 * c.min-count.result =
    length-take-le (4096 * c.min-count.result) c.runs.buffer (omega arith) in
    let olds_long : length (take c.min-count.result c.runs.hashed) ≡ c.min-count.result =
    length-take-le c.min-count.result c.runs.hashed (omega arith) in
    let long : length c.read_run.new.run ≡ length (take (4096 * c.min-count.result) c.runs.buffer) = c.read_run.auto.run in
    let start : min (4 * c.runs.turn) tree.blocks ≡ k = omega arith in
    let before : k ≡ k + 0 = omega arith in
    let at : IsAt tree k c.runs.builder = rw start at c.runs.invariant.builder in
    record {
      builder = rw before at at;
      waiting = c.runs.invariant.waiting;
      earlier = earlier_then c.runs.invariant.earlier c.read_run.ensures.earlier;
      faults = c.in_ok-read_run.ensures.cause.kept ∙ c.runs.invariant.faults;
      strays = λ o can.
          let could = possible_before o c.read_run.ensures.earlier can in
          let so = c.runs.invariant.so_far o could in
          let here : SoFar tree o (g.D.Disk.device c.args.disk.now).calls c.runs.builder k (g.D.Disk.device c.runs.disk).calls so.0 =
          rw start at so.1 in
          let lawful : IfSome (history_told o (g.D.Disk.device c.runs.disk).calls) IsLawful =
          possible_lawful o (g.D.Disk.device c.runs.disk) could in
          let same : SameLength o (g.D.Disk.device c.args.disk.now).calls (g.D.Disk.device c.runs.disk).calls =
          length_so_far tree _ _ c.runs.builder k _ so.0 here (omega arith) lawful in
          stays_more (LieIn tree) _ _ _ _ _ _ same (c.runs.invariant.strays o could)
          (stays_of (LieIn tree) _ _ _ _ (c.read_run.ensures.strays o can));
      read = λ o can.
          let could = possible_before o c.read_run.ensures.earlier can in
          let so = c.runs.invariant.so_far o could in
          let here : SoFar tree o (g.D.Disk.device c.args.disk.now).calls c.runs.builder k (g.D.Disk.device c.runs.disk).calls so.0 =
          rw start at so.1 in
          let lawful : IfSome (history_told o (g.D.Disk.device c.runs.disk).calls) IsLawful =
          possible_lawful o (g.D.Disk.device c.runs.disk) could in
          let same : SameLength o (g.D.Disk.device c.args.disk.now).calls (g.D.Disk.device c.runs.disk).calls =
          length_so_far tree _ _ c.runs.builder k _ so.0 here (omega arith) lawful in
          run_read tree c.requires.plan _ _ c.runs.builder k c.min-count.result _ _ so.0 c.read_run.new.run c.read_run.new.digests here
          (omega arith) old_long long lawful (known_told o (g.D.Disk.device c.runs.disk) (g.D.Disk.device c.read_run.new.disk) _ c.in_ok-read_run.ensures.range can) (known_told o (g.D.Disk.device c.runs.disk) (g.D.Disk.device c.read_run.new.disk) _ c.in_ok-read_run.ensures.bytes can)
          (rw olds_long at c.in_ok-read_run.ensures.digests);
      reaches = λ o can.
          let could = possible_before o c.read_run.ensures.earlier can in
          let so = c.runs.invariant.so_far o could in
          let here : SoFar tree o (g.D.Disk.device c.args.disk.now).calls c.runs.builder k (g.D.Disk.device c.runs.disk).calls so.0 =
          rw start at so.1 in
          let lawful : IfSome (history_told o (g.D.Disk.device c.runs.disk).calls) IsLawful =
          possible_lawful o (g.D.Disk.device c.runs.disk) could in
          let same : SameLength o (g.D.Disk.device c.args.disk.now).calls (g.D.Disk.device c.runs.disk).calls =
          length_so_far tree _ _ c.runs.builder k _ so.0 here (omega arith) lawful in
          reaches_run tree k c.min-count.result _ _ _ _ _ same old_long refl (known_told o (g.D.Disk.device c.runs.disk) (g.D.Disk.device c.read_run.new.disk) _ c.in_ok-read_run.ensures.range can);
      so_far = λ o can.
          let could = possible_before o c.read_run.ensures.earlier can in
          let so = c.runs.invariant.so_far o could in
          let here : SoFar tree o (g.D.Disk.device c.args.disk.now).calls c.runs.builder k (g.D.Disk.device c.runs.disk).calls so.0 =
          rw start at so.1 in
          let lawful : IfSome (history_told o (g.D.Disk.device c.runs.disk).calls) IsLawful =
          possible_lawful o (g.D.Disk.device c.runs.disk) could in
          let same : SameLength o (g.D.Disk.device c.args.disk.now).calls (g.D.Disk.device c.runs.disk).calls =
          length_so_far tree _ _ c.runs.builder k _ so.0 here (omega arith) lawful in
          (so.0, so_far_same tree o _ c.runs.builder k (k + 0) _ _ so.0 here before c.read_run.ensures.calls);
    }

pub take_block-requires-clause-builder : goal.take_block-requires-clause-builder
take_block-requires-clause-builder g c = c.each.invariant.builder

pub take_block-requires-clause-waiting : goal.take_block-requires-clause-waiting
take_block-requires-clause-waiting g c = c.each.invariant.waiting

pub take_block-requires-clause-taken : goal.take_block-requires-clause-taken
take_block-requires-clause-taken g c = let so = c.each.invariant.so_far None tt in (so.0, so.1.has)

pub take_block-requires-clause-block : goal.take_block-requires-clause-block
take_block-requires-clause-block g c =
    let read = c.each.invariant.read None tt c.each.i c.each-test.true in
    (read.0, read.1)

pub each-preserved : goal.each-preserved
each-preserved g c =
    let tree : TreePlan = c.args.tree.now in
    let k : ℕ = 4 * c.runs.turn in
    let i : ℕ = c.each.i in
    let low : k < tree.blocks = omega (arith, c.runs-test.true) in
    let below : k + i < tree.blocks = omega (arith, c.each-test.true) in
    let next : k + i + 1 ≡ k + (i + 1) = omega arith in
    record {
      builder = rw next at c.in_ok-take_block.ensures.builder;
      waiting = c.in_ok-take_block.ensures.waiting;
      earlier = earlier_then c.each.invariant.earlier c.take_block.ensures.earlier;
      faults = c.in_ok-take_block.ensures.cause.kept ∙ c.each.invariant.faults;
      strays = λ o can.
          let could = possible_before o c.take_block.ensures.earlier can in
          let so = c.each.invariant.so_far o could in
          let lawful : IfSome (history_told o (g.D.Disk.device c.each.disk).calls) IsLawful =
          possible_lawful o (g.D.Disk.device c.each.disk) could in
          let same : SameLength o (g.D.Disk.device c.args.disk.now).calls (g.D.Disk.device c.each.disk).calls =
          length_so_far tree _ _ c.each.builder (k + i) _ so.0 so.1 (omega arith) lawful in
          let read = c.each.invariant.read o could i c.each-test.true in
          let more : SoFar tree o (g.D.Disk.device c.args.disk.now).calls c.take_block.new.builder (k + i + 1)
          (g.D.Disk.device c.take_block.new.disk).calls (so.0 ++ read.0 ∷ []) =
          so_far_more _ tree _ _ c.each.builder c.take_block.new.builder (k + i) _ _ so.0 read.0 so.1 below read.2
          (c.in_ok-take_block.ensures.takes read.0 read.1) in
          stays_more (LieIn tree) _ _ _ _ _ _ same (c.each.invariant.strays o could)
          (stays_of (LieIn tree) _ _ _ _ (c.take_block.ensures.strays o can));
      read = λ o can. c.each.invariant.read o (possible_before o c.take_block.ensures.earlier can);
      reaches = λ o can. c.each.invariant.reaches o (possible_before o c.take_block.ensures.earlier can);
      so_far = λ o can.
          let could = possible_before o c.take_block.ensures.earlier can in
          let so = c.each.invariant.so_far o could in
          let lawful : IfSome (history_told o (g.D.Disk.device c.each.disk).calls) IsLawful =
          possible_lawful o (g.D.Disk.device c.each.disk) could in
          let same : SameLength o (g.D.Disk.device c.args.disk.now).calls (g.D.Disk.device c.each.disk).calls =
          length_so_far tree _ _ c.each.builder (k + i) _ so.0 so.1 (omega arith) lawful in
          let read = c.each.invariant.read o could i c.each-test.true in
          let more : SoFar tree o (g.D.Disk.device c.args.disk.now).calls c.take_block.new.builder (k + i + 1)
          (g.D.Disk.device c.take_block.new.disk).calls (so.0 ++ read.0 ∷ []) =
          so_far_more _ tree _ _ c.each.builder c.take_block.new.builder (k + i) _ _ so.0 read.0 so.1 below read.2
          (c.in_ok-take_block.ensures.takes read.0 read.1) in
          (so.0 ++ read.0 ∷ [], rw next at more);
    }

pub returns-in_err-take_block-clause-written : goal.returns-in_err-take_block-clause-written
returns-in_err-take_block-clause-written g c = λ o can.
    let could = possible_before o c.take_block.ensures.earlier can in
    let tree : TreePlan = c.args.tree.now in
    let k : ℕ = 4 * c.runs.turn in
    let i : ℕ = c.each.i in
    let low : k < tree.blocks = omega (arith, c.runs-test.true) in
    let below : k + i < tree.blocks = omega (arith, c.each-test.true) in
    let so = c.each.invariant.so_far o could in
    let read = c.each.invariant.read o could i c.each-test.true in
    writes_err c.from_residual-in_err-take_block.result tree _ _ _ c.from_residual-in_err-take_block.ensures.0
    (so_far_broke _ tree _ _ c.each.builder c.take_block.new.builder (k + i) _ _ so.0 read.0 so.1 below read.2
    (c.in_err-take_block.ensures.takes read.0 read.1))

pub returns-in_err-take_block-clause-strays : goal.returns-in_err-take_block-clause-strays
returns-in_err-take_block-clause-strays g c = λ o can.
    let could = possible_before o c.take_block.ensures.earlier can in
    let tree : TreePlan = c.args.tree.now in
    let k : ℕ = 4 * c.runs.turn in
    let i : ℕ = c.each.i in
    let low : k < tree.blocks = omega (arith, c.runs-test.true) in
    let below : k + i < tree.blocks = omega (arith, c.each-test.true) in
    let so = c.each.invariant.so_far o could in
    let lawful : IfSome (history_told o (g.D.Disk.device c.each.disk).calls) IsLawful =
    possible_lawful o (g.D.Disk.device c.each.disk) could in
    let same : SameLength o (g.D.Disk.device c.args.disk.now).calls (g.D.Disk.device c.each.disk).calls =
    length_so_far tree _ _ c.each.builder (k + i) _ so.0 so.1 (omega arith) lawful in
    stays_says (LieIn tree) _ _ _ _
    (stays_more (LieIn tree) _ _ _ _ _ _ same (c.each.invariant.strays o could)
    (stays_of (LieIn tree) _ _ _ _ (c.take_block.ensures.strays o can)))

pub runs-preserved : goal.runs-preserved
runs-preserved g c =
    let tree : TreePlan = c.args.tree.now in
    let k : ℕ = 4 * c.runs.turn in
    let low : k < tree.blocks = omega (arith, c.runs-test.true) in
    let count : ℕ = min (tree.blocks - k) 4 in
    let counted : c.min-count.result ≡ count = omega arith in
    let ended : c.each.i ≡ c.min-count.result = omega (arith, c.each-test.false) in
    let after : min (4 * (c.runs.turn + 1)) tree.blocks ≡ k + c.each.i = omega arith in
    let all : min (4 * (c.runs.turn + 1)) tree.blocks ≡ k + c.min-count.result = omega arith in
    let old_long : length (take (4096 * c.min-count.result) c.runs.buffer) ≡ 4096 * c.min-count.result =
    length-take-le (4096 * c.min-count.result) c.runs.buffer (omega arith) in
    record {
      builder = rw after c.each.invariant.builder;
      waiting = c.each.invariant.waiting;
      earlier = c.each.invariant.earlier;
      faults = c.each.invariant.faults;
      strays = c.each.invariant.strays;
      reaches = λ o can. rw all (c.each.invariant.reaches o can);
      so_far = λ o can. let so = c.each.invariant.so_far o can in (so.0, rw after so.1);
    }

pub finish-requires : goal.finish-requires
finish-requires g c =
    let tree : TreePlan = c.args.tree.now in
    let all : min (4 * c.runs.turn) tree.blocks ≡ tree.blocks = omega (arith, c.runs-test.false) in
    let so = c.runs.invariant.so_far None tt in
    record {
      plan = c.requires.plan;
      builder = rw all at c.runs.invariant.builder;
      taken = (so.0, so.1.has);
      waiting = c.runs.invariant.waiting;
    }

pub returns-clause-written : goal.returns-clause-written
returns-clause-written g c = λ o can.
    let could = possible_before o c.finish.ensures.earlier can in
    let tree : TreePlan = c.args.tree.now in
    let all : min (4 * c.runs.turn) tree.blocks ≡ tree.blocks = omega (arith, c.runs-test.false) in
    let so = c.runs.invariant.so_far o could in
    let row : SoFar tree o (g.D.Disk.device c.args.disk.now).calls c.runs.builder tree.blocks
    (g.D.Disk.device c.runs.disk).calls so.0 = rw all at so.1 in (
      so.0,
      so_far_blocks tree _ _ _ _ so.0 row,
      so_far_shown tree _ _ _ _ so.0 row,
      writes_hashes c.finish.result tree _ _ c.runs.builder _ _ so.0 row (c.finish.ensures.done so.0 row.has)
          (c.finish.ensures.root so.0 row.has)
          (c.finish.ensures.failed so.0 row.has),
    )

pub returns-clause-range : goal.returns-clause-range
returns-clause-range g c = λ o can.
    let could = possible_before o c.finish.ensures.earlier can in
    let tree : TreePlan = c.args.tree.now in
    let all : min (4 * c.runs.turn) tree.blocks ≡ tree.blocks = omega (arith, c.runs-test.false) in
    let some : 1 ≤ tree.blocks = c.requires.plan.some in
    let reaches : Reaches tree tree.blocks o (g.D.Disk.device c.args.disk.now).calls =
    rw all at c.runs.invariant.reaches o could in
    told_so (history_told o (g.D.Disk.device c.args.disk.now).calls) _ _ (λ h lies. on_ok c.finish.result lies)
    (reaches_all tree _ _ some reaches)

pub returns-clause-strays : goal.returns-clause-strays
returns-clause-strays g c = λ o can.
    let could = possible_before o c.finish.ensures.earlier can in
    let tree : TreePlan = c.args.tree.now in
    let so = c.runs.invariant.so_far o could in
    let lawful : IfSome (history_told o (g.D.Disk.device c.runs.disk).calls) IsLawful =
    possible_lawful o (g.D.Disk.device c.runs.disk) could in
    let same : SameLength o (g.D.Disk.device c.args.disk.now).calls (g.D.Disk.device c.runs.disk).calls =
    length_so_far tree _ _ c.runs.builder _ _ so.0 so.1 (omega arith) lawful in
    stays_says (LieIn tree) _ _ _ _
    (stays_more (LieIn tree) _ _ _ _ _ _ same (c.runs.invariant.strays o could)
    (stays_of (LieIn tree) _ _ _ _ (c.finish.ensures.strays o can)))

pub returns-in_err-take_block-clause-earlier : goal.returns-in_err-take_block-clause-earlier
returns-in_err-take_block-clause-earlier g c = earlier_then c.each.invariant.earlier c.take_block.ensures.earlier

pub returns-in_err-read_run-clause-earlier : goal.returns-in_err-read_run-clause-earlier
returns-in_err-read_run-clause-earlier g c = earlier_then c.runs.invariant.earlier c.read_run.ensures.earlier

pub returns-clause-earlier : goal.returns-clause-earlier
returns-clause-earlier g c = earlier_then c.runs.invariant.earlier c.finish.ensures.earlier
