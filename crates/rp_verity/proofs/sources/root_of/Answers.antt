-- Blocks more are pushed, and at the end all were.
use Rattle.std.proofs.Common.{◌≡◌, ℕ, ◌+◌, ◌-◌, ◌*◌, ◌<◌, List, ◌++◌, [], length, length-take-le, map, min, take, ◌∙◌, ap, refl, arith}
use Rattle.rp_verity.specs.Builder.{HasTaken}
use Rattle.rp_verity.specs.Filled.{cut}
use Rattle.rp_verity.specs.Tree.{digest}
use Rattle.rp_verity.specs.declared.builder.Builder.{Builder}
use Rattle.rp_verity.proofs.Cutting.{digests_cut}
use Rattle.rp_verity.proofs.Sourced.{RunOf, Stays, TakenFrom, run_of, stays-more, stays-none, stays_of, stays_says, taken-more, taken-none, taken-root}
use Rattle.rp_verity.proofs.sources.root_of.Goals as goal

pub runs-init : goal.runs-init
runs-init g c =
    let none : min 0 c.args.blocks ≡ 0 = omega arith in
    record {
      builder = c.new-builder.ensures.builder;
      blocks = c.new-builder.ensures.blocks;
      pushed = omega (arith, c.new-builder.ensures.pushed);
      told = refl;
      faults = refl;
      strays = stays-none _ _ _ _;
      taken = rw none (taken-none _ _ _ _ _ _ c.new-builder.ensures.taken);
    }

pub runs-preserved : goal.runs-preserved
runs-preserved g c =
    let builder : Builder = c.runs.builder in
    let run : List ℕ = c.read_run.new.run in
    let salt : List ℕ = c.args.salt.now in
    let k : ℕ = 4 * c.runs.turn in
    let count : ℕ = min (c.args.blocks - k) 4 in
    let low : k < c.args.blocks = omega (arith, c.runs-test.true) in
    let counted : c.min-count.result ≡ count = omega arith in
    let old : List ℕ = take (4096 * c.min-count.result) c.runs.buffer in
    let old_long : length old ≡ 4096 * count = omega (arith, length-take-le (4096 * c.min-count.result) c.runs.buffer (omega arith)) in
    let kept : length run ≡ length old = c.read_run.auto.run in
    let long : length run ≡ 4096 * count = kept ∙ old_long in
    let olds : List (List ℕ) = take c.min-count.result c.runs.digests in
    let kept_all : length c.digest_blocks.new.out ≡ length olds = c.digest_blocks.auto.out in
    let all : length c.digest_blocks.new.out ≡ count =
    omega (arith, kept_all, length-take-le c.min-count.result c.runs.digests (omega arith)) in
    let before : min (4 * c.runs.turn) c.args.blocks ≡ k = omega arith in
    let after : min (4 * (c.runs.turn + 1)) c.args.blocks ≡ k + count = omega arith in
    let digests : c.digest_blocks.new.out ≡ map (digest salt) (cut count run) =
    digests_cut salt run count c.digest_blocks.new.out all (λ i below.
    c.digest_blocks.ensures.digests i (omega (arith, below, all, kept_all))) in
    let strays : Stays (g.S.Sources.told c.runs.sources) c.args.path.now c.args.len (g.S.Sources.strays c.runs.sources) (g.S.Sources.strays c.read_run.new.sources) =
    stays_of _ _ _ _ _ c.read_run.ensures.strays in
    let read : RunOf (g.S.Sources.told c.runs.sources) c.args.path.now c.args.len k (length old) run =
    run_of _ _ _ _ _ _ c.in_ok-read_run.ensures.bytes in
    let pushed : (taken : List (List ℕ)) → HasTaken builder salt taken → HasTaken c.push_all.new.builder salt (taken ++ cut count run) =
    λ taken has. c.in_ok-push_all.ensures.taken salt taken (cut count run) has digests in
    let had : TakenFrom (g.S.Sources.told c.args.sources.now) c.args.path.now c.args.len c.args.blocks builder salt k =
    rw before at c.runs.invariant.taken in
    record {
      builder = c.in_ok-push_all.ensures.builder;
      blocks = c.push_all.ensures.blocks ∙ c.runs.invariant.blocks;
      pushed = omega (arith, c.in_ok-push_all.ensures.pushed, c.runs.invariant.pushed);
      told = c.read_run.ensures.told ∙ c.runs.invariant.told;
      faults = c.in_ok-read_run.ensures.cause.kept ∙ c.runs.invariant.faults;
      strays = stays-more _ _ _ _ _ _ c.runs.invariant.strays (rw c.runs.invariant.told at strays);
      taken = rw after (taken-more _ _ _ _ k count builder c.push_all.new.builder salt run (omega arith) c.requires.len had
          (rw (c.runs.invariant.told, old_long) at read) pushed);
    }

pub returns-clause-root : goal.returns-clause-root
returns-clause-root g c =
    let all : min (4 * c.runs.turn) c.args.blocks ≡ c.args.blocks = omega (arith, c.runs-test.false) in
    taken-root c.finish.result _ _ _ c.args.blocks c.runs.builder c.args.salt.now (rw all at c.runs.invariant.taken)
    (λ taken has. c.finish.ensures.root c.args.salt.now taken has)

pub returns-clause-strays : goal.returns-clause-strays
returns-clause-strays g c = stays_says _ _ _ _ _ c.runs.invariant.strays

pub returns-in_err-read_run-clause-strays : goal.returns-in_err-read_run-clause-strays
returns-in_err-read_run-clause-strays g c =
    let strays : Stays (g.S.Sources.told c.runs.sources) c.args.path.now c.args.len (g.S.Sources.strays c.runs.sources) (g.S.Sources.strays c.read_run.new.sources) =
    stays_of _ _ _ _ _ c.read_run.ensures.strays in
    stays_says _ _ _ _ _ (stays-more _ _ _ _ _ _ c.runs.invariant.strays (rw c.runs.invariant.told at strays))
