use Rattle.std.proofs.Common.{◌≡◌, refl, ◌∙◌, IfSome}
use Rattle.std.proofs.lemmas.Result.{err_from_is_err_and}
use Rattle.rp_disk.specs.History.{IsLawful}
use Rattle.rp_disk.specs.Made.{history_told}
use Rattle.rp_step.specs.Found.{outside_of}
use Rattle.rp_disk.proofs.Noting.{earlier_same, earlier_then, possible_before, possible_lawful}
use Rattle.rp_step.proofs.Arms.{still}
use Rattle.rp_step.proofs.Going.{all_made, broken_there, so_far_at, so_far_none}
use Rattle.rp_step.proofs.Lengths.{files_at, lie_all, lie_at, lie_broken_at, lie_none}
use Rattle.rp_step.proofs.steps.make_steps.Goals as goal

pub loop-step-init : goal.loop-step-init
loop-step-init g c = record {
  stocked = c.requires.stocked;
  earlier = earlier_same _;
  told = refl;
  disk_faults = refl;
  source_faults = refl;
  so_far = λ o can. so_far_none _ _ _;
  disk_strays = λ o can. lie_none _ _ _ _ _;
  source_strays = still _ _ _;
}

pub loop-step-preserved : goal.loop-step-preserved
loop-step-preserved g c =
    let l = c.loop-step in
    let i = l.invariant in
    let below = c.loop-step-test.true in
    let plan = c.args.plan.now in
    let steps = c.args.steps.now in
    record {
      stocked = c.make_step.ensures.stocked;
      earlier = earlier_then i.earlier c.make_step.ensures.earlier;
      told = c.make_step.ensures.told ∙ i.told;
      disk_faults = c.in_ok-make_step.ensures.disk_cause ∙ i.disk_faults;
      source_faults = c.in_ok-make_step.ensures.source_cause ∙ i.source_faults;
      so_far = λ o can.
          let outside = outside_of (g.S.Sources.told c.args.sources.now) c.args.paths.now o in
          let made = rw i.told at (c.in_ok-make_step.ensures.made o can) in
          so_far_at plan outside steps l.step-index _ made.0 _ _ _ c.in_ok-make_step.field-0 below
          (i.so_far o (possible_before o c.make_step.ensures.earlier can)) made.1;
      disk_strays = λ o can.
          let outside = outside_of (g.S.Sources.told c.args.sources.now) c.args.paths.now o in
          let made = rw i.told at (c.in_ok-make_step.ensures.made o can) in
          lie_at plan outside o made.0 steps l.step-index _ _ _ _ _ _ _ c.in_ok-make_step.field-0 below
          (i.disk_strays o (possible_before o c.make_step.ensures.earlier can)) made.1
          (possible_lawful o (g.D.Disk.device c.make_step.new.disk) can) (c.make_step.ensures.disk_strays o can);
      source_strays = files_at (g.S.Sources.told c.args.sources.now) c.args.paths.now steps l.step-index _ _ _ _ below i.source_strays
          (rw i.told at c.make_step.ensures.source_strays);
    }

pub returns-clause-made : goal.returns-clause-made
returns-clause-made g c = λ o can. all_made _ _ c.args.steps.now c.loop-step.step-index _ _ _ c.loop-step-test.false (c.loop-step.invariant.so_far o can)

pub returns-clause-disk_strays : goal.returns-clause-disk_strays
returns-clause-disk_strays g c = λ o can. lie_all _ _ c.args.steps.now _ _ _ _ _ (c.loop-step.invariant.disk_strays o can)

pub returns-in_err-make_step-clause-made : goal.returns-in_err-make_step-clause-made
returns-in_err-make_step-clause-made g c =
    let p = err_from_is_err_and c.from_residual.result c.from_residual.ensures.1 in
    rw (p.1, p.2) (λ o can.
    let l = c.loop-step in
    let i = l.invariant in
    let made = rw i.told at (c.in_err-make_step.ensures.made o can) in
    (broken_there _ _ c.args.steps.now l.step-index _ made.0 _ _ _ c.in_err-make_step.field-0.0 c.loop-step-test.true (i.so_far o (possible_before o c.make_step.ensures.earlier can)) made.1))

pub returns-in_err-make_step-clause-disk_strays : goal.returns-in_err-make_step-clause-disk_strays
returns-in_err-make_step-clause-disk_strays g c = λ o can.
    let l = c.loop-step in
    let i = l.invariant in
    let made = rw i.told at (c.in_err-make_step.ensures.made o can) in
    lie_broken_at c.args.plan.now _ o made.0 c.args.steps.now l.step-index _ _ _ _ _ _ _
    c.in_err-make_step.field-0.0
    c.loop-step-test.true (i.disk_strays o (possible_before o c.make_step.ensures.earlier can)) made.1 (c.make_step.ensures.disk_strays o can)

pub returns-in_err-make_step-clause-source_strays : goal.returns-in_err-make_step-clause-source_strays
returns-in_err-make_step-clause-source_strays g c =
    let l = c.loop-step in
    let i = l.invariant in
    files_at (g.S.Sources.told c.args.sources.now) c.args.paths.now c.args.steps.now l.step-index _ _ _ _ c.loop-step-test.true
    i.source_strays
    (rw i.told at c.make_step.ensures.source_strays)

pub returns-in_err-make_step-clause-earlier : goal.returns-in_err-make_step-clause-earlier
returns-in_err-make_step-clause-earlier g c = earlier_then c.loop-step.invariant.earlier c.make_step.ensures.earlier
