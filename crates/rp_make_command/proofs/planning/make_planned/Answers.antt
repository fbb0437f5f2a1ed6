-- The plan is carried out, and then the image is checked, or the fault is told.
use Rattle.std.proofs.Common.{◌≡◌, List, ℕ, Ok, Err, inr, refl, subst}
use Rattle.rp_outcome.specs.Output.{output}
use Rattle.rp_outcome.specs.Store.{store}
use Rattle.rp_make_command.specs.Makes.{MakesChecked, refusal_of}
use Rattle.rp_make_command.specs.Summary.{front_text}
use Rattle.rp_make_command.proofs.planning.make_planned.Goals as goal

pub returns-in-Ok-carry_out-clause-makes : goal.returns-in-Ok-carry_out-clause-makes
returns-in-Ok-carry_out-clause-makes g c =
    let made = c.in-Ok-carry_out.ensures c.args.definitions.now c.args.planned.now c.in-Ok.ensures.ready c.requires.len c.requires.roots in
    let front : c.as_str.result.now ≡ front_text c.args.number c.args.planned.now = cc (c.as_str.ensures, c.in-Ok.ensures.front) in
    inr (
      g.D.Disk.device c.carry_out.new.disk,
      store g.S.Sources.told g.S.Sources.faults g.S.Sources.strays c.carry_out.new.sources,
      Ok tt,
      made.0,
      made.1,
      subst (λ (text : List ℕ). MakesChecked c.args.seed text c.args.definitions.now (g.D.Disk.device c.carry_out.new.disk)
          (g.D.Disk.device c.check_made.new.disk) (store g.S.Sources.told g.S.Sources.faults g.S.Sources.strays c.carry_out.new.sources)
          (store g.S.Sources.told g.S.Sources.faults g.S.Sources.strays c.check_made.new.sources) (output g.K.Sink.told g.K.Sink.faults c.args.out.now)
          (output g.K.Sink.told g.K.Sink.faults c.check_made.new.out) c.check_made.result) front c.check_made.ensures,
    )

pub returns-clause-makes : goal.returns-clause-makes
returns-clause-makes g c =
    let made = c.in-Err-carry_out.ensures c.args.definitions.now c.args.planned.now c.in-Ok.ensures.ready c.requires.len c.requires.roots in
    inr (
      g.D.Disk.device c.carry_out.new.disk,
      store g.S.Sources.told g.S.Sources.faults g.S.Sources.strays c.carry_out.new.sources,
      Err (refusal_of c.in-Err-carry_out.fault),
      made.0,
      made.1,
      (refl, refl, c.refuse_fault.ensures),
    )
