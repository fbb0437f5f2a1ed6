use Rattle.std.proofs.Common.{◌≡◌, Option, true, inr, rules, subst, sym}
use Rattle.rp_apply.specs.Ready.{IsReadyFor}
use Rattle.rp_base.specs.declared.plan.Plan.{Plan}
use Rattle.rp_outcome.specs.Store.{store}
use Rattle.rp_reset_command.proofs.Between.{alone_length}
use Rattle.rp_reset_command.specs.Applies.{CarriesRenewal, outcome_of}
use Rattle.rp_reset_command.specs.Reports.{renewal_report}
use Rattle.rp_reset_command.proofs.apply.apply_alone.Goals as goal

pub returns-in-Ok : goal.returns-in-Ok
returns-in-Ok g c =
    let json = c.args.json in
    let definitions = c.args.definitions.now in
    let renewal = c.args.renewal.now in
    let old = g.D.Disk.device c.args.disk.now in
    let new = g.D.Disk.device c.carry_out-done.new.disk in
    let from = store g.S.Sources.told g.S.Sources.faults g.S.Sources.strays c.args.sources.now in
    let to = store g.S.Sources.told g.S.Sources.faults g.S.Sources.strays c.carry_out-done.new.sources in
    let ready : IsReadyFor renewal.planned.plan renewal.planned.seen definitions.list c.in-Ok.ready = search rules in
    let text : c.as_str.result.now ≡ renewal_report json definitions renewal true = search rules in
    let r = c.carry_out-done.ensures definitions renewal.planned ready
    (alone_length definitions.list renewal old from c.requires.none c.requires.can) c.requires.can.roots in inr (
      outcome_of c.carry_out-done.result,
      subst (λ (o : Option Plan). CarriesRenewal definitions renewal o old new from to (outcome_of c.carry_out-done.result)) (sym c.requires.none) r,
      c.tell.ensures json definitions renewal text,
    )
