use Rattle.std.proofs.Common.{Ok, Err, subst, sym}
use Rattle.rp_gpt.specs.Accepted.{IsSeen}
use Rattle.rp_outcome.specs.Store.{store}
use Rattle.rp_planned.specs.Planning.{unplanned_refusal}
use Rattle.rp_reset_command.proofs.Left.{both_formed, left_seen}
use Rattle.rp_reset_command.proofs.Renewed.{left_planned}
use Rattle.rp_reset_command.proofs.renewal.renew_left.Goals as goal

pub plan_seen-requires-clause-seen : goal.plan_seen-requires-clause-seen
plan_seen-requires-clause-seen g c =
    subst (IsSeen c.args.request.sector) (sym c.in-Ok.ensures)
    (left_seen c.args.request.sector c.args.seen c.args.list.now c.args.reset c.requires.seen c.requires.reset)

pub returns-in-Ok-plan_seen-clause-renews : goal.returns-in-Ok-plan_seen-clause-renews
returns-in-Ok-plan_seen-clause-renews g c =
    left_planned c.args.request c.args.list.now c.args.seen c.in-Ok.left c.args.reset
    (store g.S.Sources.told g.S.Sources.faults g.S.Sources.strays c.args.sources.now)
    (store g.S.Sources.told g.S.Sources.faults g.S.Sources.strays c.plan_seen.new.sources)
    (Ok c.in-Ok-plan_seen.planned) c.in-Ok.ensures c.requires.repaired c.in-Ok-plan_seen.ensures.plans

pub returns-in-Ok-plan_seen-clause-formed : goal.returns-in-Ok-plan_seen-clause-formed
returns-in-Ok-plan_seen-clause-formed g c =
    both_formed c.args.request.sector c.args.seen c.args.list.now c.args.reset c.in-Ok-plan_seen.planned c.requires.seen c.requires.reset
    c.in-Ok-plan_seen.ensures.well_formed

pub returns-in-Err-plan_seen-clause-renews : goal.returns-in-Err-plan_seen-clause-renews
returns-in-Err-plan_seen-clause-renews g c =
    left_planned c.args.request c.args.list.now c.args.seen c.in-Ok.left c.args.reset
    (store g.S.Sources.told g.S.Sources.faults g.S.Sources.strays c.args.sources.now)
    (store g.S.Sources.told g.S.Sources.faults g.S.Sources.strays c.plan_seen.new.sources)
    (Err (unplanned_refusal c.args.list.now c.in-Err-plan_seen.cause)) c.in-Ok.ensures c.requires.repaired c.in-Err-plan_seen.ensures.plans
