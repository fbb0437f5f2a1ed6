use Rattle.std.proofs.Common.{sym, ◌∙◌}
use Rattle.rp_outcome.specs.Store.{store}
use Rattle.rp_planned.specs.Planning.{must_repair, unplanned_refusal}
use Rattle.rp_reading.specs.Stages.{refused}
use Rattle.rp_reset_command.proofs.Renewed.{not_reset, reset_by, reset_told}
use Rattle.rp_reset_command.proofs.renewal.renew_seen.Goals as goal

pub returns-in-Ok-clause-renews : goal.returns-in-Ok-clause-renews
returns-in-Ok-clause-renews g c =
    reset_by c.args.request c.args.list.now c.args.seen (store g.S.Sources.told g.S.Sources.faults g.S.Sources.strays c.args.sources.now)
    (store g.S.Sources.told g.S.Sources.faults g.S.Sources.strays c.renew_left.new.sources) (must_repair c.args.request.size c.args.seen)
    c.in-Ok.reset (refused (unplanned_refusal c.args.list.now) c.renew_left.result) (sym c.must_repair.ensures ∙ c.if-must_repair.false)
    (reset_told c.args.seen c.args.list.now c.in-Ok.reset c.in-Ok.ensures.reset) c.renew_left.ensures.renews

pub returns-in-Err-clause-renews : goal.returns-in-Err-clause-renews
returns-in-Err-clause-renews g c =
    not_reset c.args.request c.args.list.now c.args.seen (store g.S.Sources.told g.S.Sources.faults g.S.Sources.strays c.args.sources.now)
    (store g.S.Sources.told g.S.Sources.faults g.S.Sources.strays c.args.sources.now) (must_repair c.args.request.size c.args.seen)
    c.in-Err.demand (sym c.must_repair.ensures ∙ c.if-must_repair.false) c.in-Err.ensures.reset
