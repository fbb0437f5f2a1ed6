use Rattle.std.proofs.Common.{◌≡◌, inr, rules}
use Rattle.rp_apply.specs.Ready.{IsReadyFor}
use Rattle.rp_apply_command.specs.Applies.{applied_report}
use Rattle.rp_apply_command.proofs.command.apply_planned.Goals as goal

pub returns-in-Ok-clause-applies : goal.returns-in-Ok-clause-applies
returns-in-Ok-clause-applies g c =
    let json = c.args.json in
    let definitions = c.args.definitions.now in
    let planned = c.args.planned.now in
    let ready : IsReadyFor planned.plan planned.seen definitions.list c.in-Ok.ready = search rules in
    let text : c.as_str.result.now ≡ applied_report json definitions planned = search rules in
    inr (c.carried_out.ensures json definitions planned ready text c.requires.len c.requires.roots)
