-- The policy is that of the words.
use Rattle.std.proofs.Common.{ℕ, List, subst}
use Rattle.rp_dissect_command.specs.Dissects.{Dissects}
use Rattle.rp_outcome.specs.Output.{output}
use Rattle.rp_cli.proofs.commands.run_dissect.Goals as goal

pub returns : goal.returns
returns g c =
    subst (λ (text : List ℕ). Dissects text c.args.line.arch c.args.line.sector c.args.line.json
    (g.D.Disk.device c.args.disk.now)
    (g.D.Disk.device c.dissect.new.disk)
    (output g.K.Sink.told g.K.Sink.faults c.args.out.now) (output g.K.Sink.told g.K.Sink.faults c.dissect.new.out) c.dissect.result)
    c.text_of-text.ensures c.dissect.ensures
