use Rattle.rp_make_command.proofs.Ended.{ends_so}
use Rattle.rp_make_command.proofs.Unfailed.{never_files}
use Rattle.rp_make_promise.proofs.Promised.{promise_so}
use Rattle.rp_outcome.specs.Output.{output}
use Rattle.rp_cli.proofs.commands.run_make.Goals as goal

pub returns-clause-ends : goal.returns-clause-ends
returns-clause-ends g c =
    ends_so (g.D.Disk.device c.args.disk.now)
    (g.D.Disk.device c.make.new.disk)
    (output g.K.Sink.told g.K.Sink.faults c.args.out.now)
    (output g.K.Sink.told g.K.Sink.faults c.make.new.out)
    c.make.result c.args.number c.make.ensures

pub returns-clause-files : goal.returns-clause-files
returns-clause-files g c =
    λ high.
    never_files c.args.number (g.D.Disk.device c.args.disk.now)
    (g.D.Disk.device c.make.new.disk)
    (output g.K.Sink.told g.K.Sink.faults c.args.out.now)
    (output g.K.Sink.told g.K.Sink.faults c.make.new.out)
    c.make.result high c.make.ensures

pub returns-clause-promise : goal.returns-clause-promise
returns-clause-promise g c =
    λ high.
    promise_so c.args.number (g.D.Disk.device c.args.disk.now)
    (g.D.Disk.device c.make.new.disk)
    (output g.K.Sink.told g.K.Sink.faults c.args.out.now)
    (output g.K.Sink.told g.K.Sink.faults c.make.new.out)
    c.make.result high c.make.ensures
