-- What holds of every command, for `plan`.
use Rattle.std.proofs.Common.{map, string_bytes}
use Rattle.rp_cli.proofs.Promised.{plan_only_read as plan_off_only_read}
use Rattle.rp_cli.proofs.Renewed.{plan_holds, plan_off_holds, plan_only_read}
use Rattle.rp_cli.specs.Asked.{request_of}
use Rattle.rp_outcome.specs.Output.{output}
use Rattle.rp_outcome.specs.Store.{store}
use Rattle.rp_words.specs.Line.{text_in}
use Rattle.rp_words.specs.Values.{paths_of}
use Rattle.rp_words.specs.declared.table.Opt.TheVariants.{Definitions}
use Rattle.rp_cli.proofs.planning.plan_by_line.Goals as goal

pub returns-then-line-clause-holds : goal.returns-then-line-clause-holds
returns-then-line-clause-holds g c =
    plan_holds (request_of c.args.line) c.args.line.json (paths_of (text_in Definitions (map string_bytes c.args.words.now)))
    (store g.F.Folders.told g.F.Folders.faults g.F.Folders.strays c.args.folders.now)
    (store g.F.Folders.told g.F.Folders.faults g.F.Folders.strays c.run_plan_reset.new.folders)
    (g.D.Disk.device c.args.disk.now)
    (g.D.Disk.device c.run_plan_reset.new.disk)
    (store g.S.Sources.told g.S.Sources.faults g.S.Sources.strays c.args.sources.now)
    (store g.S.Sources.told g.S.Sources.faults g.S.Sources.strays c.run_plan_reset.new.sources)
    (output g.K.Sink.told g.K.Sink.faults c.args.out.now)
    (output g.K.Sink.told g.K.Sink.faults c.run_plan_reset.new.out)
    c.run_plan_reset.result c.run_plan_reset.ensures

pub returns-else-line-clause-holds : goal.returns-else-line-clause-holds
returns-else-line-clause-holds g c =
    plan_off_holds (request_of c.args.line) c.args.line.json (paths_of (text_in Definitions (map string_bytes c.args.words.now)))
    (store g.F.Folders.told g.F.Folders.faults g.F.Folders.strays c.args.folders.now)
    (store g.F.Folders.told g.F.Folders.faults g.F.Folders.strays c.run_plan.new.folders)
    (g.D.Disk.device c.args.disk.now)
    (g.D.Disk.device c.run_plan.new.disk)
    (store g.S.Sources.told g.S.Sources.faults g.S.Sources.strays c.args.sources.now)
    (store g.S.Sources.told g.S.Sources.faults g.S.Sources.strays c.run_plan.new.sources)
    (output g.K.Sink.told g.K.Sink.faults c.args.out.now)
    (output g.K.Sink.told g.K.Sink.faults c.run_plan.new.out)
    c.run_plan.result c.run_plan.ensures

pub returns-then-line-clause-only_read : goal.returns-then-line-clause-only_read
returns-then-line-clause-only_read g c =
    plan_only_read (request_of c.args.line) c.args.line.json (paths_of (text_in Definitions (map string_bytes c.args.words.now)))
    (store g.F.Folders.told g.F.Folders.faults g.F.Folders.strays c.args.folders.now)
    (store g.F.Folders.told g.F.Folders.faults g.F.Folders.strays c.run_plan_reset.new.folders)
    (g.D.Disk.device c.args.disk.now)
    (g.D.Disk.device c.run_plan_reset.new.disk)
    (store g.S.Sources.told g.S.Sources.faults g.S.Sources.strays c.args.sources.now)
    (store g.S.Sources.told g.S.Sources.faults g.S.Sources.strays c.run_plan_reset.new.sources)
    (output g.K.Sink.told g.K.Sink.faults c.args.out.now)
    (output g.K.Sink.told g.K.Sink.faults c.run_plan_reset.new.out)
    c.run_plan_reset.result c.run_plan_reset.ensures

pub returns-else-line-clause-only_read : goal.returns-else-line-clause-only_read
returns-else-line-clause-only_read g c =
    plan_off_only_read (request_of c.args.line) c.args.line.json (paths_of (text_in Definitions (map string_bytes c.args.words.now)))
    (store g.F.Folders.told g.F.Folders.faults g.F.Folders.strays c.args.folders.now)
    (store g.F.Folders.told g.F.Folders.faults g.F.Folders.strays c.run_plan.new.folders)
    (g.D.Disk.device c.args.disk.now)
    (g.D.Disk.device c.run_plan.new.disk)
    (store g.S.Sources.told g.S.Sources.faults g.S.Sources.strays c.args.sources.now)
    (store g.S.Sources.told g.S.Sources.faults g.S.Sources.strays c.run_plan.new.sources)
    (output g.K.Sink.told g.K.Sink.faults c.args.out.now)
    (output g.K.Sink.told g.K.Sink.faults c.run_plan.new.out)
    c.run_plan.result c.run_plan.ensures
