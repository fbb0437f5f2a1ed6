-- Each promise of `apply`, by its stages.
use Rattle.std.proofs.Common.{map, string_bytes}
use Rattle.rp_cli.proofs.Applied.{apply_applied, apply_idle, apply_refused, apply_safe}
use Rattle.rp_cli.proofs.Applying.{apply_holds}
use Rattle.rp_cli.specs.Asked.{request_of}
use Rattle.rp_outcome.specs.Output.{output}
use Rattle.rp_outcome.specs.Store.{store}
use Rattle.rp_words.specs.Line.{text_in}
use Rattle.rp_words.specs.Values.{paths_of}
use Rattle.rp_words.specs.declared.table.Opt.TheVariants.{Definitions}
use Rattle.rp_cli.proofs.planning.run_apply.Goals as goal

pub returns-clause-applied : goal.returns-clause-applied
returns-clause-applied g c =
    apply_applied (request_of c.args.line) c.args.line.json (paths_of (text_in Definitions (map string_bytes c.args.words.now)))
    (store g.F.Folders.told g.F.Folders.faults g.F.Folders.strays c.args.folders.now)
    (store g.F.Folders.told g.F.Folders.faults g.F.Folders.strays c.apply_asked.new.folders)
    (g.D.Disk.device c.args.disk.now)
    (g.D.Disk.device c.apply_asked.new.disk)
    (store g.S.Sources.told g.S.Sources.faults g.S.Sources.strays c.args.sources.now)
    (store g.S.Sources.told g.S.Sources.faults g.S.Sources.strays c.apply_asked.new.sources)
    (output g.K.Sink.told g.K.Sink.faults c.args.out.now)
    (output g.K.Sink.told g.K.Sink.faults c.apply_asked.new.out)
    c.apply_asked.result c.requires.sector c.requires.size c.apply_asked.ensures

pub returns-clause-second_run : goal.returns-clause-second_run
returns-clause-second_run g c =
    apply_idle (request_of c.args.line) c.args.line.json (paths_of (text_in Definitions (map string_bytes c.args.words.now)))
    (store g.F.Folders.told g.F.Folders.faults g.F.Folders.strays c.args.folders.now)
    (store g.F.Folders.told g.F.Folders.faults g.F.Folders.strays c.apply_asked.new.folders)
    (g.D.Disk.device c.args.disk.now)
    (g.D.Disk.device c.apply_asked.new.disk)
    (store g.S.Sources.told g.S.Sources.faults g.S.Sources.strays c.args.sources.now)
    (store g.S.Sources.told g.S.Sources.faults g.S.Sources.strays c.apply_asked.new.sources)
    (output g.K.Sink.told g.K.Sink.faults c.args.out.now)
    (output g.K.Sink.told g.K.Sink.faults c.apply_asked.new.out)
    c.apply_asked.result c.requires.sector c.requires.size c.apply_asked.ensures

pub returns-clause-any_moment : goal.returns-clause-any_moment
returns-clause-any_moment g c =
    apply_safe (request_of c.args.line) c.args.line.json (paths_of (text_in Definitions (map string_bytes c.args.words.now)))
    (store g.F.Folders.told g.F.Folders.faults g.F.Folders.strays c.args.folders.now)
    (store g.F.Folders.told g.F.Folders.faults g.F.Folders.strays c.apply_asked.new.folders)
    (g.D.Disk.device c.args.disk.now)
    (g.D.Disk.device c.apply_asked.new.disk)
    (store g.S.Sources.told g.S.Sources.faults g.S.Sources.strays c.args.sources.now)
    (store g.S.Sources.told g.S.Sources.faults g.S.Sources.strays c.apply_asked.new.sources)
    (output g.K.Sink.told g.K.Sink.faults c.args.out.now)
    (output g.K.Sink.told g.K.Sink.faults c.apply_asked.new.out)
    c.apply_asked.result c.requires.sector c.requires.size c.apply_asked.ensures

pub returns-clause-untouched : goal.returns-clause-untouched
returns-clause-untouched g c =
    apply_refused (request_of c.args.line) c.args.line.json (paths_of (text_in Definitions (map string_bytes c.args.words.now)))
    (store g.F.Folders.told g.F.Folders.faults g.F.Folders.strays c.args.folders.now)
    (store g.F.Folders.told g.F.Folders.faults g.F.Folders.strays c.apply_asked.new.folders)
    (g.D.Disk.device c.args.disk.now)
    (g.D.Disk.device c.apply_asked.new.disk)
    (store g.S.Sources.told g.S.Sources.faults g.S.Sources.strays c.args.sources.now)
    (store g.S.Sources.told g.S.Sources.faults g.S.Sources.strays c.apply_asked.new.sources)
    (output g.K.Sink.told g.K.Sink.faults c.args.out.now)
    (output g.K.Sink.told g.K.Sink.faults c.apply_asked.new.out)
    c.apply_asked.result c.requires.sector c.requires.size c.apply_asked.ensures

pub returns-clause-holds : goal.returns-clause-holds
returns-clause-holds g c =
    apply_holds (request_of c.args.line) c.args.line.json (paths_of (text_in Definitions (map string_bytes c.args.words.now)))
    (store g.F.Folders.told g.F.Folders.faults g.F.Folders.strays c.args.folders.now)
    (store g.F.Folders.told g.F.Folders.faults g.F.Folders.strays c.apply_asked.new.folders)
    (g.D.Disk.device c.args.disk.now)
    (g.D.Disk.device c.apply_asked.new.disk)
    (store g.S.Sources.told g.S.Sources.faults g.S.Sources.strays c.args.sources.now)
    (store g.S.Sources.told g.S.Sources.faults g.S.Sources.strays c.apply_asked.new.sources)
    (output g.K.Sink.told g.K.Sink.faults c.args.out.now)
    (output g.K.Sink.told g.K.Sink.faults c.apply_asked.new.out)
    c.apply_asked.result c.apply_asked.ensures
