use Rattle.std.proofs.Common.{◌≡◌, false, map, refl, string_bytes, subst, sym, true≢false}
use Rattle.std.specs.Prelude.{◌≢◌, IfOk, IsErr}
use Rattle.rp_cli.proofs.Numbered.{number_most}
use Rattle.rp_cli.proofs.Policies.{compare_causes, compare_files, compare_words, dissect_causes, dissect_files, dissect_only_read, policy_causes, policy_files}
use Rattle.rp_cli.proofs.Promised.{check_causes, check_files, check_only_read, check_words, not_asked}
use Rattle.rp_make_promise.specs.Promise.{MakePromise}
use Rattle.rp_outcome.specs.Output.{output}
use Rattle.rp_outcome.specs.Store.{store}
use Rattle.rp_words.specs.Line.{text_in}
use Rattle.rp_words.specs.Values.{paths_of}
use Rattle.rp_words.specs.declared.table.Command.TheVariants.{Apply, Make}
use Rattle.rp_words.specs.declared.table.Opt.TheVariants.{Against, Definitions, Policy}
use Rattle.rp_cli.specs.Applied.{WritesNothingIdle}
use Rattle.rp_cli.specs.Asked.{request_of}
use Rattle.rp_cli.proofs.commands.run.Goals as goal

-- `plan` says of itself what holds of every command
pub returns-in-Plan-clause-causes : goal.returns-in-Plan-clause-causes
returns-in-Plan-clause-causes g c = c.plan_by_line.ensures.holds.causes

pub returns-in-Plan-clause-files : goal.returns-in-Plan-clause-files
returns-in-Plan-clause-files g c = c.plan_by_line.ensures.holds.files

pub returns-in-Plan-clause-words : goal.returns-in-Plan-clause-words
returns-in-Plan-clause-words g c = (
  λ e. absurd (c.plan_by_line.ensures.holds.words e),
  λ err. absurd (true≢false (sym (subst (λ answer. IsErr answer) (sym c.in-Ok.ensures.line) err))),
)

pub returns-in-Plan-clause-only_read : goal.returns-in-Plan-clause-only_read
returns-in-Plan-clause-only_read g c = λ other. c.plan_by_line.ensures.only_read

-- the same for `check`
pub returns-in-Check-clause-causes : goal.returns-in-Check-clause-causes
returns-in-Check-clause-causes g c =
    check_causes c.in-Ok.line.seed c.in-Ok.line.arch c.in-Ok.line.sector (paths_of (text_in Definitions (map string_bytes c.args.words.now)))
    (store g.F.Folders.told g.F.Folders.faults g.F.Folders.strays c.args.folders.now)
    (store g.F.Folders.told g.F.Folders.faults g.F.Folders.strays c.run_check.new.folders)
    (g.D.Disk.device c.args.disk.now)
    (g.D.Disk.device c.run_check.new.disk)
    (store g.S.Sources.told g.S.Sources.faults g.S.Sources.strays c.args.sources.now)
    (store g.S.Sources.told g.S.Sources.faults g.S.Sources.strays c.run_check.new.sources)
    (output g.K.Sink.told g.K.Sink.faults c.args.out.now)
    (output g.K.Sink.told g.K.Sink.faults c.run_check.new.out)
    c.run_check.result c.run_check.ensures

pub returns-in-Check-clause-files : goal.returns-in-Check-clause-files
returns-in-Check-clause-files g c =
    check_files c.in-Ok.line.seed c.in-Ok.line.arch c.in-Ok.line.sector (paths_of (text_in Definitions (map string_bytes c.args.words.now)))
    (store g.F.Folders.told g.F.Folders.faults g.F.Folders.strays c.args.folders.now)
    (store g.F.Folders.told g.F.Folders.faults g.F.Folders.strays c.run_check.new.folders)
    (g.D.Disk.device c.args.disk.now)
    (g.D.Disk.device c.run_check.new.disk)
    (store g.S.Sources.told g.S.Sources.faults g.S.Sources.strays c.args.sources.now)
    (store g.S.Sources.told g.S.Sources.faults g.S.Sources.strays c.run_check.new.sources)
    (output g.K.Sink.told g.K.Sink.faults c.args.out.now)
    (output g.K.Sink.told g.K.Sink.faults c.run_check.new.out)
    c.run_check.result c.run_check.ensures

pub returns-in-Check-clause-only_read : goal.returns-in-Check-clause-only_read
returns-in-Check-clause-only_read g c =
    λ other.
    check_only_read c.in-Ok.line.seed c.in-Ok.line.arch c.in-Ok.line.sector (paths_of (text_in Definitions (map string_bytes c.args.words.now)))
    (store g.F.Folders.told g.F.Folders.faults g.F.Folders.strays c.args.folders.now)
    (store g.F.Folders.told g.F.Folders.faults g.F.Folders.strays c.run_check.new.folders)
    (g.D.Disk.device c.args.disk.now)
    (g.D.Disk.device c.run_check.new.disk)
    (store g.S.Sources.told g.S.Sources.faults g.S.Sources.strays c.args.sources.now)
    (store g.S.Sources.told g.S.Sources.faults g.S.Sources.strays c.run_check.new.sources)
    (output g.K.Sink.told g.K.Sink.faults c.args.out.now)
    (output g.K.Sink.told g.K.Sink.faults c.run_check.new.out)
    c.run_check.result c.run_check.ensures

pub returns-in-Check-clause-words : goal.returns-in-Check-clause-words
returns-in-Check-clause-words g c = (
  λ e. absurd (
      check_words c.in-Ok.line.seed c.in-Ok.line.arch c.in-Ok.line.sector (paths_of (text_in Definitions (map string_bytes c.args.words.now)))
      (store g.F.Folders.told g.F.Folders.faults g.F.Folders.strays c.args.folders.now)
      (store g.F.Folders.told g.F.Folders.faults g.F.Folders.strays c.run_check.new.folders)
      (g.D.Disk.device c.args.disk.now)
      (g.D.Disk.device c.run_check.new.disk)
      (store g.S.Sources.told g.S.Sources.faults g.S.Sources.strays c.args.sources.now)
      (store g.S.Sources.told g.S.Sources.faults g.S.Sources.strays c.run_check.new.sources)
      (output g.K.Sink.told g.K.Sink.faults c.args.out.now)
      (output g.K.Sink.told g.K.Sink.faults c.run_check.new.out)
      c.run_check.result c.run_check.ensures e),
  λ err. absurd (true≢false (sym (subst (λ answer. IsErr answer) (sym c.in-Ok.ensures.line) err))),
)

-- the same for the commands on policies
pub returns-in-Dissect-clause-causes : goal.returns-in-Dissect-clause-causes
returns-in-Dissect-clause-causes g c =
    dissect_causes (text_in Policy (map string_bytes c.args.words.now)) c.in-Ok.line.arch c.in-Ok.line.sector c.in-Ok.line.json
    (g.D.Disk.device c.args.disk.now)
    (g.D.Disk.device c.run_dissect.new.disk)
    (output g.K.Sink.told g.K.Sink.faults c.args.out.now)
    (output g.K.Sink.told g.K.Sink.faults c.run_dissect.new.out)
    c.run_dissect.result
    c.run_dissect.ensures

pub returns-in-Dissect-clause-files : goal.returns-in-Dissect-clause-files
returns-in-Dissect-clause-files g c =
    dissect_files (text_in Policy (map string_bytes c.args.words.now)) c.in-Ok.line.arch c.in-Ok.line.sector c.in-Ok.line.json
    (g.D.Disk.device c.args.disk.now)
    (g.D.Disk.device c.run_dissect.new.disk)
    (output g.K.Sink.told g.K.Sink.faults c.args.out.now)
    (output g.K.Sink.told g.K.Sink.faults c.run_dissect.new.out)
    c.run_dissect.result
    (store g.F.Folders.told g.F.Folders.faults g.F.Folders.strays c.args.folders.now)
    (store g.S.Sources.told g.S.Sources.faults g.S.Sources.strays c.args.sources.now)
    c.run_dissect.ensures

pub returns-in-Policy-clause-causes : goal.returns-in-Policy-clause-causes
returns-in-Policy-clause-causes g c =
    policy_causes (text_in Policy (map string_bytes c.args.words.now))
    (output g.K.Sink.told g.K.Sink.faults c.args.out.now)
    (output g.K.Sink.told g.K.Sink.faults c.run_policy.new.out)
    c.run_policy.result
    (g.D.Disk.device c.args.disk.now)
    c.run_policy.ensures

pub returns-in-Policy-clause-files : goal.returns-in-Policy-clause-files
returns-in-Policy-clause-files g c =
    policy_files (text_in Policy (map string_bytes c.args.words.now))
    (output g.K.Sink.told g.K.Sink.faults c.args.out.now)
    (output g.K.Sink.told g.K.Sink.faults c.run_policy.new.out)
    c.run_policy.result
    (store g.F.Folders.told g.F.Folders.faults g.F.Folders.strays c.args.folders.now)
    (store g.S.Sources.told g.S.Sources.faults g.S.Sources.strays c.args.sources.now)
    c.run_policy.ensures

pub returns-in-Compare-clause-causes : goal.returns-in-Compare-clause-causes
returns-in-Compare-clause-causes g c =
    compare_causes (text_in Policy (map string_bytes c.args.words.now)) (text_in Against (map string_bytes c.args.words.now))
    (output g.K.Sink.told g.K.Sink.faults c.args.out.now)
    (output g.K.Sink.told g.K.Sink.faults c.run_compare.new.out)
    c.run_compare.result
    (g.D.Disk.device c.args.disk.now)
    c.run_compare.ensures

pub returns-in-Compare-clause-files : goal.returns-in-Compare-clause-files
returns-in-Compare-clause-files g c =
    compare_files (text_in Policy (map string_bytes c.args.words.now)) (text_in Against (map string_bytes c.args.words.now))
    (output g.K.Sink.told g.K.Sink.faults c.args.out.now)
    (output g.K.Sink.told g.K.Sink.faults c.run_compare.new.out)
    c.run_compare.result
    (store g.F.Folders.told g.F.Folders.faults g.F.Folders.strays c.args.folders.now)
    (store g.S.Sources.told g.S.Sources.faults g.S.Sources.strays c.args.sources.now)
    c.run_compare.ensures

pub returns-in-Policy-clause-only_read : goal.returns-in-Policy-clause-only_read
returns-in-Policy-clause-only_read g c = λ other. not_asked (g.D.Disk.device c.args.disk.now) (g.D.Disk.device c.args.disk.now) refl

pub returns-in-Compare-clause-only_read : goal.returns-in-Compare-clause-only_read
returns-in-Compare-clause-only_read g c = λ other. not_asked (g.D.Disk.device c.args.disk.now) (g.D.Disk.device c.args.disk.now) refl

pub returns-in-Err-clause-only_read : goal.returns-in-Err-clause-only_read
returns-in-Err-clause-only_read g c = λ other. not_asked (g.D.Disk.device c.args.disk.now) (g.D.Disk.device c.args.disk.now) refl

pub returns-in-Dissect-clause-only_read : goal.returns-in-Dissect-clause-only_read
returns-in-Dissect-clause-only_read g c =
    λ other.
    dissect_only_read (text_in Policy (map string_bytes c.args.words.now)) c.in-Ok.line.arch c.in-Ok.line.sector c.in-Ok.line.json
    (g.D.Disk.device c.args.disk.now) (g.D.Disk.device c.run_dissect.new.disk)
    (output g.K.Sink.told g.K.Sink.faults c.args.out.now) (output g.K.Sink.told g.K.Sink.faults c.run_dissect.new.out)
    c.run_dissect.result c.run_dissect.ensures

-- a difference has another status than words that aren't canonical
pub returns-in-Compare-clause-words : goal.returns-in-Compare-clause-words
returns-in-Compare-clause-words g c = (
  λ e. absurd (compare_words (text_in Policy (map string_bytes c.args.words.now)) (text_in Against (map string_bytes c.args.words.now))
      (output g.K.Sink.told g.K.Sink.faults c.args.out.now)
      (output g.K.Sink.told g.K.Sink.faults c.run_compare.new.out)
      c.run_compare.result c.run_compare.ensures e),
  λ err. absurd (true≢false (sym (subst (λ answer. IsErr answer) (sym c.in-Ok.ensures.line) err))),
)

-- `apply` says of itself what holds of every command
pub returns-in-Apply-clause-causes : goal.returns-in-Apply-clause-causes
returns-in-Apply-clause-causes g c = c.apply_by_line.ensures.holds.causes

pub returns-in-Apply-clause-files : goal.returns-in-Apply-clause-files
returns-in-Apply-clause-files g c = c.apply_by_line.ensures.holds.files

pub returns-in-Apply-clause-words : goal.returns-in-Apply-clause-words
returns-in-Apply-clause-words g c = (
  λ e. absurd (c.apply_by_line.ensures.holds.words e),
  λ err. absurd (true≢false (sym (subst (λ answer. IsErr answer) (sym c.in-Ok.ensures.line) err))),
)

pub returns-in-Apply-clause-only_read : goal.returns-in-Apply-clause-only_read
returns-in-Apply-clause-only_read g c =
    λ other.
    absurd ((subst (λ answer. IfOk answer (λ line. (line.command ≢ Apply) × (line.command ≢ Make))) (sym c.in-Ok.ensures.line) other).0
    c.in-Apply.is)

pub returns-in-Apply-clause-second_run : goal.returns-in-Apply-clause-second_run
returns-in-Apply-clause-second_run g c =
    subst (λ answer. IfOk answer (λ line. line.command ≡ Apply → line.factory_reset ≡ false
    → WritesNothingIdle (request_of line) (paths_of (text_in Definitions (map string_bytes c.args.words.now)))
    (store g.F.Folders.told g.F.Folders.faults g.F.Folders.strays c.args.folders.now) (g.D.Disk.device c.args.disk.now)
    (g.D.Disk.device c.apply_by_line.new.disk)))
    c.in-Ok.ensures.line (λ is off. c.apply_by_line.ensures.second_run off)

-- `make` says of itself what holds of every command, and asks no folders and sources
pub returns-in-Make-clause-causes : goal.returns-in-Make-clause-causes
returns-in-Make-clause-causes g c = c.run_make.ensures.ends.causes

pub returns-in-Make-clause-files : goal.returns-in-Make-clause-files
returns-in-Make-clause-files g c = record {
  failed = λ e. absurd (c.run_make.ensures.files (number_most (map string_bytes c.args.words.now) c.in-Ok.line (sym c.in-Ok.ensures.line)) e);
  kept = λ e. (refl, refl);
}

pub returns-in-Make-clause-made : goal.returns-in-Make-clause-made
returns-in-Make-clause-made g c =
    subst (λ answer. IfOk answer (λ line. line.command ≡ Make → MakePromise line.number
    (g.D.Disk.device c.args.disk.now)
    (g.D.Disk.device c.run_make.new.disk)
    (output g.K.Sink.told g.K.Sink.faults c.args.out.now)
    (output g.K.Sink.told g.K.Sink.faults c.run_make.new.out) c.run_make.result)) c.in-Ok.ensures.line
    (λ e. c.run_make.ensures.promise
    (number_most (map string_bytes c.args.words.now) c.in-Ok.line (sym c.in-Ok.ensures.line)))

pub returns-in-Make-clause-words : goal.returns-in-Make-clause-words
returns-in-Make-clause-words g c = (
  λ e. absurd (c.run_make.ensures.ends.words e),
  λ err. absurd (true≢false (sym (subst (λ answer. IsErr answer) (sym c.in-Ok.ensures.line) err))),
)

pub returns-in-Make-clause-only_read : goal.returns-in-Make-clause-only_read
returns-in-Make-clause-only_read g c =
    λ other.
    absurd ((subst (λ answer. IfOk answer (λ line. (line.command ≢ Apply) × (line.command ≢ Make))) (sym c.in-Ok.ensures.line) other).1
    c.in-Make.is)
