use Rattle.std.proofs.Common.{◌∙◌, sym, ap}
use Rattle.rp_io.specs.Files.{name_of, with_name}
use Rattle.rp_io.proofs.StoredLemmas.{names_in-take-some, names_in-take-none}
use Rattle.rp_io.proofs.stored.names_in_folder.Goals as goal
use Rattle.rp_io.proofs.stored.names_in_folder.Goals.{in-Some+in_ok-add_name, in_default}

pub loop-file-preserved : goal.loop-file-preserved
loop-file-preserved c = elim c.match-name_in.branch [
  | in-Some+in_ok-add_name w ↦
      w.names-is ∙ w.in_ok-add_name.ensures ∙ ap (λ names. with_name names w.in-Some.name.now) c.loop-file.invariant
      ∙ sym (names_in-take-some _ _ c.file-item.result _ _ c.loop-file-test.true c.file-item.is (w.in-Some.ensures ∙ ap (name_of c.args.folder.now) c.as_str.ensures))
  | in_default w ↦
      w.names-is ∙ c.loop-file.invariant
      ∙ sym (names_in-take-none _ _ c.file-item.result _ c.loop-file-test.true c.file-item.is (w.in_default.ensures ∙ ap (name_of c.args.folder.now) c.as_str.ensures))
]
