use Rattle.std.proofs.Common.{◌∙◌, sym}
use Rattle.std.proofs.lemmas.List.Elements.{All-push, All-same}
use Rattle.rp_defs.specs.SoundDraft.{IsSoundDraft}
use Rattle.rp_defs.proofs.PairLemmas.{pushed_ok}
use Rattle.rp_defs.proofs.reader.with_group.Goals as goal

pub returns-clause-sound : goal.returns-clause-sound
returns-clause-sound c =
    let pushed = pushed_ok c.push.result _ (sym c.is_err.ensures.value ∙ c.if-is_err.false) c.push.ensures.ok in
    All-same IsSoundDraft _ _ pushed
    (All-push IsSoundDraft c.args.drafts.list c.in_ok-draft.draft c.requires.sound c.in_ok-draft.ensures.sound)
