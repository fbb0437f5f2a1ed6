use Rattle.std.proofs.Common.{◌∙◌, sym, ap, arith, Some}
use Rattle.std.specs.Prelude.{find, not}
use Rattle.std.proofs.lemmas.List.{take_all}
use Rattle.rp_types.proofs.Finding.{find_more, find_here}
use Rattle.rp_defs.proofs.PairLemmas.{is_unjoined, fault_gives, joints_more, paired_all, pushed_ok}
use Rattle.rp_defs.proofs.pairs.joints_of.Goals as goal

pub returns-then-not-is_joined-clause-answer : goal.returns-then-not-is_joined-clause-answer
returns-then-not-is_joined-clause-answer c =
    let drafts = c.args.drafts.now in
    let unjoined = is_unjoined drafts in
    let fails = ap unjoined (sym c.draft-item.is) ∙ ap not (sym c.is_joined.ensures) ∙ ap not c.if-not-is_joined.true in
    let found = find_here unjoined drafts c.loop-draft.draft-index c.draft-item.result c.loop-draft-test.true c.loop-draft.invariant.all
    fails in
    fault_gives drafts c.draft-item.result c.unpaired.result (found ∙ ap Some (sym c.draft-item.is)) c.unpaired.ensures.fault

pub loop-draft-preserved : goal.loop-draft-preserved
loop-draft-preserved c =
    let drafts = c.args.drafts.now in
    let unjoined = is_unjoined drafts in
    let passes = ap unjoined (sym c.draft-item.is) ∙ ap not (sym c.is_joined.ensures) ∙ ap not c.if-not-is_joined.false in record {
      joints = joints_more drafts c.loop-draft.joints c.push.new.self c.loop-draft.draft-index c.draft-item.result c.joint_of.result
          c.loop-draft-test.true c.draft-item.is
          c.loop-draft.invariant.joints c.joint_of.ensures
          (pushed_ok c.push.result _ (sym c.is_err.ensures.value ∙ c.if-is_err.false) c.push.ensures.ok);
      all = find_more unjoined drafts c.loop-draft.draft-index c.draft-item.result c.loop-draft-test.true c.loop-draft.invariant.all passes;
    }

pub returns-clause-all : goal.returns-clause-all
returns-clause-all c =
    let drafts = c.args.drafts.now in
    paired_all drafts
    (ap (find (is_unjoined drafts)) (sym (take_all c.loop-draft.draft-index drafts (omega arith))) ∙ c.loop-draft.invariant.all)
