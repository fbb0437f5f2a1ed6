use Rattle.std.proofs.Common.{rules, ◌∙◌, ◌++◌, ◌∷◌, [], length, map, sym, ap, take}
use Rattle.std.proofs.lemmas.List.{length_push}
use Rattle.std.proofs.lemmas.Iterator.{YieldsList-from_zip, YieldsList-from_slice}
use Rattle.std.proofs.lemmas.Iterator.Consumers.{YieldsList-turn}
use Rattle.std.proofs.lemmas.Iterator.Adapters.{YieldsList-from_vec}
use Rattle.rp_defs.specs.declared.definition.Definition.{Definition}
use Rattle.rp_defs.specs.Pairs.{definition_of}
use Rattle.rp_defs.proofs.PairLemmas.{definitions_turn, pushed_ok}
use Rattle.rp_defs.proofs.pairs.with_joints.Goals as goal

pub loop-draft-preserved : goal.loop-draft-preserved
loop-draft-preserved c =
    let drafts = c.args.drafts in
    let turn = YieldsList-turn {s = c.into_iter-draft-iterator.result}
    (YieldsList-from_zip (YieldsList-from_vec drafts (search rules) (search rules))
    (YieldsList-from_slice c.args.joints.now (search rules)))
    c.loop-draft.yielded c.loop-draft.draft-iterator c.loop-draft.yielded_by c.next.result c.next.new.self
    (c.in-Some.draft, c.in-Some.joint) c.in-Some.is c.next.ensures.steps in
    let pushed = pushed_ok c.push.result _ (sym c.is_err.ensures.value ∙ c.if-is_err.false) c.push.ensures.ok in
    definitions_turn drafts c.args.joints.now
    (length c.loop-draft.yielded) c.in-Some.draft c.in-Some.joint.now c.loop-draft.list c.push.new.self c.requires.joints turn.0 turn.1
    c.loop-draft.invariant (pushed ∙ ap (λ (d : Definition). c.loop-draft.list ++ d ∷ []) c.joined.ensures)
    ∙ ap (λ n. map (definition_of drafts) (take n drafts)) (sym (length_push c.loop-draft.yielded _))
