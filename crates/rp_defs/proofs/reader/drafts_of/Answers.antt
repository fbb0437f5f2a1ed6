use Rattle.std.proofs.Common.{◌∙◌, ℕ, ◌-◌, ap, sym, arith, inl, refl, List, length, drop, length-take}
use Rattle.std.proofs.lemmas.Result.{err_from_is_err_and}
use Rattle.std.proofs.lemmas.List.Elements.{All-same, All-nil}
use Rattle.rp_defs.specs.declared.draft.Draft.{Draft}
use Rattle.rp_defs.specs.declared.draft.Drafts.{Drafts}
use Rattle.rp_defs.specs.Faults.{no_memory}
use Rattle.rp_defs.specs.SoundDraft.{IsSoundDraft}
use Rattle.rp_defs.proofs.DraftLemmas.{rest_first, rest_last, rest_step, with_rest, gives_fault, gives_value, gives_same}
use Rattle.rp_defs.proofs.reader.drafts_of.Goals as goal

pub loop-start-init : goal.loop-start-init
loop-start-init c =
    let listed : List Draft → Drafts = λ list. record { list = list; ignored = 0 } in
    record {
      within = omega arith;
      answer = rest_first c.args.arch c.args.pieces.now
          ∙ ap (λ (list : List Draft). with_rest c.args.arch (listed list) c.args.pieces.now) (sym c.new.ensures);
      count = omega (arith, ap length c.new.ensures);
      bound = omega arith;
      sound = All-same IsSoundDraft c.new.result _ c.new.ensures (All-nil IsSoundDraft);
    }

pub returns-in_err-drafts-clause-answer : goal.returns-in_err-drafts-clause-answer
returns-in_err-drafts-clause-answer c =
    let p = err_from_is_err_and c.from_residual.result c.from_residual.ensures.1 in
    let so_far = c.loop-start.invariant.answer
    ∙ rest_step c.args.arch c.loop-start.drafts c.args.pieces.now c.loop-start.start c.group_end-end.result c.loop-start-test.true
    c.group_end-end.ensures.end in
    rw (p.1, p.2) (gives_same no_memory _ _ _ so_far (gives_fault no_memory _ _ _ c.in_err-drafts.ensures.answer))

pub loop-start-preserved : goal.loop-start-preserved
loop-start-preserved c =
    let pieces = c.args.pieces.now in
    let size : ℕ = c.group_end-end.result - c.loop-start.start in
    record {
      within = omega arith;
      answer = c.loop-start.invariant.answer
          ∙ rest_step c.args.arch c.loop-start.drafts pieces c.loop-start.start c.group_end-end.result c.loop-start-test.true
          c.group_end-end.ensures.end
          ∙ gives_value no_memory _ _ c.in_ok-drafts.drafts c.in_ok-drafts.ensures.answer;
      count = omega (arith, c.in_ok-drafts.ensures.count);
      bound = omega (arith, c.in_ok-drafts.ensures.bound, length-take size (drop c.loop-start.start pieces));
      sound = c.in_ok-drafts.ensures.sound;
    }

pub returns-clause-answer : goal.returns-clause-answer
returns-clause-answer c =
    gives_same no_memory _ _ _
    (c.loop-start.invariant.answer ∙ rest_last c.args.arch c.loop-start.drafts c.args.pieces.now c.loop-start.start (omega arith))
    (inl refl)
