use Rattle.std.proofs.Common.{◌≡◌, ◌∙◌, ℕ, ap, sym, arith, get_or, inl, inr}
use Rattle.std.specs.Prelude.{not}
use Rattle.std.proofs.lemmas.Bool.{cases_lt}
use Rattle.std.proofs.lemmas.List.{get_or_read}
use Rattle.rp_defs.specs.Drafting.{is_part}
use Rattle.rp_defs.proofs.GroupLemmas.{end_is}
use Rattle.rp_defs.proofs.reader.group_end.Goals as goal

pub returns-then-is_main-clause-end : goal.returns-then-is_main-clause-end
returns-then-is_main-clause-end c =
    let pieces = c.args.pieces.now in
    end_is pieces c.args.start c.loop-place.place (omega arith) (omega arith) c.loop-place.invariant
    (λ _ d. ap is_part
    (sym (get_or_read pieces c.loop-place.place c.index-pieces-place.result c.loop-place-test.true c.index-pieces-place.is d))
    ∙ ap not (sym c.is_main.ensures ∙ c.if-is_main.true))

pub returns-clause-end : goal.returns-clause-end
returns-clause-end c = end_is c.args.pieces.now c.args.start _ (omega arith) (omega arith)
    (λ k d after below. c.loop-place.invariant k d after (omega arith)) (λ below d. absurd (omega arith))

pub loop-place-preserved : goal.loop-place-preserved
loop-place-preserved c k d after below =
    let pieces = c.args.pieces.now in
    elim (cases_lt k c.loop-place.place) [
      | inl before ↦ c.loop-place.invariant k d after before
      | inr past ↦
          let here : k ≡ c.loop-place.place = omega arith in
          ap (λ (n : ℕ). is_part (get_or pieces n d)) here
          ∙ ap is_part
          (sym (get_or_read pieces c.loop-place.place c.index-pieces-place.result c.loop-place-test.true c.index-pieces-place.is d))
          ∙ ap not (sym c.is_main.ensures ∙ c.if-is_main.false)
    ]
