use Rattle.std.proofs.Common.{sym, ap, ◌∙◌, arith}
use Rattle.std.proofs.lemmas.List.Sums.{position_or_len_is}
use Rattle.rp_defs.specs.Pairs.{is_half}
use Rattle.rp_defs.proofs.Counted.{no_place}
use Rattle.rp_defs.proofs.pairs.first_of.Goals as goal

pub returns-then-is_half-clause-place : goal.returns-then-is_half-clause-place
returns-then-is_half-clause-place c =
    let p = is_half c.args.half c.args.key.now in
    sym (position_or_len_is p c.args.drafts.now c.loop-place.place c.index-drafts-place.result (omega arith)
    (λ k below. c.loop-place.invariant k c.index-drafts-place.result below)
    (λ _. ap p (sym c.index-drafts-place.is) ∙ sym c.is_half.ensures ∙ c.if-is_half.true))

pub returns-clause-place : goal.returns-clause-place
returns-clause-place c =
    no_place (is_half c.args.half c.args.key.now) c.args.drafts.now (λ k d below. c.loop-place.invariant k d (omega arith))
