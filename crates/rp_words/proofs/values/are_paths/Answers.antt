use Rattle.std.proofs.Common.{ap, ◌∙◌, sym, false, ◌+◌, ◌&&◌, ne_eqb, eq-eqb}
use Rattle.rp_words.proofs.Paths.{all_but, left, all_from_first, one_at_least, at_colon, at_other}
use Rattle.rp_words.proofs.values.are_paths.Goals as goal
use Rattle.rp_words.proofs.values.are_paths.Goals.{then-byte-ne58, else-byte-ne58+then-begun}

pub loop-byte-init : goal.loop-byte-init
loop-byte-init c =
    all_from_first (left c.args.text.now 0) (one_at_least c.args.text.now) ∙ ap (λ t. all_but false (left t 0)) (sym c.as_bytes-byte-items.ensures.value)

pub loop-byte-preserved : goal.loop-byte-preserved
loop-byte-preserved c =
    let text = c.as_bytes-byte-items.result.now in
    let i = c.loop-byte.byte-index in
    let begun = c.loop-byte.begun in
    elim c.if-byte-ne58.branch [
      | then-byte-ne58 w ↦
          c.loop-byte.invariant ∙ at_other text i 0 c.loop-byte-test.true begun (ne_eqb _ 58 w.if-byte-ne58.true)
          ∙ ap (λ b. all_but b (left text (i + 1))) (sym w.begun-is)
      | else-byte-ne58+then-begun w ↦
          c.loop-byte.invariant ∙ at_colon text i 0 c.loop-byte-test.true begun (eq-eqb _ 58 w.if-byte-ne58.false)
          ∙ ap (λ b. b && all_but false (left text (i + 1))) w.if-begun.true
          ∙ ap (λ b. all_but b (left text (i + 1))) (sym w.begun-is)
    ]
