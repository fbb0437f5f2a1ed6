use Rattle.std.proofs.Common.{◌+◌, take, drop, sym, arith}
use Rattle.rp_outcome.specs.declared.refusal.Word.TheVariants as Word
use Rattle.rp_outcome.specs.Output.{output}
use Rattle.rp_outcome.specs.Words.{words_text}
use Rattle.rp_outcome.proofs.Printed.{all_as, on_err, part_as, part_more, prints_none, then_all, then_part, words_text-at, words_text-more}
use Rattle.rp_outcome.proofs.printing.print_words.Goals as goal

pub loop-word-init : goal.loop-word-init
unfolding words_text
loop-word-init g c = prints_none (output g.K.Sink.told g.K.Sink.faults c.args.out.now)

pub returns-in_err-print_word-clause-failed : goal.returns-in_err-print_word-clause-failed
returns-in_err-print_word-clause-failed g c =
    let words = c.args.words.now in let i = c.loop-word.word-index in
    on_err c.from_residual.result
    (part_as _ _ _ _ (sym (words_text-at words i Word.Absent (omega arith)))
    (part_more _ _ _ (words_text (drop (i + 1) words))
    (then_part _ _ _ (words_text (take i words)) _ c.loop-word.invariant c.in_err-print_word.ensures.failed)))

pub loop-word-preserved : goal.loop-word-preserved
loop-word-preserved g c =
    let words = c.args.words.now in let i = c.loop-word.word-index in
    all_as _ _ _ _ (sym (words_text-more words i Word.Absent (omega arith)))
    (then_all _ _ _ (words_text (take i words)) _ c.loop-word.invariant c.in_ok-print_word.ensures.done)
