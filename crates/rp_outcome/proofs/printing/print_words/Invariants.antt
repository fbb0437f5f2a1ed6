use Rattle.std.proofs.Common.{take}
use Rattle.rp_outcome.specs.Output.{PrintsAll, output}
use Rattle.rp_outcome.specs.Words.{words_text}
use Rattle.rp_outcome.proofs.printing.print_words.Given as goal

-- the words so far were printed
abbrev pub invariant-loop-word : goal.invariant-loop-word
invariant-loop-word g l =
    PrintsAll (output g.K.Sink.told g.K.Sink.faults l.initial.out) (output g.K.Sink.told g.K.Sink.faults l.out)
    (words_text (take l.word-index l.words))
