-- The texts that are compared are those of the words.
use Rattle.std.proofs.Common.{ℕ, List, map, string_bytes, subst}
use Rattle.rp_outcome.specs.Output.{output}
use Rattle.rp_policy_command.specs.Commands.{Compares}
use Rattle.rp_words.specs.Line.{text_in}
use Rattle.rp_words.specs.declared.table.Opt.TheVariants.{Against}
use Rattle.rp_cli.proofs.commands.run_compare.Goals as goal

pub returns : goal.returns
returns g c =
    subst (λ (text : List ℕ). Compares text (text_in Against (map string_bytes c.args.words.now))
    (output g.K.Sink.told g.K.Sink.faults c.args.out.now) (output g.K.Sink.told g.K.Sink.faults c.compare.new.out) c.compare.result)
    c.text_of-text.ensures
    (subst (λ (against : List ℕ). Compares c.text_of-text.result.now against
    (output g.K.Sink.told g.K.Sink.faults c.args.out.now) (output g.K.Sink.told g.K.Sink.faults c.compare.new.out) c.compare.result)
    c.text_of.ensures c.compare.ensures)
