use Rattle.std.proofs.Common.{sym, ◌∙◌}
use Rattle.rp_words.specs.Line.{command_of}
use Rattle.rp_words.proofs.Commands.{named_in}
use Rattle.rp_words.proofs.line.command_of.Goals as goal

pub returns : goal.returns
unfolding command_of
returns c = c.named_among.ensures ∙ sym (named_in c.args.name.now c.commands.result.now c.commands.ensures)
