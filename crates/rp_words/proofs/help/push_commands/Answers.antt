use Rattle.rp_words.specs.Help.{command_text}
use Rattle.rp_words.proofs.Commands.{commands_pieces}
use Rattle.rp_words.proofs.help.push_commands.Goals as goal

pub returns : goal.returns
returns c = rw (commands_pieces command_text c.commands.result.now c.commands.ensures) c.push_each_command.ensures
