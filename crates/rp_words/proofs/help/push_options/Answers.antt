use Rattle.rp_words.specs.Help.{option_text}
use Rattle.rp_words.proofs.Options.{options_pieces}
use Rattle.rp_words.proofs.help.push_options.Goals as goal

pub returns : goal.returns
returns c = rw (options_pieces option_text c.options.result.now c.options.ensures) c.push_each_option.ensures
