use Rattle.rp_words.specs.Help.{usage}
use Rattle.rp_words.proofs.Options.{options_pieces}
use Rattle.rp_words.proofs.help.push_usages.Goals as goal

pub returns : goal.returns
returns c = rw (options_pieces (usage c.args.command) c.options.result.now c.options.ensures) c.push_each_usage.ensures
