use Rattle.std.proofs.Common.{sym, ◌∙◌}
use Rattle.rp_words.specs.Faults.{entry_called}
use Rattle.rp_words.proofs.Options.{called_in}
use Rattle.rp_words.proofs.fault.option_called.Goals as goal

pub returns : goal.returns
unfolding entry_called
returns c = c.called_among.ensures ∙ sym (called_in c.args.name.now c.options.result.now c.options.ensures)
