use Rattle.std.proofs.Common.{sym, ◌∙◌}
use Rattle.rp_words.specs.Entry.{entry_of}
use Rattle.rp_words.proofs.Options.{own_in}
use Rattle.rp_words.proofs.entry.entry_of.Goals as goal

pub returns : goal.returns
unfolding entry_of
returns c = c.own_among.ensures ∙ sym (own_in c.args.option c.options.result.now c.options.ensures)
