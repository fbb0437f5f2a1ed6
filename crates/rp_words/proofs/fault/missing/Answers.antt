use Rattle.std.proofs.Common.{sym, ◌∙◌, map, string_bytes}
use Rattle.rp_words.specs.Faults.{missing}
use Rattle.rp_words.proofs.Options.{wanting_in}
use Rattle.rp_words.proofs.fault.missing.Goals as goal

pub returns : goal.returns
unfolding missing
returns c =
    c.wanting_among.ensures ∙ sym (wanting_in c.args.command (map string_bytes c.args.words.now) c.options.result.now c.options.ensures)
