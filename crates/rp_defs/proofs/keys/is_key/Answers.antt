use Rattle.std.proofs.Common.{ap, ◌∙◌}
use Rattle.std.specs.Prelude.{is_some}
use Rattle.rp_defs.proofs.KeyLemmas.{is_key-place}
use Rattle.rp_defs.proofs.keys.is_key.Goals as goal

pub returns : goal.returns
returns c = c.is_some.ensures ∙ ap is_some c.place_of.ensures ∙ is_key-place c.args.name.now
