use Rattle.std.proofs.Common.{sym, ap, ◌∙◌, false}
use Rattle.std.specs.Option.{option_map_or}
use Rattle.rp_defs.specs.Pairs.{is_pair}
use Rattle.rp_defs.proofs.pairs.has_pair.Goals as goal

pub returns-in-Some : goal.returns-in-Some
returns-in-Some c =
    let drafts = c.args.drafts.now in
    c.is_pair.ensures ∙ ap (is_pair drafts) c.as_str.ensures ∙ sym (ap (λ own. option_map_or (is_pair drafts) own false) c.in-Some.is)
