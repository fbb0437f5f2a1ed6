use Rattle.std.proofs.Common.{rules}
use Rattle.rp_share.proofs.NextLemmas.{next_takes}
use Rattle.rp_share.proofs.rest.next_with.Goals as goal

pub returns-then-is_sooner : goal.returns-then-is_sooner
returns-then-is_sooner c = next_takes c.args.items.now c.args.shares.now c.args.place c.in-Some.other (search rules) (search rules)
    (search rules)
