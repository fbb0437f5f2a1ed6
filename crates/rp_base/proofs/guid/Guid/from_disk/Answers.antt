use Rattle.std.proofs.Common.{◌∙◌, rules, ap}
use Rattle.rp_base.proofs.GuidLemmas.{twice}
use Rattle.rp_base.specs.Guid.{disk_order}
use Rattle.rp_base.proofs.guid.Guid.from_disk.Goals as goal

pub returns-clause-inverse : goal.returns-clause-inverse
returns-clause-inverse c =
    ap disk_order c.turned.ensures ∙ twice c.args.bytes (search rules)
