use Rattle.std.proofs.Common.{arith}
use Rattle.rp_files.proofs.ReadLemmas.{count_more, above}
use Rattle.rp_files.proofs.loader.has_too_many.Goals as goal

pub returns-then-names-left : goal.returns-then-names-left
returns-then-names-left c =
    let more = count_more c.args.groups.now c.loop-group.group-index c.group-item.result c.loop-group-test.true c.group-item.is in
    above _ (omega (arith, more, c.loop-group.invariant, c.if-names-left.true, c.len-names.ensures, c.group-item.result.parts.ok))
