use Rattle.std.proofs.Common.{arith}
use Rattle.rp_facts.proofs.Roots.{hash_root, no_root}
use Rattle.rp_facts.proofs.facts.root_at.Goals as goal

pub returns-then-blocks-clause-root : goal.returns-then-blocks-clause-root
returns-then-blocks-clause-root g c = no_root c.args.seed c.args.list.now c.args.need c.definition_of-definition.result.now c.pair_blocks-blocks.result
    c.args.len c.definition_of-definition.ensures.found c.pair_blocks-blocks.ensures.blocks _ (omega (arith, c.if-blocks.true))

pub returns-in-Ok-clause-root : goal.returns-in-Ok-clause-root
returns-in-Ok-clause-root g c = hash_root c.args.seed c.args.list.now c.args.need c.definition_of-definition.result.now c.pair_blocks-blocks.result
    c.args.len c.definition_of-definition.ensures.found c.pair_blocks-blocks.ensures.blocks c.path_of.result.now c.salt_of-salt.result c.in-Ok.root _
    c.path_of.ensures (omega (arith, c.if-blocks.false)) c.salt_of-salt.ensures c.in-Ok.ensures.root
