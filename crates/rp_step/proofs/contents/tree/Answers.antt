use Rattle.std.proofs.Common.{◌∙◌, arith}
use Rattle.rp_step.proofs.Kept.{kept_levels, levels_size}
use Rattle.rp_step.proofs.Leveled.{few_levels}
use Rattle.rp_step.proofs.contents.tree.Goals as goal

pub write_tree-requires-clause-room : goal.write_tree-requires-clause-room
write_tree-requires-clause-room g c =
    let l = c.requires.leased in
    let long = levels_size c.args.blocks.now.pool c.args.blocks.now.levels _ l.sound l.out l.levels c.bytes_mut-room.ensures.value in
    omega (arith, long, few_levels c.args.tree.now.blocks)

pub returns-clause-kept : goal.returns-clause-kept
returns-clause-kept g c =
    let l = c.requires.leased in
    let long = levels_size c.args.blocks.now.pool c.args.blocks.now.levels _ l.sound l.out l.levels c.bytes_mut-room.ensures.value in
    kept_levels c.args.blocks.now c.write_tree.new.room l (c.write_tree.auto.room ∙ long)
