use Rattle.rp_tree.proofs.level.+next_block.Given as goal

abbrev pub decreases-next_block : goal.decreases-next_block
decreases-next_block g l = l.levels
