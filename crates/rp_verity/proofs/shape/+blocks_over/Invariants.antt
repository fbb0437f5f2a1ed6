use Rattle.rp_verity.proofs.shape.+blocks_over.Given as goal

abbrev pub decreases-blocks_over : goal.decreases-blocks_over
decreases-blocks_over l = l.levels
