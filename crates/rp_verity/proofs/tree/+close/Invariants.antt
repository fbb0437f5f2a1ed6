use Rattle.rp_verity.proofs.tree.+close.Given as goal

abbrev pub decreases-close : goal.decreases-close
decreases-close g l = l.levels
