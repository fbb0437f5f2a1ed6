use Rattle.rp_verity.proofs.tree.+add.Given as goal

abbrev pub decreases-add : goal.decreases-add
decreases-add g l = l.levels
