use Rattle.rp_tree.proofs.level.+first_noted.Given as goal

abbrev pub decreases-first_noted : goal.decreases-first_noted
decreases-first_noted l = l.levels
