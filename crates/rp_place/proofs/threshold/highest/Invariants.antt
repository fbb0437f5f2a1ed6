use Rattle.std.proofs.Common.{pos, ◌≤ℤ◌, ◌<ℤ◌, ◌⊎◌, All, take}
use Rattle.rp_place.specs.declared.fit.New.{New}
use Rattle.rp_place.proofs.threshold.highest.Given as goal

abbrev pub invariant-loop-new : goal.invariant-loop-new
invariant-loop-new l = (pos 0 ≤ℤ l.highest) × (l.highest ≤ℤ l.threshold)
    × All (λ (n : New). (n.priority ≤ℤ l.highest) ⊎ (l.threshold <ℤ n.priority)) (take l.new-index l.news)
