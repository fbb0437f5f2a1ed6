use Rattle.std.proofs.Common.{◌-◌, length}
use Rattle.rp_pool.proofs.Scan.{Scanned}
use Rattle.rp_pool.proofs.pool.first_fit.Given as goal

abbrev pub invariant-loop-block : goal.invariant-loop-block
invariant-loop-block l = Scanned l.out l.blocks l.from l.block

abbrev pub decreases-loop-block : goal.decreases-loop-block
decreases-loop-block l = length l.out - l.block
