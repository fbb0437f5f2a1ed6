use Rattle.std.proofs.Common.{◌-◌, length}
use Rattle.rp_pool.proofs.Scan.{Counted}
use Rattle.rp_pool.proofs.pool.Pool.free.Given as goal

abbrev pub invariant-loop-block : goal.invariant-loop-block
invariant-loop-block l = Counted l.self-inside.out.items l.free l.block

abbrev pub decreases-loop-block : goal.decreases-loop-block
decreases-loop-block l = length l.self-inside.out.items - l.block
