-- What is written to a run that is lent.
use Rattle.std.specs.Prelude.{ℕ, List}
use Rattle.std.specs.Borrow.{Lends, MutBor, Fml, Array, u8}
use Rattle.rp_pool.specs.Region.{Region, Run, written}
use Rattle.rp_pool.specs.contracts.pool.Pool.{the_row}

-- the region ends with what was written last to the run
abbrev pub LendsRun : MutBor Region → Run → MutBor (List ℕ) → Fml
LendsRun pool run lent = Lends the_row (Array u8 0) pool lent (written pool.now run)
