use Rattle.std.proofs.Common.{arith}
use Rattle.rp_copies.proofs.Placed.{copy_long}
use Rattle.rp_copies.proofs.write.write_header.Goals as goal

pub header_of-header-requires : goal.header_of-header-requires
header_of-header-requires g c =
    let goal_is = c.args.plan.now.goal in
    omega (arith, c.requires.size, copy_long goal_is.sector goal_is.entries c.requires.room.sector)
