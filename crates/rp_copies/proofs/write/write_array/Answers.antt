use Rattle.std.proofs.Common.{◌∙◌, arith}
use Rattle.rp_copies.proofs.Placed.{array_size, copy_long}
use Rattle.rp_copies.proofs.write.write_array.Goals as goal

pub array_of-array-requires : goal.array_of-array-requires
array_of-array-requires g c =
    let goal_is = c.args.plan.now.goal in
    omega (arith, c.requires.size, copy_long goal_is.sector goal_is.entries c.requires.room.sector)

pub returns-in_err-write-clause-inside : goal.returns-in_err-write-clause-inside
returns-in_err-write-clause-inside g c =
    let goal_is = c.args.plan.now.goal in
    let size = array_size goal_is.sector goal_is.entries _ c.requires.room.sector
    (c.array_of-array.ensures.size ∙ c.requires.size) in
    λ past reaches. c.write.ensures.inside past (omega (arith, size, reaches, c.array_offset.ensures.within))
