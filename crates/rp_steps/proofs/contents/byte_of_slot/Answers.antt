use Rattle.std.proofs.Common.{◌<◌, sym, arith}
use Rattle.rp_steps.proofs.Planned.{found_small}
use Rattle.rp_steps.proofs.contents.byte_of_slot.Goals as goal

pub overflow_mul-result : goal.overflow_mul-result
overflow_mul-result c = let small : c.in-Some.row.now.start < 36028797018963968 = found_small _ _ c.in-Some.row.now c.requires (sym (c.in-Some.ensures {u = tt})) in omega arith
