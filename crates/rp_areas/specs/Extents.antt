-- What the code keeps of the units that rows take.
use Rattle.std.specs.Prelude.{◌+◌, ◌<◌, ◌≤◌, ◌^◌, List, IfSome, length}
use Rattle.rp_base.specs.declared.want.Want.{Want}
use Rattle.rp_areas.specs.declared.extents.Extent.{Extent}

-- it ends within 2^44 bytes, and its definition is one of those that the wants are of
pub record IsBounded (wants : List Want) (e : Extent) : Type 0 where
  pub ends : e.start + e.size ≤ 2 ^ 35
  pub file : IfSome e.file (λ file. file < length wants)
