-- What a well formed plan says of one of its rows, as its steps need it: serves this crate's functions.
use Rattle.std.specs.Prelude.{◌+◌, ◌*◌, ◌^◌, ◌≤◌, ⊤}
use Rattle.rp_base.specs.Plan.{Noted}
use Rattle.rp_base.specs.Trees.{hash_blocks}
use Rattle.rp_base.specs.declared.plan.Role.{Role}
use Rattle.rp_base.specs.declared.plan.Role.TheVariants.{Hash}
use Rattle.rp_base.specs.declared.table.Row.{Row}
use Rattle.rp_steps.specs.Steps.{source_len}

-- a row has room for its tree, which stands over 1 to 2^32 blocks
abbrev pub HasRoom : Row → Role → Type 0
HasRoom row (Hash partner blocks salt uuid root) = (1 ≤ blocks) × (blocks ≤ 2 ^ 32) × (8 * hash_blocks blocks ≤ row.size)
HasRoom row other = ⊤

-- a row ends within 2^44 bytes, and has room for its source and its tree
pub record IsPlanned (noted : Noted) : Type 0 where
  pub fits : noted.0.start + noted.0.size ≤ 2 ^ 35
  pub source : source_len noted.1 ≤ 512 * noted.0.size
  pub tree : HasRoom noted.0 noted.1.role
