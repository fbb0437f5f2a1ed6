-- The blocks of the region, and what they are for: own rules.
use Rattle.std.specs.Prelude.{ℕ, ◌≡◌, List, length, replicate, slice_set, take}
use Rattle.rp_base.specs.declared.geometry.Which.TheVariants.{Primary, Backup}
use Rattle.rp_base.specs.declared.table.Table.{Table}
use Rattle.rp_gpt.specs.Copy.{exact}
use Rattle.rp_pool.specs.Region.{IsRegion, Region, Run, bytes_of}
use Rattle.rp_region.specs.declared.blocks.Blocks.{Blocks}

-- 33 blocks each for the primary and the backup copy, 64 for a piece of a source, 6 for the levels of a tree
abbrev pub primary_run : Run
primary_run = record { first = 0; blocks = 33 }

abbrev pub backup_run : Run
backup_run = record { first = 33; blocks = 33 }

abbrev pub piece_run : Run
piece_run = record { first = 66; blocks = 64 }

abbrev pub levels_run : Run
levels_run = record { first = 130; blocks = 6 }

-- all blocks are out, in these runs
abbrev pub all_out : List ℕ
all_out = slice_set (slice_set (slice_set (slice_set (replicate 136 0) 0 33) 33 33) 66 64) 130 6

-- the blocks are lent so
pub record IsLeased (blocks : Blocks) : Type 0 where
  pub sound : IsRegion blocks.pool
  pub out : blocks.pool.out ≡ all_out
  pub primary : blocks.primary ≡ primary_run
  pub backup : blocks.backup ≡ backup_run
  pub piece : blocks.piece ≡ piece_run
  pub levels : blocks.levels ≡ levels_run

-- a run begins with these bytes
abbrev pub Holds : Region → Run → List ℕ → Type 0
Holds region run bytes = take (length bytes) (bytes_of region run) ≡ bytes

-- the region holds the exact copies of a table for a disk of so many sectors: the primary from block 0, the backup from block 33
pub record HoldsCopies (table : Table) (sectors : ℕ) (region : Region) : Type 0 where
  pub primary : Holds region primary_run (exact table Primary sectors)
  pub backup : Holds region backup_run (exact table Backup sectors)
