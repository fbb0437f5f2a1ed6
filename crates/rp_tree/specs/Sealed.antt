-- A data row with its hash row, as they are written.
use Rattle.std.specs.Prelude.{ℕ, ◌≡◌, ◌<◌, ◌+◌, List, [], ◌++◌, length, slice_index_or}
use Rattle.rp_base.specs.declared.guid.Guid.{Guid}
use Rattle.rp_base.specs.declared.table.Row.{Row}
use Rattle.rp_base.specs.Trees.{hash_blocks}
use Rattle.rp_verity.specs.Superblock.{FitIn, superblock}
use Rattle.rp_verity.specs.Tree.{root_hash, stored_tree}
use Rattle.rp_tree.specs.Checked.{block_of}

-- a data row begins with these blocks, its hash row with their superblock and their stored tree, and the identifiers of both
-- are the root hash
pub record IsSealed (image : List ℕ) (payload hash : Row) (uuid : Guid) (salt : List ℕ) (blocks : List (List ℕ)) : Type 0 where
  pub uuid_len : length uuid.0 ≡ 16
  pub salt_len : length salt ≡ 32
  pub fit : FitIn (length blocks) payload hash
  pub data_blocks : (k : ℕ) → k < length blocks → block_of image payload k ≡ slice_index_or blocks k []
  pub superblock : block_of image hash 0 ≡ superblock uuid (length blocks) salt
  pub tree : (k : ℕ) → k + 1 < hash_blocks (length blocks) → block_of image hash (k + 1) ≡ slice_index_or (stored_tree salt blocks) k []
  pub root : payload.id.0 ++ hash.id.0 ≡ root_hash salt blocks
