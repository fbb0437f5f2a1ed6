-- The superblock of a hash partition, in its first block of 4,096 bytes (cryptsetup, 'verity superblock' of lib/verity; hash
-- type 1 with SHA-256). Numbers are little-endian.
use Rattle.std.specs.Prelude.{ℕ, ◌-◌, ◌*◌, ◌^◌, ◌≤◌, List, [], ◌∷◌, ◌++◌, length, replicate, codes, Bool, ◌&&◌, nat_le, Option, Some, None, if◌then◌else◌}
use Rattle.std.specs.Int.{w16, w32, w64, from_le_bytes, to_le_bytes}
use Rattle.std.specs.List.{concat}
use Rattle.std.specs.Str.{bytes_eq}
use Rattle.rp_base.specs.declared.guid.Guid.{Guid}
use Rattle.rp_base.specs.declared.table.Row.{Row}
use Rattle.rp_base.specs.Image.{bytes_at}
use Rattle.rp_base.specs.Trees.{hash_blocks}
use Rattle.rp_verity.specs.declared.superblock.Superblock.{Superblock}

-- what stands before the UUID: the signature, the version, the hash type
abbrev pub head : List ℕ
head = codes "verity" ++ replicate 2 0 ++ to_le_bytes w32 1 ++ to_le_bytes w32 1

-- what stands behind the UUID: the algorithm's name in 32 bytes, the sizes of data blocks and of hash blocks
abbrev pub form : List ℕ
form = codes "sha256" ++ replicate 26 0 ++ to_le_bytes w32 4096 ++ to_le_bytes w32 4096

-- the superblock's block: the UUID in the order of its text, the number of data blocks, the salt's size, 6 bytes of padding,
-- the salt in 256 bytes, zeros
unfoldable pub superblock : Guid → ℕ → List ℕ → List ℕ
superblock uuid blocks salt =
    concat (head ∷ uuid.0 ∷ form ∷ to_le_bytes w64 blocks ∷ to_le_bytes w16 (length salt) ∷ replicate 6 0 ∷ salt
    ∷ replicate (256 - length salt) 0 ∷ replicate 168 0 ∷ replicate 3584 0 ∷ [])

-- how many data blocks a superblock says
unfoldable pub blocks_in : List ℕ → ℕ
blocks_in block = from_le_bytes w64 (bytes_at block 72 8)

-- how many bytes of salt it says
unfoldable pub salt_size_in : List ℕ → ℕ
salt_size_in block = from_le_bytes w16 (bytes_at block 80 2)

-- what stands before the UUID and behind it is as it is written
unfoldable pub is_headed : List ℕ → Bool
is_headed block = bytes_eq (bytes_at block 0 16) head && bytes_eq (bytes_at block 32 40) form

-- so many data blocks are 1 to 2^32 and fit in the data row, and their tree fits in the hash row
unfoldable pub fits : ℕ → Row → Row → Bool
fits blocks payload hash =
    nat_le 1 blocks && nat_le blocks (2 ^ 32) && nat_le (8 * blocks) payload.size && nat_le (8 * hash_blocks blocks) hash.size

-- the same as a fact
pub record FitIn (blocks : ℕ) (payload hash : Row) : Type 0 where
  pub some : 1 ≤ blocks
  pub few : blocks ≤ 2 ^ 32
  pub blocks_fit : 8 * blocks ≤ payload.size
  pub tree_fits : 8 * hash_blocks blocks ≤ hash.size

-- the superblock of a data row and a hash row, if it is right: neither the UUID nor what is written as zeros is looked at
unfoldable pub superblock_in : List ℕ → Row → Row → Option Superblock
superblock_in block payload hash =
    if is_headed block && nat_le (salt_size_in block) 256 && fits (blocks_in block) payload hash
    then Some (record { blocks = blocks_in block; salt_size = salt_size_in block })
    else None

-- the salt that a superblock of this size of salt has
unfoldable pub salt_in : List ℕ → ℕ → List ℕ
salt_in block size = bytes_at block 88 size
