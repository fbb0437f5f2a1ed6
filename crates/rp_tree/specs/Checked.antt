-- Whether a hash tree is right for its data (Linux, dm-verity; the rows' identifiers as the root hash: UAPI Group,
-- Discoverable Partitions Specification).
use Rattle.std.specs.Prelude.{ℕ, zero, suc, ◌+◌, ◌*◌, ◌==◌, List, ◌++◌, Bool, false, not, Option, Some, None, find, option_map, if◌then◌else◌}
use Rattle.std.specs.List.{range_with_len}
use Rattle.std.specs.Option.{option_map_or, option_or}
use Rattle.std.specs.Str.{bytes_eq}
use Rattle.rp_base.specs.Image.{bytes_at}
use Rattle.rp_base.specs.Trees.{levels}
use Rattle.rp_base.specs.declared.table.Row.{Row}
use Rattle.rp_verity.specs.Tree.{digest, runs}
use Rattle.rp_verity.specs.Order.{blocks_over}
use Rattle.rp_verity.specs.Superblock.{salt_in, superblock_in}
use Rattle.rp_verity.specs.declared.superblock.Superblock.{Superblock}
use Rattle.rp_tree.specs.declared.bad.Bad.{Bad}
use Rattle.rp_tree.specs.declared.bad.Bad.TheVariants as bads

-- the block of a row with this number, from 0
abbrev pub block_of : List ℕ → Row → ℕ → List ℕ
block_of image row number = bytes_at image (512 * row.start + 4096 * number) 4096

-- the superblock, if it is right
abbrev pub superblock_of : List ℕ → Row → Row → Option Superblock
superblock_of image payload hash = superblock_in (block_of image hash 0) payload hash

-- the salt of a superblock
abbrev pub salt_of : List ℕ → Row → Superblock → List ℕ
salt_of image hash superblock = salt_in (block_of image hash 0) superblock.salt_size

-- the block whose digest is the root hash: the topmost one, or the only data block
abbrev pub top_of : List ℕ → Row → Row → ℕ → List ℕ
top_of image payload hash blocks = if blocks == 1 then block_of image payload 0 else block_of image hash 1

-- the root hash is the identifiers of the data row and of the hash row
abbrev pub is_rooted : List ℕ → Row → Row → Superblock → Bool
is_rooted image payload hash superblock =
    bytes_eq (digest (salt_of image hash superblock) (top_of image payload hash superblock.blocks)) (payload.id.0 ++ hash.id.0)

-- the superblock is right, and so is the root hash
unfoldable pub has_root : List ℕ → Row → Row → Bool
has_root image payload hash = option_map_or (is_rooted image payload hash) (superblock_of image payload hash) false

-- the digest that a level, which begins with this block of its row, has for the block of this index in the level below
abbrev pub stored_for : List ℕ → Row → ℕ → ℕ → List ℕ
stored_for image hash level index = bytes_at image (512 * hash.start + 4096 * level + 32 * index) 32

-- a block's digest isn't the one that the level above has for it
abbrev pub is_wrong : List ℕ → List ℕ → Row → ℕ → Row → ℕ → ℕ → Bool
is_wrong image salt row first hash level index =
    not (bytes_eq (digest salt (block_of image row (first + index))) (stored_for image hash level index))

-- the index of the first such block, of so many that begin with this block of their row
abbrev pub first_wrong : List ℕ → List ℕ → Row → ℕ → ℕ → Row → ℕ → Option ℕ
first_wrong image salt row first count hash level = find (is_wrong image salt row first hash level) (range_with_len 0 count)

-- the block of the hash row with which the lowest of so many levels over so many digests begins: behind the superblock's and
-- those of the levels above
abbrev pub begin_of : ℕ → ℕ → ℕ
begin_of zero digests = 1
begin_of (suc n) digests = 1 + blocks_over n (runs digests)

-- the first wrong hash block of so many levels over so many digests, the topmost level first, the topmost block left out
unfoldable pub wrong_hash : List ℕ → List ℕ → Row → ℕ → ℕ → Option ℕ
wrong_hash image salt hash zero digests = None
wrong_hash image salt hash (suc zero) digests = None
wrong_hash image salt hash (suc (suc n)) digests =
    option_or (wrong_hash image salt hash (suc n) (runs digests))
    (option_map (λ index. begin_of (suc (suc n)) digests + index)
    (first_wrong image salt hash (begin_of (suc (suc n)) digests) (runs digests) hash (begin_of (suc n) (runs digests))))

-- the first wrong data block
abbrev pub wrong_data : List ℕ → List ℕ → Row → Row → ℕ → Option ℕ
wrong_data image salt payload hash blocks =
    first_wrong image salt payload 0 blocks hash (begin_of (levels blocks) blocks)

-- the first wrong block of a tree whose root hash is right: hash blocks first; over one data block there is none
unfoldable pub wrong_block : List ℕ → List ℕ → Row → Row → ℕ → Option Bad
wrong_block image salt payload hash blocks =
    if blocks == 1 then None
    else option_or (option_map (λ block. bads.Hash block) (wrong_hash image salt hash (levels blocks) blocks))
    (option_map (λ block. bads.Data block) (wrong_data image salt payload hash blocks))

-- what is wrong first of a tree whose superblock is right
abbrev pub bad_in : List ℕ → Row → Row → Superblock → Option Bad
bad_in image payload hash superblock =
    if is_rooted image payload hash superblock
    then wrong_block image (salt_of image hash superblock) payload hash superblock.blocks
    else Some bads.Top

-- what is wrong first of the tree in a hash row over its data row, if anything is
unfoldable pub first_bad : List ℕ → Row → Row → Option Bad
first_bad image payload hash = option_map_or (bad_in image payload hash) (superblock_of image payload hash) (Some bads.Superblock)
