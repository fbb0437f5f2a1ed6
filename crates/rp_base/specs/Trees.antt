-- How large a hash tree is (Linux, dm-verity; 128 digests of 32 bytes in a block of 4,096).
use Rattle.std.specs.Prelude.{ℕ, ◌+◌, ◌-◌, ◌/◌, ◌^◌, ◌==◌, find, map, sum, unwrap_or}
use Rattle.std.specs.List.{range_with_len}

-- the levels over so many data blocks: the least number of them with one block on top, or none for one data block; 5 are
-- enough for 2^35 data blocks
unfoldable pub levels : ℕ → ℕ
levels blocks = unwrap_or (find (λ level. (blocks - 1) / 128 ^ level == 0) (range_with_len 0 5)) 5

-- the blocks of a level, the one over the data being level 0: as many as the digests of the level below fill
unfoldable pub level_blocks : ℕ → ℕ → ℕ
level_blocks blocks level = (blocks - 1) / 128 ^ (level + 1) + 1

-- the blocks of the superblock and of all levels
unfoldable pub hash_blocks : ℕ → ℕ
hash_blocks blocks = 1 + sum (map (level_blocks blocks) (range_with_len 0 (levels blocks)))
