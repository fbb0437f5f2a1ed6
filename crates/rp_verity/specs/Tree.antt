-- The hash tree of dm-verity (Linux, dm-verity, 'Hash Tree'; hash type 1 with SHA-256, data and hash blocks of 4,096 bytes),
-- on lists of blocks.
use Rattle.std.specs.Prelude.{ℕ, zero, suc, ◌+◌, ◌-◌, ◌*◌, ◌/◌, List, [], ◌++◌, length, map, replicate, take, drop, slice_index_or}
use Rattle.std.specs.List.{concat, range_with_len}
use Rattle.sha2.specs.Sha256.{sha256}
use Rattle.rp_base.specs.Trees.{levels}

-- the digest of a block: SHA-256 of the salt with the block behind it
unfoldable pub digest : List ℕ → List ℕ → List ℕ
digest salt block = sha256 (salt ++ block)

-- a hash block: at most 128 digests of 32 bytes, filled up with zeros
unfoldable pub hash_block : List (List ℕ) → List ℕ
hash_block digests = concat digests ++ replicate (4096 - 32 * length digests) 0

-- how many runs of 128, the last of them maybe shorter, so many digests make
abbrev pub runs : ℕ → ℕ
runs digests = (digests + 127) / 128

-- the run of digests with this number
abbrev pub run : List (List ℕ) → ℕ → List (List ℕ)
run digests k = take 128 (drop (128 * k) digests)

-- the level over these digests: a hash block for each run
unfoldable pub level : List (List ℕ) → List (List ℕ)
level digests = map (λ k. hash_block (run digests k)) (range_with_len 0 (runs (length digests)))

-- the digests of the level over these digests
abbrev pub raised : List ℕ → List (List ℕ) → List (List ℕ)
raised salt digests = map (digest salt) (level digests)

-- so many levels over these digests, as they are stored: the topmost first
unfoldable pub stored : List ℕ → ℕ → List (List ℕ) → List (List ℕ)
stored salt zero digests = []
stored salt (suc n) digests = stored salt n (raised salt digests) ++ level digests

-- the digests of the topmost of so many levels over these digests
unfoldable pub tops : List ℕ → ℕ → List (List ℕ) → List (List ℕ)
tops salt zero digests = digests
tops salt (suc n) digests = tops salt n (raised salt digests)

-- the hash blocks of the tree over these data blocks, in the order in which they stand behind the superblock's block
unfoldable pub stored_tree : List ℕ → List (List ℕ) → List (List ℕ)
stored_tree salt blocks = stored salt (levels (length blocks)) (map (digest salt) blocks)

-- the root hash: the digest of the one topmost block, or of the one data block where there are no levels
unfoldable pub root_hash : List ℕ → List (List ℕ) → List ℕ
root_hash salt blocks = slice_index_or (tops salt (levels (length blocks)) (map (digest salt) blocks)) 0 []
