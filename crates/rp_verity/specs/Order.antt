-- The order in which the blocks of a tree become complete while its data blocks come one by one (own). A block is named by its
-- place in the stored order.
use Rattle.std.specs.Prelude.{ℕ, zero, suc, ◌+◌, ◌-◌, ◌%◌, ◌==◌, List, [], ◌∷◌, ◌++◌, if◌then◌else◌}
use Rattle.std.specs.List.{flat_map, range_with_len}
use Rattle.rp_base.specs.Trees.{levels}
use Rattle.rp_verity.specs.Tree.{runs}

-- the blocks of so many levels over so many digests
unfoldable pub blocks_over : ℕ → ℕ → ℕ
blocks_over zero digests = 0
blocks_over (suc n) digests = blocks_over n (runs digests) + runs digests

-- the place of the last block that so many of the digests reach, in the lowest of so many levels over all digests: behind
-- the blocks of the levels above it
abbrev pub place_of : ℕ → ℕ → ℕ → ℕ
place_of above digests reached = blocks_over above (runs digests) + runs reached - 1

-- the blocks that are full with the digest of this number, from 1: one whose last digest it is, then in the level above
-- those that are full with that block's digest
unfoldable pub full_with : ℕ → ℕ → ℕ → List ℕ
full_with zero digests reached = []
full_with (suc n) digests reached =
    if reached % 128 == 0 then place_of n digests reached ∷ full_with n (runs digests) (runs reached) else []

-- the last blocks of the levels, the lowest first
unfoldable pub last_blocks : ℕ → ℕ → List ℕ
last_blocks zero digests = []
last_blocks (suc n) digests = place_of n digests digests ∷ last_blocks n (runs digests)

-- the blocks that aren't full when all digests have come, and so those above the first such block, whose last digests come
-- from below: the lowest first
unfoldable pub left_over : ℕ → ℕ → List ℕ
left_over zero digests = []
left_over (suc n) digests =
    if digests % 128 == 0 then left_over n (runs digests) else last_blocks (suc n) digests

-- all blocks of the levels over so many digests, in the order in which they become complete
unfoldable pub order_over : ℕ → ℕ → List ℕ
order_over n digests = flat_map (full_with n digests) (range_with_len 1 digests) ++ left_over n digests

-- all blocks of the tree over so many data blocks, in the order in which they become complete
abbrev pub order : ℕ → List ℕ
order blocks = order_over (levels blocks) blocks
