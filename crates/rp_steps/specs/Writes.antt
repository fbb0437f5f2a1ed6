-- How many writes steps are: own rules.
use Rattle.std.specs.Prelude.{ℕ, ◌+◌, ◌-◌, ◌/◌, ◌^◌, ◌≤◌, ◌<◌, List, All, sum_by}
use Rattle.rp_base.specs.Trees.{hash_blocks}
use Rattle.rp_steps.specs.declared.step.Step.{Step}
use Rattle.rp_steps.specs.declared.step.Step.TheVariants.{Grow, Zero, Copy, Tree, Sync}

-- the bytes of a piece, the most that one write of zeros or of a source has
abbrev pub piece : ℕ
piece = 262144

-- how many pieces so many bytes make, the last of them maybe shorter
abbrev pub pieces : ℕ → ℕ
pieces len = (len + (piece - 1)) / piece

-- how many writes a step is: one for each piece, for each block of a tree and its superblock's, and for each other write
unfoldable pub writes_in : Step → ℕ
writes_in (Grow len) = 0
writes_in (Zero at len) = pieces len
writes_in (Copy file at len) = pieces len
writes_in (Tree data_at hash_at blocks salt uuid root) = hash_blocks blocks
writes_in Sync = 0
writes_in other = 1

-- how many writes steps are
abbrev pub writes : List Step → ℕ
writes steps = sum_by writes_in steps

-- a tree stands over 1 to 2^32 data blocks
abbrev pub HasBlocks : Step → Type 0
HasBlocks (Tree data_at hash_at blocks salt uuid root) = (1 ≤ blocks) × (blocks ≤ 2 ^ 32)
HasBlocks other = Unit {0}

-- steps whose writes can be counted in 64 bits
pub record AreCountable (steps : List Step) : Type 0 where
  pub blocks : All HasBlocks steps
  pub few : writes steps < 2 ^ 64
