-- A region of blocks of 4,096 bytes of which runs are lent: own rules.
use Rattle.std.specs.Prelude.{ℕ, ◌≡◌, ◌≢◌, ◌+◌, ◌*◌, ◌<◌, ◌≤◌, ◌==◌, ◌&&◌, ◌||◌, ◌⊎◌, nat_le, Bool, Option, Some, None, List, ◌++◌, length, take, drop, replicate, count_by, find, map, slice_index, slice_range, slice_set}
use Rattle.std.specs.List.{enumerate_from, list_all, range_with_len}
use Rattle.rp_base.specs.List.{rewritten}

-- a run of blocks: the number of the first, and how many
pub record Run : Type 0 where
  pub first : ℕ
  pub blocks : ℕ

-- a region: the bytes of its blocks, and for each block how many blocks the run has that is out and begins there, else 0
pub record Region : Type 0 where
  pub bytes : List ℕ
  pub out : List ℕ

-- a region of zeros with no run out
abbrev pub new_region : ℕ → Region
new_region blocks = record { bytes = replicate (4096 * blocks) 0; out = replicate blocks 0 }

-- two runs share no block; one without blocks shares none
abbrev pub apart : Run → Run → Bool
apart a b = (b.blocks == 0) || (nat_le (a.first + a.blocks) b.first || nat_le (b.first + b.blocks) a.first)

-- a run lies in the region and shares no block with one that is out
abbrev pub is_free : List ℕ → Run → Bool
is_free out run = nat_le (run.first + run.blocks) (length out)
    && list_all (λ e. apart run (record { first = e.0; blocks = e.1 })) (enumerate_from 0 out)

-- the first run of so many free blocks
abbrev pub first_fit : List ℕ → ℕ → Option Run
first_fit out blocks = find (is_free out) (map (λ first. record { first = first; blocks = blocks }) (range_with_len 0 (length out)))

-- the number of blocks that are in no run that is out
abbrev pub free_blocks : List ℕ → ℕ
free_blocks out = count_by (λ block. is_free out (record { first = block; blocks = 1 })) (range_with_len 0 (length out))

-- the region with one run more out
abbrev pub lent : Region → Option Run → Region
lent region None = region
lent region (Some run) = record region { out = slice_set region.out run.first run.blocks }

-- the region with a run no more out
abbrev pub given_back : Region → Run → Region
given_back region run = record region { out = slice_set region.out run.first 0 }

-- a run is out
pub record IsOut (region : Region) (run : Run) : Type 0 where
  pub some : 1 ≤ run.blocks
  pub out : slice_index region.out run.first ≡ run.blocks

-- no run is out
abbrev pub NoneOut : Region → Type 0
NoneOut region = region.out ≡ replicate (length region.out) 0

-- a run was lent that was free: it has so many blocks, it is out, and so is each that was out before, which is another
pub record IsLent (before after : Region) (blocks : ℕ) (run : Run) : Type 0 where
  pub size : run.blocks ≡ blocks
  pub out : IsOut after run
  pub others : (other : Run) → IsOut before other → (other.first ≢ run.first) × IsOut after other

-- the bytes of a run
abbrev pub bytes_of : Region → Run → List ℕ
bytes_of region run = slice_range region.bytes (4096 * run.first) (4096 * (run.first + run.blocks))

-- the region with these bytes over the first ones of a run; it has as many bytes as before
abbrev pub written : Region → Run → List ℕ → Region
written region run bytes = record region {
  bytes = rewritten region.bytes
      (take (4096 * run.first) region.bytes ++ (bytes ++ drop (length bytes) (drop (4096 * run.first) region.bytes)));
}

-- the runs that are out lie among so many blocks, and no two share a block
pub record AreDisjoint (out : List ℕ) : Type 0 where
  pub within : (block : ℕ) → block < length out → block + slice_index out block ≤ length out
  pub apart : (block other : ℕ) → block < other → 0 < slice_index out other → block + slice_index out block ≤ other

-- the blocks of a pool, at most 4,096 of 4,096 bytes each, and the runs that are out
pub record IsRegion (region : Region) : Type 0 where
  pub bytes : length region.bytes ≡ 4096 * length region.out
  pub few : length region.out ≤ 4096
  pub disjoint : AreDisjoint region.out

-- a run of free blocks: it lies in the region, before or behind each run that is out
pub record IsFree (out : List ℕ) (run : Run) : Type 0 where
  pub within : run.first + run.blocks ≤ length out
  pub apart : (block : ℕ) → block < length out → 0 < slice_index out block
      → (run.first + run.blocks ≤ block) ⊎ (block + slice_index out block ≤ run.first)
