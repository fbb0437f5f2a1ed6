-- What stands in the room while a tree is checked: serves this crate's proofs.
use Rattle.std.specs.Prelude.{ℕ, zero, suc, ◌≡◌, ◌≢◌, ◌≤◌, ◌+◌, ◌-◌, ◌*◌, ◌/◌, ◌^◌, List, [], ◌∷◌, Bool, true, false, Option, Some, None, take, drop, option_map, slice_index_or}
use Rattle.std.specs.Option.{option_or}
use Rattle.rp_base.specs.declared.table.Row.{Row}
use Rattle.rp_verity.specs.Tree.{runs}
use Rattle.rp_verity.specs.Order.{blocks_over}
use Rattle.rp_tree.specs.declared.tree.Tree.{Tree}
use Rattle.rp_tree.specs.Checked.{begin_of, block_of, first_wrong, salt_of, superblock_of}

-- the salt that a tree has
abbrev pub salt_kept : Tree → List ℕ
salt_kept tree = take tree.said.salt_size tree.salt

-- a tree has the superblock of these rows, and its salt
pub record IsTreeOf (image : List ℕ) (payload hash : Row) (tree : Tree) : Type 0 where
  pub said : superblock_of image payload hash ≡ Some tree.said
  pub salt : salt_kept tree ≡ salt_of image hash tree.said

-- so many levels over so many digests fit in their row and end in one block; there is a room and a note for each
pub record IsShape (hash : Row) (levels digests room notes : ℕ) : Type 0 where
  pub some : 1 ≤ levels
  pub low : levels ≤ 5
  pub full : 1 ≤ digests
  pub few : digests ≤ 2 ^ 32
  pub top : (digests - 1) / 128 ^ levels ≡ 0
  pub room_size : room ≡ 4096 * levels
  pub note_size : levels ≤ notes
  pub ends : hash.start + hash.size ≤ 2 ^ 35
  pub fits : 8 * (1 + blocks_over levels digests) ≤ hash.size

-- where the level above the lowest begins
abbrev pub above_of : ℕ → ℕ → ℕ
above_of zero digests = 0
above_of (suc n) digests = begin_of n (runs digests)

-- the first wrong block of the lowest level, among so many of its blocks, is noted by its number in the row
abbrev pub IsNoted : List ℕ → List ℕ → Row → ℕ → ℕ → ℕ → List (Option ℕ) → Type 0
IsNoted image salt hash n digests reached notes =
    slice_index_or notes 0 None
    ≡ option_map (λ index. begin_of n digests + index) (first_wrong image salt hash (begin_of n digests) reached hash (above_of n digests))

-- of so many blocks of the lowest level, and of those above which these needed, the last ones stand in the room, the lowest
-- level first, and the first wrong ones are noted; of the topmost level its one block stands there
unfoldable pub Stands : List ℕ → List ℕ → Row → ℕ → ℕ → ℕ → List ℕ → List (Option ℕ) → Type 0
Stands image salt hash zero digests reached room notes = Unit {0}
Stands image salt hash (suc zero) digests reached room notes = take 4096 room ≡ block_of image hash 1
Stands image salt hash (suc (suc n)) digests reached room notes =
    (reached ≢ 0 → take 4096 room ≡ block_of image hash (begin_of (suc (suc n)) digests + reached - 1))
    × IsNoted image salt hash (suc (suc n)) digests reached notes
    × Stands image salt hash (suc n) (runs digests) (runs reached) (drop 4096 room) (drop 1 notes)

-- a number is noted where its block isn't right and none was noted
abbrev pub noted : List (Option ℕ) → ℕ → Bool → List (Option ℕ)
noted [] number right = []
noted (entry ∷ notes) number true = entry ∷ notes
noted (entry ∷ notes) number false = option_or entry (Some number) ∷ notes
