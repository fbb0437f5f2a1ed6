-- What a builder has taken, and how its numbers fit one another.
use Rattle.std.specs.Prelude.{ℕ, ◌≡◌, ◌≤◌, ◌-◌, ◌*◌, ◌/◌, ◌^◌, List, ◌∷◌, [], ◌++◌, length, map}
use Rattle.sha2.specs.Hashers.{Holds256}
use Rattle.rp_base.specs.Trees.{levels}
use Rattle.rp_verity.specs.declared.builder.Builder.{Builder}
use Rattle.rp_verity.specs.Tree.{digest}
use Rattle.rp_verity.specs.Room.{Holds, full_tops}

-- how many data blocks will come
abbrev pub blocks_of : Builder → ℕ
blocks_of builder = builder.blocks

-- how many were pushed
abbrev pub pushed_of : Builder → ℕ
pushed_of builder = builder.pushed

-- what stands in the place of the next data block
abbrev pub next_of : Builder → List ℕ
next_of builder = builder.next.items

-- the builder is one of 1 to 2^32 data blocks, not more of them pushed, with a place for the next and one for each level
pub record IsBuilder (builder : Builder) : Type 0 where
  pub some : 1 ≤ builder.blocks
  pub few : builder.blocks ≤ 2 ^ 32
  pub pushed : builder.pushed ≤ builder.blocks
  pub count : builder.count ≡ levels builder.blocks
  pub low : builder.count ≤ 5
  pub top : (builder.blocks - 1) / 128 ^ builder.count ≡ 0
  pub next : length builder.next.items ≡ 4096
  pub levels : length builder.levels.now ≡ 4096 * builder.count

-- the builder has this salt, and these data blocks were pushed to it
pub record HasTaken (builder : Builder) (salt : List ℕ) (taken : List (List ℕ)) : Type 0 where
  pub salted : Holds256 builder.salted salt
  pub pushed : builder.pushed ≡ length taken
  pub room : Holds salt builder.count builder.levels.now (map (digest salt) taken)
  pub root : (front : List (List ℕ)) (top : List ℕ) → full_tops salt builder.count (map (digest salt) taken) ≡ front ++ top ∷ []
      → builder.root ≡ top
