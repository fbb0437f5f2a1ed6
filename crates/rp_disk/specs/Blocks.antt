-- Calls as blocks, each ended by a sync.
use Rattle.std.specs.Prelude.{ℕ, List, [], ◌∷◌, ◌++◌, ◌≡◌, ◌⊎◌, false}
use Rattle.rp_disk.specs.declared.call.Call.{Call}
use Rattle.rp_disk.specs.declared.call.Call.TheVariants.{Sync}
use Rattle.rp_disk.specs.Calls.{all_done, has_sync}
use Rattle.rp_disk.specs.Stops.{Each, Agrees}

-- the calls of these blocks, with a sync behind each block
abbrev pub flat : List (List Call) → List Call
flat [] = []
flat (block ∷ blocks) = block ++ Sync ∷ flat blocks

-- each call of each block has P
abbrev pub EachBlock : (Call → Type 0) → List (List Call) → Type 0
EachBlock P [] = Unit {0}
EachBlock P (block ∷ blocks) = Each P block × EachBlock P blocks

-- no block has a sync inside
abbrev pub Unsynced : List (List Call) → Type 0
Unsynced [] = Unit {0}
Unsynced (block ∷ blocks) = (has_sync block ≡ false) × Unsynced blocks

-- the image after these blocks, all done whole
abbrev pub blocks_done : List ℕ → List (List Call) → List ℕ
blocks_done image [] = image
blocks_done image (block ∷ blocks) = blocks_done (all_done image block) blocks

-- an image that a stop in the midst of one of the blocks may leave, or one behind the last
abbrev pub Phases : List ℕ → List (List Call) → List ℕ → Type 0
Phases image [] new = Agrees image [] new
Phases image (block ∷ blocks) new = Agrees image block new ⊎ Phases (all_done image block) blocks new
