-- What writing a hash tree makes of a disk: own rules over dm-verity's tree.
use Rattle.std.specs.Prelude.{ℕ, ◌≡◌, ◌≢◌, ◌+◌, ◌*◌, ◌^◌, ◌<◌, ◌≤◌, ◌⊎◌, List, [], ◌∷◌, ◌++◌, length, Option, All, Result, IfOk, IfSome, OnErr, MatchOption}
use Rattle.rp_base.specs.Image.{bytes_at}
use Rattle.rp_base.specs.Trees.{hash_blocks}
use Rattle.rp_base.specs.declared.faults.Failed.{Failed}
use Rattle.rp_disk.specs.declared.call.Call.{Call}
use Rattle.rp_disk.specs.declared.call.Call.TheVariants.{Write}
use Rattle.rp_disk.specs.History.{held}
use Rattle.rp_disk.specs.Made.{Past, Made, dones, history_told}
use Rattle.rp_disk.specs.Runs.{BrokeOff}
use Rattle.rp_steps.specs.Calls.{tree_writes}
use Rattle.rp_verity.specs.Filled.{cut}
use Rattle.rp_verity.specs.Superblock.{superblock}
use Rattle.rp_verity.specs.Tree.{root_hash, stored_tree}
use Rattle.rp_format.specs.declared.tree.TreePlan.{TreePlan}

-- where the data blocks end
abbrev pub data_end : TreePlan → ℕ
data_end tree = tree.data_at + 4096 * tree.blocks

-- where the hash blocks end
abbrev pub hash_end : TreePlan → ℕ
hash_end tree = tree.hash_at + 4096 * hash_blocks tree.blocks

-- data blocks and hash blocks lie in so many bytes
abbrev pub LieIn : TreePlan → ℕ → Type 0
LieIn tree size = (data_end tree ≤ size) × (hash_end tree ≤ size)

-- there are 1 to 2^32 data blocks, and they and the hash blocks lie apart, at places of 64 bits
pub record IsTreePlan (tree : TreePlan) : Type 0 where
  pub some : 1 ≤ tree.blocks
  pub few : tree.blocks ≤ 2 ^ 32
  pub data_fits : data_end tree < 2 ^ 64
  pub hash_fits : hash_end tree < 2 ^ 64
  pub apart : (data_end tree ≤ tree.hash_at) ⊎ (hash_end tree ≤ tree.data_at)

-- data blocks: so many, each of 4,096 bytes
pub record AreBlocks (blocks : ℕ) (taken : List (List ℕ)) : Type 0 where
  pub count : length taken ≡ blocks
  pub whole : All (λ block. length block ≡ 4096) taken

-- where a disk tells its bytes, and they reach to the end of the data blocks, the data blocks are those that are shown
abbrev pub AreShown : TreePlan → Option Past → List Made → List (List ℕ) → Type 0
AreShown tree first made taken = IfSome (history_told first made) (λ h. data_end tree ≤ length (held h)
    → taken ≡ cut tree.blocks (bytes_at (held h) tree.data_at (4096 * tree.blocks)))

-- the writes of the hash blocks, and that of the superblock behind them
abbrev pub hash_calls : TreePlan → List (List ℕ) → List Call
hash_calls tree taken = tree_writes tree.hash_at tree.blocks (stored_tree tree.salt taken)

abbrev pub tree_calls : TreePlan → List (List ℕ) → List Call
tree_calls tree taken = hash_calls tree taken ++ Write tree.hash_at (superblock tree.uuid tree.blocks tree.salt) ∷ []

-- the tree over data blocks was written: with its superblock, where its root hash is the planned one; without, where it is
-- another, which is answered; at a failure only some first ones of these writes were made, the last of them maybe in part
pub record Writes (tree : TreePlan) (taken : List (List ℕ)) (old new : List Made) (result : Result (Option (List ℕ)) Failed) : Type 0 where
  pub done : IfOk result (λ other. MatchOption other
      ((new ≡ old ++ dones (tree_calls tree taken)) × (root_hash tree.salt taken ≡ tree.root))
      (λ root. (new ≡ old ++ dones (hash_calls tree taken)) × (root ≡ root_hash tree.salt taken) × (root ≢ tree.root)))
  pub failed : OnErr result (BrokeOff old (tree_calls tree taken) new)

-- the tree over the data blocks of a disk was written
abbrev pub WritesTree : TreePlan → Option Past → List Made → List Made → Result (Option (List ℕ)) Failed → Type 0
WritesTree tree first old new result =
    (taken : List (List ℕ)) × AreBlocks tree.blocks taken × AreShown tree first old taken × Writes tree taken old new result
