-- What taking one data block, and all of them, makes of a disk: serves this crate's proofs.
use Rattle.std.specs.Prelude.{ℕ, ◌≡◌, ◌+◌, ◌*◌, ◌≤◌, List, [], ◌∷◌, ◌++◌, length, Option, Result, IfOk, IfSome, OnOk, OnErr}
use Rattle.rp_base.specs.Image.{bytes_at}
use Rattle.rp_base.specs.Trees.{levels}
use Rattle.rp_base.specs.declared.faults.Failed.{Failed}
use Rattle.rp_disk.specs.History.{held}
use Rattle.rp_disk.specs.Made.{Past, Made, dones, history_told}
use Rattle.rp_disk.specs.Runs.{MadeFirst}
use Rattle.rp_verity.specs.declared.builder.Builder.{Builder}
use Rattle.rp_verity.specs.Builder.{HasTaken, IsBuilder, blocks_of, pushed_of}
use Rattle.rp_verity.specs.Order.{full_with, left_over}
use Rattle.rp_verity.specs.Puts.{placed}
use Rattle.rp_verity.specs.Tree.{root_hash, stored_tree}
use Rattle.rp_format.specs.declared.tree.TreePlan.{TreePlan}
use Rattle.rp_format.specs.Puts.{writes_of}
use Rattle.rp_format.specs.Written.{AreBlocks, AreShown, hash_calls}

-- the builder is one of the tree's data blocks, of which so many were pushed
pub record IsAt (tree : TreePlan) (k : ℕ) (builder : Builder) : Type 0 where
  pub sound : IsBuilder builder
  pub blocks : blocks_of builder ≡ tree.blocks
  pub pushed : pushed_of builder ≡ k

-- a data block of a disk
pub record IsBlockAt (tree : TreePlan) (k : ℕ) (first : Option Past) (made : List Made) (block : List ℕ) : Type 0 where
  pub size : length block ≡ 4096
  pub shown : IfSome (history_told first made) (λ h. tree.data_at + 4096 * (k + 1) ≤ length (held h)
      → block ≡ bytes_at (held h) (tree.data_at + 4096 * k) 4096)

-- the hash blocks that are full with the last data block taken, whatever data blocks come still
abbrev pub full_puts : TreePlan → List (List ℕ) → ℕ → List (ℕ × List ℕ)
full_puts tree taken reached = placed (stored_tree tree.salt taken) (full_with (levels tree.blocks) tree.blocks reached)

-- the hash blocks that aren't full at the end
abbrev pub left_puts : TreePlan → List (List ℕ) → List (ℕ × List ℕ)
left_puts tree taken = placed (stored_tree tree.salt taken) (left_over (levels tree.blocks) tree.blocks)

-- a data block was taken, and the hash blocks that are full with it were written
pub record TakesBlock {T E : Type 0} (tree : TreePlan) (k : ℕ) (old after : Builder) (made now : List Made) (block : List ℕ)
    (result : Result T E) : Type 0 where
  pub taken : (taken : List (List ℕ)) → HasTaken old tree.salt taken → OnOk result (HasTaken after tree.salt (taken ++ block ∷ []))
  pub done : (taken rest : List (List ℕ)) → HasTaken old tree.salt taken → length (taken ++ block ∷ rest) ≡ tree.blocks
      → OnOk result (now ≡ made ++ dones (writes_of tree.hash_at (full_puts tree (taken ++ block ∷ rest) (k + 1))))
  pub failed : (taken rest : List (List ℕ)) → HasTaken old tree.salt taken → length (taken ++ block ∷ rest) ≡ tree.blocks
      → OnErr result (MadeFirst made (writes_of tree.hash_at (full_puts tree (taken ++ block ∷ rest) (k + 1))) now)

-- the hash blocks of a tree were written, and its root hash is answered
pub record WritesHashes (tree : TreePlan) (taken : List (List ℕ)) (old new : List Made) (result : Result (List ℕ) Failed) : Type 0 where
  pub done : OnOk result (new ≡ old ++ dones (hash_calls tree taken))
  pub root : IfOk result (λ root. root ≡ root_hash tree.salt taken)
  pub failed : OnErr result (MadeFirst old (hash_calls tree taken) new)

abbrev pub WritesAll : TreePlan → Option Past → List Made → List Made → Result (List ℕ) Failed → Type 0
WritesAll tree first old new result =
    (taken : List (List ℕ)) × AreBlocks tree.blocks taken × AreShown tree first old taken × WritesHashes tree taken old new result
