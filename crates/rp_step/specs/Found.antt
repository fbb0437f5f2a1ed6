-- What the calls of steps are, whatever sources and data rows hold: own rules.
use Rattle.std.specs.Prelude.{ℕ, ◌≡◌, ◌+◌, ◌*◌, ◌^◌, ◌<◌, ◌≤◌, ◌++◌, List, [], ◌∷◌, Option, false, length, ⊤}
use Rattle.rp_base.specs.declared.guid.Guid.{Guid}
use Rattle.rp_base.specs.declared.plan.Plan.{Plan}
use Rattle.rp_disk.specs.Made.{Past, Made, dones}
use Rattle.rp_disk.specs.declared.call.Call.{Call}
use Rattle.rp_fill.specs.Copied.{IsCopyOf}
use Rattle.rp_format.specs.Written.{AreBlocks, AreShown, IsTreePlan, LieIn, tree_calls}
use Rattle.rp_format.specs.declared.tree.TreePlan.{TreePlan}
use Rattle.rp_io.specs.Files.{content, passes}
use Rattle.rp_io.specs.declared.stored.Stored.{Stored}
use Rattle.rp_step.specs.Sourced.{path_at}
use Rattle.rp_steps.specs.Calls.{calls_of, in_pieces}
use Rattle.rp_steps.specs.declared.step.Step.{Step}
use Rattle.rp_steps.specs.declared.step.Step.TheVariants.{Grow, Zero, Copy, Tree, Sync}

-- what a step finds: the bytes of its source, and the data blocks under its tree
pub record Found : Type 0 where
  pub bytes : List ℕ
  pub blocks : List (List ℕ)

abbrev pub nothing_found : Found
nothing_found = record { bytes = []; blocks = [] }

-- the tree that a step writes
abbrev pub tree_of : ℕ → ℕ → ℕ → List ℕ → Guid → List ℕ → TreePlan
tree_of data_at hash_at blocks salt uuid root = record {
  data_at = data_at;
  hash_at = hash_at;
  blocks = blocks;
  salt = salt;
  uuid = uuid;
  root = root;
}

-- the calls of a step that finds this: a copy writes the bytes, a tree is that over the data blocks, and each other step is exact
unfoldable pub calls_with : Plan → Found → Step → List Call
calls_with plan found (Copy file at len) = in_pieces at found.bytes
calls_with plan found (Tree data_at hash_at blocks salt uuid root) = tree_calls (tree_of data_at hash_at blocks salt uuid root)
    found.blocks
calls_with plan found other = calls_of plan (λ file. []) other

-- those of steps, one behind another
abbrev pub all_calls : Plan → List Found → List Step → List Call
all_calls plan [] steps = []
all_calls plan (found ∷ founds) [] = []
all_calls plan (found ∷ founds) (step ∷ steps) = calls_with plan found step ++ all_calls plan founds steps

-- what is outside while steps are made: the files, where the sources tell them; the paths of definitions; the bytes that the
-- disk had at first, where it tells them
pub record Outside : Type 0 where
  pub told : Option (List Stored)
  pub paths : List (List ℕ)
  pub first : Option Past

abbrev pub outside_of : Option (List Stored) → List (List ℕ) → Option Past → Outside
outside_of told paths first = record { told = told; paths = paths; first = first }

-- a step finds this, on a disk of which these calls were made: a copy so many bytes, those of its file where the sources tell;
-- a tree so many blocks, those that the disk shows where it tells
abbrev pub IsFound : Outside → List Made → Found → Step → Type 0
IsFound outside made found (Copy file at len) = IsCopyOf outside.told (path_at outside.paths file) len found.bytes
IsFound outside made found (Tree data_at hash_at blocks salt uuid root) =
    AreBlocks blocks found.blocks × AreShown (tree_of data_at hash_at blocks salt uuid root) outside.first made found.blocks
IsFound outside made found other = ⊤

-- the same of steps, each on a disk on which those before it are done
abbrev pub AreFound : Plan → Outside → List Made → List Found → List Step → Type 0
AreFound plan outside made [] [] = ⊤
AreFound plan outside made [] (step ∷ steps) = ⊥
AreFound plan outside made (found ∷ founds) [] = ⊥
AreFound plan outside made (found ∷ founds) (step ∷ steps) =
    IsFound outside made found step × AreFound plan outside (made ++ dones (calls_with plan found step)) founds steps

-- no source and no data row has a part in a step, and its range is one of 64 bits
abbrev pub IsFixed : Step → Type 0
IsFixed (Copy file at len) = ⊥
IsFixed (Tree data_at hash_at blocks salt uuid root) = ⊥
IsFixed (Zero at len) = at + len < 2 ^ 64
IsFixed other = ⊤

-- a step can be made: its range is one of 64 bits, its source is one of the paths, its tree lies beside its data
abbrev pub CanMake : List (List ℕ) → Step → Type 0
CanMake paths (Zero at len) = at + len < 2 ^ 64
CanMake paths (Copy file at len) = (file < length paths) × (at + len < 2 ^ 64)
CanMake paths (Tree data_at hash_at blocks salt uuid root) = IsTreePlan (tree_of data_at hash_at blocks salt uuid root)
CanMake paths other = ⊤

-- the calls of a step lie in so many bytes
abbrev pub LiesIn : Plan → ℕ → Step → Type 0
LiesIn plan size (Grow len) = ⊤
LiesIn plan size Sync = ⊤
LiesIn plan size (Zero at len) = at + len ≤ size
LiesIn plan size (Copy file at len) = at + len ≤ size
LiesIn plan size (Tree data_at hash_at blocks salt uuid root) = LieIn (tree_of data_at hash_at blocks salt uuid root) size
LiesIn plan size other = 512 * plan.target ≤ size

-- a copy finds its file, with as many bytes
abbrev pub HasFile : List Stored → List (List ℕ) → Step → Type 0
HasFile files paths (Copy file at len) = passes (content files (path_at paths file)) len ≡ false
HasFile files paths other = ⊤
