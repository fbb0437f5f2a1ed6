-- Where sources and disk tell, the calls are those of the plan.
use Rattle.std.proofs.Common.{◌≡◌, ℕ, ◌+◌, ◌*◌, ◌≤◌, List, [], ◌∷◌, ◌++◌, length, Option, Some, refl, sym, ap, ap₂, ◌∙◌, subst}
use Rattle.std.specs.Prelude.{IfSome}
use Rattle.rp_base.specs.Image.{bytes_at}
use Rattle.rp_base.specs.declared.plan.Plan.{Plan}
use Rattle.rp_disk.specs.Calls.{all_done, resized}
use Rattle.rp_disk.specs.History.{held}
use Rattle.rp_disk.specs.Made.{Past, Made, dones, history_of, history_told}
use Rattle.rp_disk.specs.declared.call.Call.{Call}
use Rattle.rp_disk.specs.declared.call.Call.TheVariants.{Write}
use Rattle.rp_disk.proofs.Runs.{history_of-dones, held-all_did}
use Rattle.rp_fill.specs.Copied.{IsCopyOf, file_bytes}
use Rattle.rp_io.specs.declared.stored.Stored.{Stored}
use Rattle.rp_steps.specs.Calls.{calls_of, calls_of_steps, in_pieces, tree_writes}
use Rattle.rp_steps.specs.Contents.{Sources, payload_at, tree_over}
use Rattle.rp_steps.specs.declared.step.Step.{Step}
use Rattle.rp_steps.specs.declared.step.Step.TheVariants.{Grow, Zero, Copy, Tree, ClosePrimary, ArrayPrimary, HeaderPrimary, CloseBackup, ArrayBackup, HeaderBackup, Mbr, Sync}
use Rattle.rp_verity.specs.Filled.{cut}
use Rattle.rp_verity.specs.Superblock.{superblock}
use Rattle.rp_verity.specs.Tree.{stored_tree}
use Rattle.rp_step.specs.Found.{AreFound, Found, IsFound, Outside, all_calls, calls_with}
use Rattle.rp_step.specs.Sourced.{path_at, sources_in}

-- an image holds what a tree is to stand over
abbrev pub IsLaid : Plan → Sources → List ℕ → Step → Type 0
IsLaid plan sources image (Tree data_at hash_at blocks salt uuid root) =
    (data_at + 4096 * blocks ≤ length image) × (cut blocks (bytes_at image data_at (4096 * blocks))
    ≡ cut blocks (payload_at plan sources data_at))
IsLaid plan sources image other = Unit {0}

-- the same of steps, each on the image on which those before it are done
abbrev pub AreLaid : Plan → Sources → List ℕ → List Step → Type 0
AreLaid plan sources image [] = Unit {0}
AreLaid plan sources image (step ∷ steps) =
    IsLaid plan sources image step × AreLaid plan sources (all_done image (calls_of plan sources step)) steps

-- the bytes that a copy writes, of a file that is told
copied_is : (told : Option (List Stored)) (files : List Stored) (path : List ℕ) (len : ℕ) (bytes : List ℕ) → told ≡ Some files
    → IsCopyOf told path len bytes → bytes ≡ resized (file_bytes files path) len
copied_is told files path len bytes is copy =
    let P : Option (List Stored) → Type 0 = λ t. IfSome t (λ f. bytes ≡ resized (file_bytes f path) len) in
    subst P is copy.same

module _ (plan : Plan) (outside : Outside) (files : List Stored) (first : Past) (told : outside.told ≡ Some files)
    (shows : outside.first ≡ Some first) where
  abbrev sources : Sources
  sources = sources_in files outside.paths

  -- the data blocks under a tree
  pub blocks_are : (made : List Made) (data_at hash_at blocks : ℕ) (salt : List ℕ) (taken : List (List ℕ))
      → IfSome (history_told outside.first made) (λ h. data_at + 4096 * blocks ≤ length (held h)
      → taken ≡ cut blocks (bytes_at (held h) data_at (4096 * blocks)))
      → data_at + 4096 * blocks ≤ length (held (history_of first made))
      → cut blocks (bytes_at (held (history_of first made)) data_at (4096 * blocks)) ≡ cut blocks (payload_at plan sources data_at)
      → taken ≡ cut blocks (payload_at plan sources data_at)
  blocks_are made data_at hash_at blocks salt taken are reaches laid =
      let P : Option Past → Type 0 = λ f. IfSome (history_told f made) (λ h. data_at + 4096 * blocks ≤ length (held h)
      → taken ≡ cut blocks (bytes_at (held h) data_at (4096 * blocks))) in
      subst P shows are reaches ∙ laid

  pub tied : (made : List Made) (found : Found) (step : Step) → IsFound outside made found step
      → IsLaid plan sources (held (history_of first made)) step → calls_with plan found step ≡ calls_of plan sources step
  unfolding calls_with calls_of tree_over
  tied made found (Copy file at len) is laid =
      ap (in_pieces at) (copied_is outside.told files (path_at outside.paths file) len found.bytes told is)
  tied made found (Tree data_at hash_at blocks salt uuid root) is laid =
      ap (λ (t : List (List ℕ)). tree_writes hash_at blocks (stored_tree salt t) ++ Write hash_at (superblock uuid blocks salt) ∷ [])
      (blocks_are made data_at hash_at blocks salt found.blocks is.1 laid.0 laid.1)
  tied made found (Grow len) is laid = refl
  tied made found (Zero at len) is laid = refl
  tied made found ClosePrimary is laid = refl
  tied made found ArrayPrimary is laid = refl
  tied made found HeaderPrimary is laid = refl
  tied made found CloseBackup is laid = refl
  tied made found ArrayBackup is laid = refl
  tied made found HeaderBackup is laid = refl
  tied made found Mbr is laid = refl
  tied made found Sync is laid = refl

  -- the image on which a step was done
  pub shown_after : (made : List Made) (calls : List Call)
      → held (history_of first (made ++ dones calls)) ≡ all_done (held (history_of first made)) calls
  shown_after made calls = ap held (history_of-dones first made calls) ∙ held-all_did (history_of first made) calls

  pub all_tied : (made : List Made) (founds : List Found) (steps : List Step) → AreFound plan outside made founds steps
      → AreLaid plan sources (held (history_of first made)) steps → all_calls plan founds steps ≡ calls_of_steps plan sources steps
  all_tied made [] [] are laid = refl
  all_tied made [] (step ∷ steps) are laid = absurd are
  all_tied made (found ∷ founds) [] are laid = absurd are
  all_tied made (found ∷ founds) (step ∷ steps) are laid =
      let here = tied made found step are.0 laid.0 in
      let next : held (history_of first (made ++ dones (calls_with plan found step)))
      ≡ all_done (held (history_of first made)) (calls_of plan sources step) =
      shown_after made (calls_with plan found step) ∙ ap (all_done (held (history_of first made))) here in
      ap₂ (λ (x y : List Call). x ++ y) here
      (all_tied (made ++ dones (calls_with plan found step)) founds steps are.1
      (subst (λ (image : List ℕ). AreLaid plan sources image steps) (sym next) laid.1))
