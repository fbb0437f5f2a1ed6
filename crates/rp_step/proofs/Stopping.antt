-- Where a source has changed, the root hash that is told is that of the bytes that the data row shows.
use Rattle.std.proofs.Common.{◌≡◌, ◌≢◌, ℕ, suc, ◌+◌, ◌*◌, ◌<◌, ◌≤◌, ◌⊎◌, inl, inr, List, [], ◌∷◌, ◌++◌, length, Option, Some, refl, sym, ap, ◌∙◌, subst, arith, All, append_assoc}
use Rattle.std.specs.Prelude.{Any, IfSome}
use Rattle.std.proofs.lemmas.List.Elements.{All-head, All-tail, All-weaker}
use Rattle.rp_base.specs.Image.{bytes_at}
use Rattle.rp_base.specs.Trees.{hash_blocks, levels}
use Rattle.rp_base.specs.declared.plan.Plan.{Plan}
use Rattle.rp_disk.specs.History.{History, Did, Failed, IsLawful, held}
use Rattle.rp_disk.specs.Made.{Past, Made, dones, history_of, history_told}
use Rattle.rp_disk.specs.Ranges.{Apart}
use Rattle.rp_disk.specs.Stops.{Each}
use Rattle.rp_disk.proofs.Noting.{lawful_before}
use Rattle.rp_disk.proofs.Runs.{history_of-append}
use Rattle.rp_format.specs.Written.{AreBlocks, IsTreePlan, data_end, hash_calls, hash_end}
use Rattle.rp_format.specs.declared.tree.TreePlan.{TreePlan}
use Rattle.rp_format.proofs.Kept.{writes-are}
use Rattle.rp_format.proofs.Places.{apart_placed, length-tree, tree_blocks}
use Rattle.rp_format.proofs.Told.{IsWrite, SameRange, same_range}
use Rattle.rp_steps.specs.Calls.{tree_writes}
use Rattle.rp_steps.specs.declared.step.Step.{Step}
use Rattle.rp_steps.specs.declared.step.Step.TheVariants.{Grow, Zero, Copy, Tree, ClosePrimary, ArrayPrimary, HeaderPrimary, CloseBackup, ArrayBackup, HeaderBackup, Mbr, Sync}
use Rattle.rp_verity.specs.Filled.{cut}
use Rattle.rp_verity.specs.Order.{blocks_over, order}
use Rattle.rp_verity.specs.Puts.{placed}
use Rattle.rp_verity.specs.Tree.{root_hash, stored_tree}
use Rattle.rp_verity.proofs.OrderLemmas.{order-inside}
use Rattle.rp_verity.proofs.ShapeLemmas.{hash_blocks-over}
use Rattle.rp_step.specs.Found.{AreFound, CanMake, Found, IsFound, LiesIn, Outside, calls_with, tree_of}
use Rattle.rp_step.specs.Made.{HasOtherRoot}
use Rattle.rp_step.specs.Run.{AllLieIn, StopsAtRoot, shown_root}
use Rattle.rp_step.proofs.Lengths.{length_after}

-- a tree with another root hash than the planned one, over the bytes that an image shows
abbrev pub ShowsOtherStep : List ℕ → List ℕ → List ℕ → Step → Type 0
ShowsOtherStep image planned copied (Tree data_at hash_at blocks salt uuid root) =
    (planned ≡ root) × (copied ≡ shown_root image data_at blocks salt) × (copied ≢ planned)
ShowsOtherStep image planned copied other = ⊥

-- what was lawful at first
lawful_front : (first : Past) (front back : List Made) → IsLawful (history_of first (front ++ back)) → IsLawful (history_of first front)
lawful_front first front back lawful = lawful_before first.left (history_of first front) back (subst IsLawful (history_of-append first front back) lawful)

-- the calls that were made go on from those at the start
goes_on : (plan : Plan) (founds : List Found) (steps : List Step) (planned copied : List ℕ) (old new : List Made)
    → StopsAtRoot plan founds planned copied old new steps
    → (more : List Made) × (new ≡ old ++ more)
goes_on plan [] steps planned copied old new stops = absurd stops
goes_on plan (found ∷ founds) [] planned copied old new stops = absurd stops
goes_on plan (found ∷ founds) (step ∷ steps) planned copied old new (inr later) =
    let calls = dones (calls_with plan found step) in
    let r = goes_on plan founds steps planned copied (old ++ calls) new later.1 in
    (calls ++ r.0, r.1 ∙ append_assoc old calls r.0)
goes_on plan (found ∷ founds) (step ∷ steps) planned copied old new (inl here) = by step here where
  by : (s : Step) → HasOtherRoot found planned copied old new s → (more : List Made) × (new ≡ old ++ more)
  by (Tree data_at hash_at blocks salt uuid root) other = (
    dones
        (hash_calls (tree_of data_at hash_at blocks salt uuid root) found.blocks),
    other.3,
  )
  by (Grow len) other = absurd other
  by (Zero from len) other = absurd other
  by (Copy file from len) other = absurd other
  by ClosePrimary other = absurd other
  by ArrayPrimary other = absurd other
  by HeaderPrimary other = absurd other
  by CloseBackup other = absurd other
  by ArrayBackup other = absurd other
  by HeaderBackup other = absurd other
  by Mbr other = absurd other
  by Sync other = absurd other

hashes-are : (tree : TreePlan) (taken : List (List ℕ)) → Each IsWrite (hash_calls tree taken)
unfolding tree_writes
hashes-are tree taken = writes-are tree.hash_at (placed (stored_tree tree.salt taken) (order tree.blocks))

-- hash blocks lie apart from the data
data_apart : (tree : TreePlan) (taken : List (List ℕ)) → IsTreePlan tree → AreBlocks tree.blocks taken
    → Each (Apart tree.data_at (4096 * tree.blocks)) (hash_calls tree taken)
unfolding tree_writes
data_apart tree taken plan are =
    let all = stored_tree tree.salt taken in
    let over = hash_blocks-over tree.blocks plan.some in
    let count : length taken ≡ tree.blocks = are.count in
    let size : length all ≡ blocks_over (levels tree.blocks) tree.blocks =
    length-tree tree.salt taken ∙ ap (λ (n : ℕ). blocks_over (levels n) n) count in
    apart_placed tree.data_at (4096 * tree.blocks) tree.hash_at all (order tree.blocks) (tree_blocks tree.salt taken)
    (All-weaker (λ place. place < blocks_over (levels tree.blocks) tree.blocks) (λ place. place < length all)
    (λ place below. omega (arith, below, size)) (order tree.blocks)
    (order-inside (levels tree.blocks) tree.blocks plan.some))
    (by plan.apart (omega (arith, over, size))) where
      by : (data_end tree ≤ tree.hash_at) ⊎ (hash_end tree ≤ tree.data_at)
          → 1 + length (stored_tree tree.salt taken) ≡ hash_blocks tree.blocks
          → (tree.data_at + 4096 * tree.blocks ≤ tree.hash_at)
          ⊎ (tree.hash_at + 4096 * (1 + length (stored_tree tree.salt taken)) ≤ tree.data_at)
      by (inl before) whole = inl before
      by (inr behind) whole = inr (omega (arith, behind, whole))

module _ (plan : Plan) (outside : Outside) (first : Past) (shows : outside.first ≡ Some first) where
  one : (found : Found) (step : Step) (planned copied : List ℕ) (made new : List Made) → IsFound outside made found step
      → CanMake outside.paths step
      → LiesIn plan (length (held (history_of first made))) step → IsLawful (history_of first new)
      → HasOtherRoot found planned copied made new step
      → ShowsOtherStep (held (history_of first new)) planned copied step
  unfolding SameRange
  one found (Tree data_at hash_at blocks salt uuid root) planned copied made new is can lies lawful other =
      let tree = tree_of data_at hash_at blocks salt uuid root in
      let P : Option Past → Type 0 = λ f. IfSome (history_told f made) (λ h. data_end tree ≤ length (held h)
      → found.blocks ≡ cut blocks (bytes_at (held h) data_at (4096 * blocks))) in
      let taken : found.blocks ≡ cut blocks (bytes_at (held (history_of first made)) data_at (4096 * blocks)) = subst P shows is.1
      lies.0 in
      let still : bytes_at (held (history_of first new)) data_at (4096 * blocks)
      ≡ bytes_at (held (history_of first made)) data_at (4096 * blocks) =
      same_range data_at (4096 * blocks) (Some first) made new (hash_calls tree found.blocks) other.3
      (hashes-are tree found.blocks) (data_apart tree found.blocks can is.0) lawful lies.0 in
      (other.0, other.1 ∙ ap (root_hash salt) (taken ∙ ap (cut blocks) (sym still)), other.2)
  one found (Grow len) planned copied made new is can lies lawful other = absurd other
  one found (Zero at len) planned copied made new is can lies lawful other = absurd other
  one found (Copy file at len) planned copied made new is can lies lawful other = absurd other
  one found ClosePrimary planned copied made new is can lies lawful other = absurd other
  one found ArrayPrimary planned copied made new is can lies lawful other = absurd other
  one found HeaderPrimary planned copied made new is can lies lawful other = absurd other
  one found CloseBackup planned copied made new is can lies lawful other = absurd other
  one found ArrayBackup planned copied made new is can lies lawful other = absurd other
  one found HeaderBackup planned copied made new is can lies lawful other = absurd other
  one found Mbr planned copied made new is can lies lawful other = absurd other
  one found Sync planned copied made new is can lies lawful other = absurd other

  pub stopped_shown : (founds : List Found) (steps : List Step) (planned copied : List ℕ) (made new : List Made)
      → AreFound plan outside made founds steps
      → All (CanMake outside.paths) steps → AllLieIn plan (length (held (history_of first made))) steps → IsLawful (history_of first new)
      → StopsAtRoot plan founds planned copied made new steps → Any (ShowsOtherStep (held (history_of first new)) planned copied) steps
  stopped_shown [] steps planned copied made new are can lies lawful stops = absurd stops
  stopped_shown (found ∷ founds) [] planned copied made new are can lies lawful stops = absurd stops
  stopped_shown (found ∷ founds) (step ∷ steps) planned copied made new are can lies lawful (inl here) = (
    0,
    step,
    omega arith,
    refl,
    one found step planned copied made new are.0 (All-head (CanMake outside.paths) step steps can) lies.0
        lawful here,
  )
  stopped_shown (found ∷ founds) (step ∷ steps) planned copied made new are can lies lawful (inr later) =
      let next = made ++ dones (calls_with plan found step) in
      let more = goes_on plan founds steps planned copied next new later.1 in
      let lawful_next : IsLawful (history_of first next) = lawful_front first next more.0
      (subst (λ (l : List Made). IsLawful (history_of first l)) more.1 lawful) in
      let long = length_after plan found step first made next refl lawful_next in
      let r = stopped_shown founds steps planned copied next new are.1 (All-tail (CanMake outside.paths) step steps can)
      (subst (λ (n : ℕ). AllLieIn plan n steps) (sym long) lies.1) lawful later.1 in
      (suc r.0, r.1, let below = r.2 in omega arith, r.3, r.4)
