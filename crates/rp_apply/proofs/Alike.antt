-- Whatever sources and data rows hold, the calls of steps write as many bytes at the same places.
use Rattle.std.proofs.Common.{◌≡◌, ℕ, zero, suc, ◌+◌, ◌*◌, List, [], ◌∷◌, ◌++◌, length, map, replicate, refl, sym, ap, ◌∙◌, subst, arith, All}
use Rattle.std.specs.List.{range_with_len}
use Rattle.std.specs.Prelude.{slice_index_or}
use Rattle.std.proofs.lemmas.List.FromFn.{length-map-range_with_len}
use Rattle.std.proofs.lemmas.List.Elements.{All-head, All-tail}
use Rattle.rp_base.specs.Image.{bytes_at}
use Rattle.rp_base.specs.Trees.{levels}
use Rattle.rp_base.specs.declared.plan.Plan.{Plan}
use Rattle.rp_disk.specs.Calls.{resized}
use Rattle.rp_disk.specs.Made.{Made, dones}
use Rattle.rp_disk.specs.declared.call.Call.{Call}
use Rattle.rp_disk.specs.declared.call.Call.TheVariants.{Write, Sync as SyncCall, SetLen}
use Rattle.rp_disk.proofs.Agreeing.{length-resized}
use Rattle.rp_format.proofs.Places.{length-tree, tree_blocks}
use Rattle.rp_step.specs.Found.{AreFound, Found, IsFound, Outside, all_calls, calls_with}
use Rattle.rp_steps.specs.Calls.{calls_of, calls_of_steps, in_pieces, tree_writes}
use Rattle.rp_steps.specs.Contents.{payload_at, tree_over}
use Rattle.rp_steps.specs.Writes.{piece, pieces}
use Rattle.rp_steps.specs.declared.step.Step.{Step}
use Rattle.rp_steps.specs.declared.step.Step.TheVariants.{Grow, Zero, Copy, Tree, ClosePrimary, ArrayPrimary, HeaderPrimary, CloseBackup, ArrayBackup, HeaderBackup, Mbr, Sync}
use Rattle.rp_steps.proofs.Pieces.{length-cut}
use Rattle.rp_steps.proofs.Trees.{IsBlock}
use Rattle.rp_verity.specs.Filled.{cut}
use Rattle.rp_verity.specs.Order.{blocks_over, order}
use Rattle.rp_verity.specs.Puts.{placed}
use Rattle.rp_verity.specs.Superblock.{superblock}
use Rattle.rp_verity.specs.Tree.{stored_tree}
use Rattle.rp_apply.specs.Called.{AreAlike, IsAlike, no_sources}

alike_one : (call : Call) → IsAlike call call
alike_one (Write at bytes) = (refl, refl)
alike_one SyncCall = tt
alike_one (SetLen len) = refl

pub alike_same : (calls : List Call) → AreAlike calls calls
alike_same [] = tt
alike_same (call ∷ calls) = (alike_one call, alike_same calls)

pub alike_both : (a b c d : List Call) → AreAlike a b → AreAlike c d → AreAlike (a ++ c) (b ++ d)
alike_both [] [] c d x y = y
alike_both [] (other ∷ others) c d x y = absurd x
alike_both (call ∷ calls) [] c d x y = absurd x
alike_both (call ∷ calls) (other ∷ others) c d x y = (x.0, alike_both calls others c d x.1 y)

alike_each : (f g : ℕ → Call) (ks : List ℕ) → ((k : ℕ) → IsAlike (f k) (g k)) → AreAlike (map f ks) (map g ks)
alike_each f g [] each = tt
alike_each f g (k ∷ ks) each = (each k, alike_each f g ks each)

-- as many bytes in pieces
pub alike_pieces : (at : ℕ) (a b : List ℕ) → length a ≡ length b → AreAlike (in_pieces at a) (in_pieces at b)
unfolding in_pieces
alike_pieces at a b same =
    let f = λ (k : ℕ). Write (at + piece * k) (bytes_at a (piece * k) piece) in
    let g = λ (k : ℕ). Write (at + piece * k) (bytes_at b (piece * k) piece) in
    subst (λ (n : ℕ). AreAlike (map f (range_with_len 0 (pieces (length a)))) (map g (range_with_len 0 (pieces n)))) same
    (alike_each f g (range_with_len 0 (pieces (length a))) (λ k. (
      refl,
      let x = length-cut a (piece * k) piece in let y = length-cut b (piece * k) piece in omega (arith, x, y, same),
    )))

-- as many blocks at the same places
blocks_alike : (at : ℕ) (a b : List (List ℕ)) (places : List ℕ) → ((k : ℕ) → length (slice_index_or a k []) ≡ length (slice_index_or b k []))
    → AreAlike (map (λ put. Write (at + 4096 * (1 + put.0)) put.1) (placed a places)) (map (λ put. Write (at + 4096 * (1 + put.0)) put.1) (placed b places))
blocks_alike at a b [] same = tt
blocks_alike at a b (place ∷ places) same = ((refl, same place), blocks_alike at a b places same)

blocks_as_long : (a b : List (List ℕ)) → length a ≡ length b → All IsBlock a → All IsBlock b → (k : ℕ)
    → length (slice_index_or a k []) ≡ length (slice_index_or b k [])
blocks_as_long [] [] same xs ys k = refl
blocks_as_long [] (y ∷ b) same xs ys k = absurd (omega (arith, same))
blocks_as_long (x ∷ a) [] same xs ys k = absurd (omega (arith, same))
blocks_as_long (x ∷ a) (y ∷ b) same xs ys zero = All-head IsBlock x a xs ∙ sym (All-head IsBlock y b ys)
blocks_as_long (x ∷ a) (y ∷ b) same xs ys (suc k) =
    blocks_as_long a b (omega (arith, same)) (All-tail IsBlock x a xs) (All-tail IsBlock y b ys) k

-- trees over as many data blocks
tree_alike : (at blocks : ℕ) (salt : List ℕ) (xs ys : List (List ℕ)) → length xs ≡ length ys
    → AreAlike (tree_writes at blocks (stored_tree salt xs)) (tree_writes at blocks (stored_tree salt ys))
unfolding tree_writes
tree_alike at blocks salt xs ys same =
    blocks_alike at (stored_tree salt xs) (stored_tree salt ys) (order blocks)
    (blocks_as_long (stored_tree salt xs) (stored_tree salt ys)
    (length-tree salt xs ∙ ap (λ (n : ℕ). blocks_over (levels n) n) same ∙ sym (length-tree salt ys)) (tree_blocks salt xs) (tree_blocks salt ys))

module _ (plan : Plan) (outside : Outside) where
  step_alike : (made : List Made) (found : Found) (step : Step) → IsFound outside made found step
      → AreAlike (calls_with plan found step) (calls_of plan no_sources step)
  unfolding calls_with calls_of tree_over
  step_alike made found (Copy file at len) is = alike_pieces at found.bytes (resized [] len) (is.size ∙ sym (length-resized [] len))
  step_alike made found (Tree data_at hash_at blocks salt uuid root) is =
      let under = cut blocks (payload_at plan no_sources data_at) in
      let count : length under ≡ blocks = length-map-range_with_len (λ k. bytes_at (payload_at plan no_sources data_at) (4096 * k) 4096) 0 blocks in
      alike_both (tree_writes hash_at blocks (stored_tree salt found.blocks)) (tree_writes hash_at blocks (stored_tree salt under))
      (Write hash_at (superblock uuid blocks salt) ∷ []) (Write hash_at (superblock uuid blocks salt) ∷ [])
      (tree_alike hash_at blocks salt found.blocks under (is.0.count ∙ sym count)) (alike_same (Write hash_at (superblock uuid blocks salt) ∷ []))
  step_alike made found (Grow len) is = alike_same (SetLen len ∷ [])
  step_alike made found (Zero at len) is = alike_same (in_pieces at (replicate len 0))
  step_alike made found ClosePrimary is = alike_same (calls_of plan no_sources ClosePrimary)
  step_alike made found ArrayPrimary is = alike_same (calls_of plan no_sources ArrayPrimary)
  step_alike made found HeaderPrimary is = alike_same (calls_of plan no_sources HeaderPrimary)
  step_alike made found CloseBackup is = alike_same (calls_of plan no_sources CloseBackup)
  step_alike made found ArrayBackup is = alike_same (calls_of plan no_sources ArrayBackup)
  step_alike made found HeaderBackup is = alike_same (calls_of plan no_sources HeaderBackup)
  step_alike made found Mbr is = alike_same (calls_of plan no_sources Mbr)
  step_alike made found Sync is = alike_same (calls_of plan no_sources Sync)

  -- whatever steps find
  pub steps_alike : (made : List Made) (founds : List Found) (steps : List Step) → AreFound plan outside made founds steps
      → AreAlike (all_calls plan founds steps) (calls_of_steps plan no_sources steps)
  steps_alike made [] [] are = tt
  steps_alike made [] (step ∷ steps) are = absurd are
  steps_alike made (found ∷ founds) [] are = absurd are
  steps_alike made (found ∷ founds) (step ∷ steps) are =
      alike_both (calls_with plan found step) (calls_of plan no_sources step) (all_calls plan founds steps) (calls_of_steps plan no_sources steps)
      (step_alike made found step are.0) (steps_alike (made ++ dones (calls_with plan found step)) founds steps are.1)
