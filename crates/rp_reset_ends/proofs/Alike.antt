-- The calls of a plan's steps, whatever sources hold, are calls for it.
use Rattle.std.proofs.Common.{◌≡◌, ◌∙◌, ℕ, zero, suc, ◌+◌, ◌*◌, Bool, true, false, cond, List, [], ◌∷◌, ◌++◌, length, map, replicate, refl, sym, ap, All, arith}
use Rattle.std.specs.Prelude.{slice_index_or}
use Rattle.std.proofs.lemmas.List.Elements.{All-head, All-tail}
use Rattle.std.proofs.lemmas.List.FromFn.{length-map-range_with_len}
use Rattle.rp_apply.specs.Called.{AreAlike, AreCallsFor, no_sources}
use Rattle.rp_apply.proofs.Alike.{alike_both, alike_pieces, alike_same}
use Rattle.rp_base.specs.Image.{bytes_at}
use Rattle.rp_base.specs.Trees.{levels}
use Rattle.rp_base.specs.declared.plan.Plan.{Plan}
use Rattle.rp_base.specs.declared.seen.Seen.{Seen}
use Rattle.rp_disk.specs.Blocks.{flat}
use Rattle.rp_disk.specs.Calls.{resized}
use Rattle.rp_disk.specs.declared.call.Call.{Call}
use Rattle.rp_disk.specs.declared.call.Call.TheVariants.{Write, SetLen}
use Rattle.rp_disk.proofs.Agreeing.{length-resized}
use Rattle.rp_format.proofs.Places.{length-tree, tree_blocks}
use Rattle.rp_steps.specs.Calls.{calls, calls_of, calls_of_steps, contents_calls, in_pieces, tree_writes}
use Rattle.rp_steps.specs.Contents.{Sources, payload_at, tree_over}
use Rattle.rp_steps.specs.Steps.{contents_steps, mbr_phases, writes_mbr, written_copies}
use Rattle.rp_steps.specs.declared.step.Step.{Step}
use Rattle.rp_steps.specs.declared.step.Step.TheVariants.{Grow, Zero, Copy, Tree, ClosePrimary, ArrayPrimary, HeaderPrimary, CloseBackup, ArrayBackup, HeaderBackup, Mbr, Sync}
use Rattle.rp_steps.proofs.Made.{calls-flat}
use Rattle.rp_steps.proofs.Trees.{IsBlock}
use Rattle.rp_stops.specs.Order.{contents_blocks, copies, growth}
use Rattle.rp_verity.specs.Filled.{cut}
use Rattle.rp_verity.specs.Order.{blocks_over, order}
use Rattle.rp_verity.specs.Puts.{placed}
use Rattle.rp_verity.specs.Superblock.{superblock}
use Rattle.rp_verity.specs.Tree.{stored_tree}

-- as many blocks at the same places
blocks_alike : (at : ℕ) (a b : List (List ℕ)) (places : List ℕ)
    → ((k : ℕ) → length (slice_index_or a k []) ≡ length (slice_index_or b k []))
    → AreAlike (map (λ put. Write (at + 4096 * (1 + put.0)) put.1) (placed a places))
    (map (λ put. Write (at + 4096 * (1 + put.0)) put.1) (placed b places))
blocks_alike at a b [] same = tt
blocks_alike at a b (place ∷ places) same = ((refl, same place), blocks_alike at a b places same)

blocks_as_long : (a b : List (List ℕ)) → length a ≡ length b → All IsBlock a → All IsBlock b → (k : ℕ)
    → length (slice_index_or a k []) ≡ length (slice_index_or b k [])
blocks_as_long [] [] same xs ys k = refl
blocks_as_long [] (y ∷ b) same xs ys k = absurd (omega (arith, same))
blocks_as_long (x ∷ a) [] same xs ys k = absurd (omega (arith, same))
blocks_as_long (x ∷ a) (y ∷ b) same xs ys zero = All-head IsBlock x a xs ∙ sym (All-head IsBlock y b ys)
blocks_as_long (x ∷ a) (y ∷ b) same xs ys (suc k) =
    blocks_as_long a b (omega (arith, same)) (All-tail IsBlock x a xs) (All-tail IsBlock y b ys) k

-- trees over as many data blocks
tree_alike : (at blocks : ℕ) (salt : List ℕ) (xs ys : List (List ℕ)) → length xs ≡ length ys
    → AreAlike (tree_writes at blocks (stored_tree salt xs)) (tree_writes at blocks (stored_tree salt ys))
unfolding tree_writes
tree_alike at blocks salt xs ys same =
    blocks_alike at (stored_tree salt xs) (stored_tree salt ys) (order blocks)
    (blocks_as_long (stored_tree salt xs) (stored_tree salt ys)
    (length-tree salt xs ∙ ap (λ (n : ℕ). blocks_over (levels n) n) same ∙ sym (length-tree salt ys)) (tree_blocks salt xs)
    (tree_blocks salt ys))

module _ (plan : Plan) (sources : Sources) where
  step_alike : (step : Step) → AreAlike (calls_of plan sources step) (calls_of plan no_sources step)
  unfolding calls_of tree_over
  step_alike (Copy file at len) =
      alike_pieces at (resized (sources file) len) (resized [] len) (length-resized (sources file) len ∙ sym (length-resized [] len))
  step_alike (Tree data_at hash_at blocks salt uuid root) =
      let data_of = λ (from : Sources). payload_at plan from data_at in
      let count = λ (from : Sources).
      length-map-range_with_len (λ k. bytes_at (payload_at plan from data_at) (4096 * k) 4096) 0 blocks in
      alike_both (tree_writes hash_at blocks (stored_tree salt (cut blocks (data_of sources))))
      (tree_writes hash_at blocks (stored_tree salt (cut blocks (data_of no_sources))))
      (Write hash_at (superblock uuid blocks salt) ∷ []) (Write hash_at (superblock uuid blocks salt) ∷ [])
      (tree_alike hash_at blocks salt (cut blocks (data_of sources)) (cut blocks (data_of no_sources))
      (count sources ∙ sym (count no_sources)))
      (alike_same (Write hash_at (superblock uuid blocks salt) ∷ []))
  step_alike (Grow len) = alike_same (SetLen len ∷ [])
  step_alike (Zero at len) = alike_same (in_pieces at (replicate len 0))
  step_alike ClosePrimary = alike_same (calls_of plan no_sources ClosePrimary)
  step_alike ArrayPrimary = alike_same (calls_of plan no_sources ArrayPrimary)
  step_alike HeaderPrimary = alike_same (calls_of plan no_sources HeaderPrimary)
  step_alike CloseBackup = alike_same (calls_of plan no_sources CloseBackup)
  step_alike ArrayBackup = alike_same (calls_of plan no_sources ArrayBackup)
  step_alike HeaderBackup = alike_same (calls_of plan no_sources HeaderBackup)
  step_alike Mbr = alike_same (calls_of plan no_sources Mbr)
  step_alike Sync = alike_same (calls_of plan no_sources Sync)

  -- sources change nothing of calls but the bytes of new rows
  steps_alike : (steps : List Step) → AreAlike (calls_of_steps plan sources steps) (calls_of_steps plan no_sources steps)
  steps_alike [] = tt
  steps_alike (step ∷ steps) =
      alike_both (calls_of plan sources step) (calls_of plan no_sources step) (calls_of_steps plan sources steps)
      (calls_of_steps plan no_sources steps) (step_alike step) (steps_alike steps)

  -- and nothing of the MBR
  mbr_same : (seen : Seen) → map (calls_of_steps plan sources) (mbr_phases plan seen)
      ≡ map (calls_of_steps plan no_sources) (mbr_phases plan seen)
  unfolding mbr_phases calls_of
  mbr_same seen = by (writes_mbr plan seen seen.mbr) where
    by : (b : Bool) → map (calls_of_steps plan sources) (cond b ((Mbr ∷ []) ∷ []) [])
        ≡ map (calls_of_steps plan no_sources) (cond b ((Mbr ∷ []) ∷ []) [])
    by true = refl
    by false = refl

  pub calls_are_for : (seen : Seen) → AreCallsFor seen plan (calls plan seen sources)
  calls_are_for seen = record {
    body = contents_calls plan sources;
    alike = steps_alike (contents_steps plan);
    are = calls-flat plan sources seen
        ∙ ap (λ (mbr : List (List Call)). flat (growth seen plan ++ (contents_blocks (contents_calls plan sources)
        ++ (copies plan (written_copies plan seen) ++ mbr)))) (mbr_same seen);
  }
