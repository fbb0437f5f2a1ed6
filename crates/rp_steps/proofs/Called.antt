-- The writes among a plan's calls are as many as its steps count as.
use Rattle.std.proofs.Common.{◌≡◌, ℕ, zero, suc, ◌+◌, ◌<◌, ◌≤◌, ◌≢◌, ◌⊎◌, inl, inr, cond, eqb, ltb, List, [], ◌∷◌, length, map, replicate, refl, sym, ap, ap₂, ◌∙◌, arith, All}
use Rattle.std.specs.Prelude.{count_by}
use Rattle.std.specs.List.{range_with_len}
use Rattle.std.proofs.lemmas.Bool.{cases_lt, eq-eqb, le-ltb, lt-ltb, ne_eqb}
use Rattle.std.proofs.lemmas.List.{length-map, length-replicate}
use Rattle.std.proofs.lemmas.List.Elements.{All-head, All-tail}
use Rattle.std.proofs.lemmas.List.FromFn.{length-range_with_len}
use Rattle.std.proofs.lemmas.List.Sums.{sum_by-append, sum_by-cons}
use Rattle.rp_base.specs.Plan.{IsWellFormed}
use Rattle.rp_base.specs.Trees.{hash_blocks, levels}
use Rattle.rp_base.specs.declared.plan.Plan.{Plan}
use Rattle.rp_base.specs.declared.seen.Seen.{Seen}
use Rattle.rp_disk.specs.Calls.{resized}
use Rattle.rp_disk.specs.declared.call.Call.{Call}
use Rattle.rp_disk.specs.declared.call.Call.TheVariants.{Write}
use Rattle.rp_disk.proofs.Agreeing.{length-resized}
use Rattle.rp_verity.specs.Order.{blocks_over, order}
use Rattle.rp_verity.specs.Puts.{placed}
use Rattle.rp_verity.specs.Superblock.{superblock}
use Rattle.rp_verity.proofs.OrderLemmas.{order-inside, put_once}
use Rattle.rp_verity.proofs.ShapeLemmas.{hash_blocks-over}
use Rattle.rp_steps.specs.Calls.{calls, calls_of, calls_of_steps, in_pieces, is_write, tree_writes}
use Rattle.rp_steps.specs.Contents.{Sources, tree_over}
use Rattle.rp_steps.specs.Steps.{steps}
use Rattle.rp_steps.specs.Writes.{HasBlocks, pieces, writes, writes_in}
use Rattle.rp_steps.specs.declared.step.Step.{Step}
use Rattle.rp_steps.specs.declared.step.Step.TheVariants.{Grow, Zero, Copy, Tree, ClosePrimary, ArrayPrimary, HeaderPrimary, CloseBackup, ArrayBackup, HeaderBackup, Mbr, Sync}
use Rattle.rp_steps.proofs.Counted.{countable}

-- how many numbers of a list are below another
abbrev below : ℕ → List ℕ → ℕ
below n xs = count_by (λ x. ltb x n) xs

is_below : (x n : ℕ) → x < n → cond {A = ℕ} (ltb x n) 1 0 ≡ 1
is_below x n less = rw (lt-ltb x n less) refl

not_below : (x n : ℕ) → n ≤ x → cond {A = ℕ} (ltb x n) 1 0 ≡ 0
not_below x n more = rw (le-ltb x n more) refl

is_same : (x n : ℕ) → x ≡ n → cond {A = ℕ} (eqb x n) 1 0 ≡ 1
is_same x n same = rw (eq-eqb x n same) refl

not_same : (x n : ℕ) → x ≢ n → cond {A = ℕ} (eqb x n) 1 0 ≡ 0
not_same x n other = rw (ne_eqb x n other) refl

one_more : (n x : ℕ) → cond (ltb x (suc n)) 1 0 ≡ cond (ltb x n) 1 0 + cond (eqb x n) 1 0
one_more n x = by (cases_lt x n) where
  past : (x < suc n) ⊎ (suc n ≤ x) → n ≤ x → cond (ltb x (suc n)) 1 0 ≡ cond (ltb x n) 1 0 + cond (eqb x n) 1 0
  past (inl less) from =
      let same : x ≡ n = omega arith in
      is_below x (suc n) less ∙ sym (ap₂ (λ (a b : ℕ). a + b) (not_below x n from) (is_same x n same))
  past (inr more) from =
      let other : x ≢ n = omega arith in
      not_below x (suc n) more ∙ sym (ap₂ (λ (a b : ℕ). a + b) (not_below x n from) (not_same x n other))

  by : (x < n) ⊎ (n ≤ x) → cond (ltb x (suc n)) 1 0 ≡ cond (ltb x n) 1 0 + cond (eqb x n) 1 0
  by (inl less) =
      let other : x ≢ n = omega arith in
      is_below x (suc n) (omega arith) ∙ sym (ap₂ (λ (a b : ℕ). a + b) (is_below x n less) (not_same x n other))
  by (inr more) = past (cases_lt x (suc n)) more

below_more : (n : ℕ) (xs : List ℕ) → below (suc n) xs ≡ below n xs + count_by (λ x. eqb x n) xs
below_more n [] = refl
below_more n (x ∷ xs) =
    omega (
      arith,
      below_more n xs,
      one_more n x,
      sum_by-cons (λ (y : ℕ). cond (ltb y (suc n)) 1 0) x xs,
      sum_by-cons (λ (y : ℕ). cond (ltb y n) 1 0) x xs,
      sum_by-cons (λ (y : ℕ). cond (eqb y n) 1 0) x xs,
    )

below_none : (xs : List ℕ) → below 0 xs ≡ 0
below_none [] = refl
below_none (x ∷ xs) =
    let here = not_below x 0 (omega arith) in
    omega (arith, below_none xs, here, sum_by-cons (λ (y : ℕ). cond (ltb y 0) 1 0) x xs)

-- each number below a bound once
below_once : (n : ℕ) (xs : List ℕ) → ((k : ℕ) → k < n → count_by (λ x. eqb x k) xs ≡ 1) → below n xs ≡ n
below_once zero xs once = below_none xs
below_once (suc n) xs once = omega (arith, below_more n xs, once n (omega arith), below_once n xs (λ k le. once k (omega arith)))

below_all : (n : ℕ) (xs : List ℕ) → All (λ x. x < n) xs → below n xs ≡ length xs
below_all n [] each = refl
below_all n (x ∷ xs) each =
    let here = is_below x n (All-head (λ y. y < n) x xs each) in
    omega (arith, here, below_all n xs (All-tail (λ y. y < n) x xs each), sum_by-cons (λ (y : ℕ). cond (ltb y n) 1 0) x xs)

-- the blocks of a tree and that of its superblock
length-order : (blocks : ℕ) → 1 ≤ blocks → length (order blocks) + 1 ≡ hash_blocks blocks
length-order blocks some =
    let n = blocks_over (levels blocks) blocks in
    let all : below n (order blocks) ≡ length (order blocks) = below_all n (order blocks) (order-inside (levels blocks) blocks some) in
    let once : below n (order blocks) ≡ n = below_once n (order blocks) (λ k le. put_once k (levels blocks) blocks some le) in
    omega (arith, all, once, hash_blocks-over blocks some)

-- a write for each element
writes-map : {X : Type 0} (at : X → ℕ) (bytes : X → List ℕ) (xs : List X)
    → count_by is_write (map (λ x. Write (at x) (bytes x)) xs) ≡ length xs
writes-map at bytes [] = refl
writes-map at bytes (x ∷ xs) =
    omega (
      arith,
      writes-map at bytes xs,
      sum_by-cons (λ (call : Call). cond (is_write call) 1 0) (Write (at x) (bytes x)) (map (λ y. Write (at y) (bytes y)) xs),
    )

writes-pieces : (at : ℕ) (bytes : List ℕ) → count_by is_write (in_pieces at bytes) ≡ pieces (length bytes)
unfolding in_pieces
writes-pieces at bytes = writes-map _ _ (range_with_len 0 (pieces (length bytes))) ∙ length-range_with_len 0 (pieces (length bytes))

writes-tree : (at blocks : ℕ) (tree : List (List ℕ)) → count_by is_write (tree_writes at blocks tree) ≡ length (order blocks)
unfolding tree_writes
writes-tree at blocks tree = writes-map _ _ (placed tree (order blocks)) ∙ length-map (order blocks) _

module _ (plan : Plan) (sources : Sources) where
  writes-step : (step : Step) → HasBlocks step → count_by is_write (calls_of plan sources step) ≡ writes_in step
  unfolding calls_of writes_in
  writes-step (Grow len) has = refl
  writes-step (Zero at len) has = writes-pieces at (replicate len 0) ∙ ap pieces (length-replicate {A = ℕ} len 0)
  writes-step (Copy file at len) has = writes-pieces at (resized (sources file) len) ∙ ap pieces (length-resized (sources file) len)
  writes-step (Tree data_at hash_at blocks salt uuid root) has =
      sum_by-append (λ (call : Call). cond (is_write call) 1 0) (tree_writes hash_at blocks (tree_over plan sources data_at blocks salt))
      (Write hash_at (superblock uuid blocks salt) ∷ [])
      ∙ ap (λ (n : ℕ). n + 1) (writes-tree hash_at blocks (tree_over plan sources data_at blocks salt))
      ∙ length-order blocks has.0
  writes-step ClosePrimary has = refl
  writes-step ArrayPrimary has = refl
  writes-step HeaderPrimary has = refl
  writes-step CloseBackup has = refl
  writes-step ArrayBackup has = refl
  writes-step HeaderBackup has = refl
  writes-step Mbr has = refl
  writes-step Sync has = refl

  writes-steps : (steps : List Step) → All HasBlocks steps → count_by is_write (calls_of_steps plan sources steps) ≡ writes steps
  writes-steps [] each = refl
  writes-steps (step ∷ steps) each =
      sum_by-append (λ (call : Call). cond (is_write call) 1 0) (calls_of plan sources step) (calls_of_steps plan sources steps)
      ∙ ap₂ (λ (a b : ℕ). a + b) (writes-step step (All-head HasBlocks step steps each))
      (writes-steps steps (All-tail HasBlocks step steps each))
      ∙ sym (sum_by-cons writes_in step steps)

  pub writes-calls : (seen : Seen) → IsWellFormed seen plan → count_by is_write (calls plan seen sources) ≡ writes (steps plan seen)
  writes-calls seen formed = writes-steps (steps plan seen) (countable seen plan formed).blocks
