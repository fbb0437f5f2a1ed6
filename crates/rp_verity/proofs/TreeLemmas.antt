-- What the builder puts are blocks of the stored tree, whatever data blocks come still.
use Rattle.std.proofs.Common.{◌≡◌, ℕ, zero, suc, ◌+◌, ◌-◌, ◌*◌, ◌/◌, ◌%◌, ◌<◌, ◌≤◌, inl, inr, List, [], ◌∷◌, ◌++◌, length, map, take, drop, get_or, refl, sym, ◌∙◌, ap, arith, length-append, length-drop}
use Rattle.std.specs.Prelude.{All}
use Rattle.std.proofs.lemmas.Bool.Decides.{eqb_tells}
use Rattle.std.proofs.lemmas.List.{take_all, take-append-drop, get_or_append_left, get_or-append_right, length-map, take-map}
use Rattle.std.proofs.lemmas.List.Elements.{All-cons, All-head, All-nil, All-tail, All-weaker}
use Rattle.std.proofs.lemmas.List.FromFn.{get_or-map-range_with_len, take-map-range_with_len}
use Rattle.rp_verity.specs.Tree.{digest, hash_block, level, raised, run, runs, stored}
use Rattle.rp_verity.specs.Order.{blocks_over, full_with, last_blocks, left_over, place_of}
use Rattle.rp_verity.specs.Puts.{placed}
use Rattle.rp_verity.specs.Room.{full_level, full_puts, full_raised, last_puts, last_run, rest_puts}
use Rattle.rp_verity.proofs.LevelLemmas.{full-append, length-full_level, length-level, level-full, run-append}
use Rattle.rp_verity.proofs.ShapeLemmas.{length-stored}

-- places of the first blocks don't depend on what stands behind them
pub placed-front : (xs ys : List (List ℕ)) (places : List ℕ) → All (λ place. place < length xs) places → placed (xs ++ ys) places ≡ placed xs places
placed-front xs ys [] inside = refl
placed-front xs ys (place ∷ places) inside =
    let here : place < length xs = All-head (λ p. p < length xs) place places inside in
    rw (get_or_append_left xs ys [] place here, placed-front xs ys places (All-tail (λ p. p < length xs) place places inside)) refl

-- the places are those of blocks of the tree
pub full_with-inside : (n digests reached : ℕ) → 1 ≤ reached → reached ≤ digests → All (λ place. place < blocks_over n digests) (full_with n digests reached)
unfolding full_with blocks_over
full_with-inside zero digests reached some few = All-nil (λ place. place < 0)
full_with-inside (suc n) digests reached some few =
    let below_all : (place : ℕ) → place < blocks_over n (runs digests) → place < blocks_over n (runs digests) + runs digests = λ place below. omega arith in
    elim (eqb_tells (reached % 128) 0) [
      | inl w ↦ rw w.0
          (All-cons (λ place. place < blocks_over n (runs digests) + runs digests) (place_of n digests reached) (full_with n (runs digests) (runs reached)) (omega arith)
          (All-weaker (λ place. place < blocks_over n (runs digests)) (λ place. place < blocks_over n (runs digests) + runs digests)
          below_all (full_with n (runs digests) (runs reached)) (full_with-inside n (runs digests) (runs reached) (omega arith) (omega arith))))
      | inr w ↦ rw w.0 (All-nil (λ place. place < blocks_over n (runs digests) + runs digests))
    ]

pub last_blocks-inside : (n digests : ℕ) → 1 ≤ digests → All (λ place. place < blocks_over n digests) (last_blocks n digests)
unfolding last_blocks blocks_over
last_blocks-inside zero digests some = All-nil (λ place. place < 0)
last_blocks-inside (suc n) digests some =
    let rest : All (λ place. place < blocks_over n (runs digests)) (last_blocks n (runs digests)) = last_blocks-inside n (runs digests) (omega arith) in
    All-cons (λ place. place < blocks_over n (runs digests) + runs digests) (place_of n digests digests) (last_blocks n (runs digests)) (omega arith)
    (All-weaker (λ place. place < blocks_over n (runs digests)) (λ place. place < blocks_over n (runs digests) + runs digests)
    (λ place below. omega arith) (last_blocks n (runs digests)) rest)

pub left_over-inside : (n digests : ℕ) → 1 ≤ digests → All (λ place. place < blocks_over n digests) (left_over n digests)
unfolding left_over blocks_over
left_over-inside zero digests some = All-nil (λ place. place < 0)
left_over-inside (suc n) digests some =
    let below_all : (place : ℕ) → place < blocks_over n (runs digests) → place < blocks_over n (runs digests) + runs digests = λ place below. omega arith in
    elim (eqb_tells (digests % 128) 0) [
      | inl w ↦ rw w.0
          (All-weaker (λ place. place < blocks_over n (runs digests)) (λ place. place < blocks_over n (runs digests) + runs digests)
          below_all (left_over n (runs digests)) (left_over-inside n (runs digests) (omega arith)))
      | inr w ↦ rw w.0 (last_blocks-inside (suc n) digests some)
    ]

-- the block of a run in a level
pub get_or-level : (digests : List (List ℕ)) (k : ℕ) → k < runs (length digests) → get_or (level digests) k [] ≡ hash_block (run digests k)
unfolding level
get_or-level digests k below = get_or-map-range_with_len _ 0 (runs (length digests)) k k [] below (omega arith)

-- the block of a run in the lowest of so many levels
pub get_or-stored : (salt : List ℕ) (n : ℕ) (digests : List (List ℕ)) (k : ℕ) → k < runs (length digests)
    → get_or (stored salt (suc n) digests) (blocks_over n (runs (length digests)) + k) [] ≡ hash_block (run digests k)
unfolding stored
get_or-stored salt n digests k below =
    let up : length (raised salt digests) ≡ runs (length digests) = length-map (level digests) (digest salt) ∙ length-level digests in
    let front : length (stored salt n (raised salt digests)) ≡ blocks_over n (runs (length digests)) =
    length-stored salt n (raised salt digests) ∙ ap (blocks_over n) up in
    let place : blocks_over n (runs (length digests)) + k - blocks_over n (runs (length digests)) ≡ k = omega arith in
    get_or-append_right (stored salt n (raised salt digests)) (level digests) (blocks_over n (runs (length digests)))
    (blocks_over n (runs (length digests)) + k) [] front (omega arith)
    ∙ rw place (get_or-level digests k below)

-- the last run of digests, as a run
pub last_run-is : (digests : List (List ℕ)) → 1 ≤ length digests → last_run digests ≡ run digests (runs (length digests) - 1)
unfolding last_run
last_run-is digests some =
    let count : runs (length digests) - 1 ≡ (length digests - 1) / 128 = omega arith in
    let short : length (drop (128 * ((length digests - 1) / 128)) digests) ≤ 128 =
    omega (arith, length-drop (128 * ((length digests - 1) / 128)) digests) in
    rw count (sym (take_all 128 _ short))

-- the digests of the full runs are the first ones of the level above
pub raised-front : (salt : List ℕ) (digests rest : List (List ℕ))
    → raised salt (digests ++ rest) ≡ full_raised salt digests ++ drop (length digests / 128) (raised salt (digests ++ rest))
unfolding level full_level
raised-front salt digests rest =
    let q : ℕ = length digests / 128 in
    let longer : length (digests ++ rest) ≡ length digests + length rest = length-append digests rest in
    let front : take q (level (digests ++ rest)) ≡ full_level digests =
    take-map-range_with_len (λ k. hash_block (run (digests ++ rest) k)) 0 (runs (length (digests ++ rest))) q (omega arith)
    ∙ full-append digests rest q (omega arith) in
    sym (take-append-drop q (raised salt (digests ++ rest)))
    ∙ ap (λ (x : List (List ℕ)). x ++ drop q (raised salt (digests ++ rest)))
    (take-map (digest salt) q (level (digests ++ rest)) ∙ ap (map (digest salt)) front)

-- the first so many blocks of the tree are those of the levels above the lowest
placed-above : (salt : List ℕ) (n : ℕ) (digests : List (List ℕ)) (places : List ℕ)
    → All (λ place. place < blocks_over n (runs (length digests))) places
    → placed (stored salt (suc n) digests) places ≡ placed (stored salt n (raised salt digests)) places
unfolding stored
placed-above salt n digests places inside =
    let up : length (raised salt digests) ≡ runs (length digests) = length-map (level digests) (digest salt) ∙ length-level digests in
    let front : blocks_over n (runs (length digests)) ≡ length (stored salt n (raised salt digests)) =
    sym (length-stored salt n (raised salt digests) ∙ ap (blocks_over n) up) in
    placed-front (stored salt n (raised salt digests)) (level digests) places (rw front at inside)

-- what is put at the end, of a level whose last block is put
pub last_puts-placed : (salt : List ℕ) (n : ℕ) (digests : List (List ℕ)) → 1 ≤ length digests
    → last_puts salt n digests ≡ placed (stored salt n digests) (last_blocks n (length digests))
unfolding last_puts last_blocks
last_puts-placed salt zero digests some = refl
last_puts-placed salt (suc n) digests some =
    let total : ℕ = length digests in
    let up : length (raised salt digests) ≡ runs total = length-map (level digests) (digest salt) ∙ length-level digests in
    let place : place_of n total total ≡ blocks_over n (runs total) + (runs total - 1) = omega arith in
    let block : get_or (stored salt (suc n) digests) (place_of n total total) [] ≡ hash_block (last_run digests) =
    rw (place, last_run-is digests some) (get_or-stored salt n digests (runs total - 1) (omega arith)) in
    let above : last_puts salt n (raised salt digests) ≡ placed (stored salt (suc n) digests) (last_blocks n (runs total)) =
    last_puts-placed salt n (raised salt digests) (omega arith)
    ∙ ap (λ (k : ℕ). placed (stored salt n (raised salt digests)) (last_blocks n k)) up
    ∙ sym (placed-above salt n digests (last_blocks n (runs total)) (last_blocks-inside n (runs total) (omega arith))) in
    rw (block, above) refl

-- what is put at the end
pub rest_puts-placed : (salt : List ℕ) (n : ℕ) (digests : List (List ℕ)) → 1 ≤ length digests
    → rest_puts salt n digests ≡ placed (stored salt n digests) (left_over n (length digests))
unfolding rest_puts left_over
rest_puts-placed salt zero digests some = refl
rest_puts-placed salt (suc n) digests some =
    let total : ℕ = length digests in
    let up : length (raised salt digests) ≡ runs total = length-map (level digests) (digest salt) ∙ length-level digests in
    elim (eqb_tells (total % 128) 0) [
      | inl w ↦
          let full : raised salt digests ≡ full_raised salt digests = ap (map (digest salt)) (level-full digests w.1) in
          rw (w.0, ← full)
          (rest_puts-placed salt n (raised salt digests) (omega arith)
          ∙ ap (λ (k : ℕ). placed (stored salt n (raised salt digests)) (left_over n k)) up
          ∙ sym (placed-above salt n digests (left_over n (runs total)) (left_over-inside n (runs total) (omega arith))))
      | inr w ↦ rw w.0 (last_puts-placed salt (suc n) digests some)
    ]

-- what is put with a digest, whatever digests come still
pub full_puts-placed : (salt : List ℕ) (n : ℕ) (digests rest : List (List ℕ)) → 1 ≤ length digests
    → full_puts salt n (length (digests ++ rest)) digests
    ≡ placed (stored salt n (digests ++ rest)) (full_with n (length (digests ++ rest)) (length digests))
unfolding full_puts full_with
full_puts-placed salt zero digests rest some = refl
full_puts-placed salt (suc n) digests rest some =
    let all : List (List ℕ) = digests ++ rest in
    let total : ℕ = length all in
    let q : ℕ = length digests / 128 in
    let longer : total ≡ length digests + length rest = length-append digests rest in
    let up : length (raised salt all) ≡ runs total = length-map (level all) (digest salt) ∙ length-level all in
    let reached : length (full_raised salt digests) ≡ q = length-map (full_level digests) (digest salt) ∙ length-full_level digests in
    let split : raised salt all ≡ full_raised salt digests ++ drop q (raised salt all) = raised-front salt digests rest in
    elim (eqb_tells (length digests % 128) 0) [
      | inl w ↦
          let full : length digests % 128 ≡ 0 = w.1 in
          let count : runs (length digests) ≡ q = omega arith in
          let place : place_of n total (length digests) ≡ blocks_over n (runs total) + (q - 1) = omega arith in
          let last : last_run digests ≡ run digests (q - 1) = rw (← count) (last_run-is digests some) in
          let same : run all (q - 1) ≡ run digests (q - 1) = run-append digests rest (q - 1) (omega arith) in
          let block : get_or (stored salt (suc n) all) (place_of n total (length digests)) [] ≡ hash_block (last_run digests) =
          rw (place, last, ← same) (get_or-stored salt n all (q - 1) (omega arith)) in
          let inner : full_puts salt n (runs total) (full_raised salt digests)
          ≡ placed (stored salt n (raised salt all)) (full_with n (runs total) q) =
          rw (← split, up, reached) at (full_puts-placed salt n (full_raised salt digests) (drop q (raised salt all)) (omega arith)) in
          let above : full_puts salt n (runs total) (full_raised salt digests) ≡ placed (stored salt (suc n) all) (full_with n (runs total) (runs (length digests))) =
          rw count
          (inner ∙ sym (placed-above salt n all (full_with n (runs total) q) (full_with-inside n (runs total) q (omega arith) (omega arith)))) in
          rw (w.0, block, above) refl
      | inr w ↦ rw w.0 refl
    ]
