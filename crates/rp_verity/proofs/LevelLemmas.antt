-- Levels over digests: how many blocks they have, and how they grow by one digest.
use Rattle.std.proofs.Common.{◌≡◌, ◌≢◌, ℕ, zero, suc, ◌+◌, ◌-◌, ◌*◌, ◌/◌, ◌%◌, ◌<◌, ◌≤◌, List, [], ◌∷◌, ◌++◌, length, map, drop, refl, sym, ◌∙◌, ap, arith, length-append, length-drop}
use Rattle.std.proofs.lemmas.List.{take_all, drop_all, take-append-le, drop-append-le}
use Rattle.std.proofs.lemmas.List.FromFn.{length-map-range_with_len, map-range_with_len_more}
use Rattle.std.specs.List.{range_with_len}
use Rattle.rp_verity.specs.Tree.{hash_block, level, run, runs}
use Rattle.rp_verity.specs.Room.{full_level, last_run, pending}

-- two functions that agree below an end make the same list
pub same_range : {X : Type 0} (f g : ℕ → X) (a n : ℕ) → ((k : ℕ) → k < a + n → f k ≡ g k)
    → map f (range_with_len a n) ≡ map g (range_with_len a n)
same_range f g a zero same = refl
same_range f g a (suc n) same =
    let here : f a ≡ g a = same a (omega arith) in
    let rest : map f (range_with_len (a + 1) n) ≡ map g (range_with_len (a + 1) n) =
    same_range f g (a + 1) n (λ k below. same k (omega arith)) in
    rw (here, rest) refl

pub length-level : (digests : List (List ℕ)) → length (level digests) ≡ runs (length digests)
unfolding level
length-level digests = length-map-range_with_len _ 0 (runs (length digests))

pub length-full_level : (digests : List (List ℕ)) → length (full_level digests) ≡ length digests / 128
unfolding full_level
length-full_level digests = length-map-range_with_len _ 0 (length digests / 128)

-- a full run isn't changed by what follows
pub run-append : (xs ys : List (List ℕ)) (k : ℕ) → 128 * k + 128 ≤ length xs → run (xs ++ ys) k ≡ run xs k
run-append xs ys k full =
    let long : 128 ≤ length (drop (128 * k) xs) = omega (arith, length-drop (128 * k) xs) in
    rw (drop-append-le (128 * k) xs ys (omega arith), take-append-le 128 (drop (128 * k) xs) ys long) refl

-- the full runs' blocks of a list are the first ones of a longer list's level
pub full-append : (xs ys : List (List ℕ)) (n : ℕ) → n ≤ length xs / 128
    → map (λ k. hash_block (run (xs ++ ys) k)) (range_with_len 0 n) ≡ map (λ k. hash_block (run xs k)) (range_with_len 0 n)
full-append xs ys n few =
    same_range _ _ 0 n (λ k below. ap hash_block (run-append xs ys k (omega arith)))

-- one digest more: the run that wasn't full has it
pub level-push : (digests : List (List ℕ)) (new : List ℕ)
    → level (digests ++ new ∷ []) ≡ full_level digests ++ hash_block (pending digests ++ new ∷ []) ∷ []
unfolding level full_level pending
level-push digests new =
    let q : ℕ = length digests / 128 in
    let longer : length (digests ++ new ∷ []) ≡ length digests + 1 = length-append digests (new ∷ []) in
    let count : runs (length (digests ++ new ∷ [])) ≡ q + 1 = omega arith in
    let tail : drop (128 * q) (digests ++ new ∷ []) ≡ drop (128 * q) digests ++ new ∷ [] =
    drop-append-le (128 * q) digests (new ∷ []) (omega arith) in
    let short : length (drop (128 * q) digests ++ new ∷ []) ≤ 128 =
    omega (arith, length-append (drop (128 * q) digests) (new ∷ []), length-drop (128 * q) digests) in
    let last : run (digests ++ new ∷ []) q ≡ drop (128 * q) digests ++ new ∷ [] = rw tail (take_all 128 _ short) in
    rw (
      count,
      map-range_with_len_more (λ k. hash_block (run (digests ++ new ∷ []) k)) 0 q q (omega arith),
      full-append digests (new ∷ []) q (omega arith),
      last,
    ) refl

-- a level whose last run is full
pub level-full : (digests : List (List ℕ)) → length digests % 128 ≡ 0 → level digests ≡ full_level digests
unfolding level full_level
level-full digests full =
    let count : runs (length digests) ≡ length digests / 128 = omega arith in
    rw count refl

-- a level whose last run isn't full
pub level-rest : (digests : List (List ℕ)) → length digests % 128 ≢ 0
    → level digests ≡ full_level digests ++ hash_block (pending digests) ∷ []
unfolding level full_level pending
level-rest digests rest =
    let q : ℕ = length digests / 128 in
    let count : runs (length digests) ≡ q + 1 = omega arith in
    let short : length (drop (128 * q) digests) ≤ 128 = omega (arith, length-drop (128 * q) digests) in
    let last : run digests q ≡ drop (128 * q) digests = take_all 128 _ short in
    rw (count, map-range_with_len_more (λ k. hash_block (run digests k)) 0 q q (omega arith), last) refl

-- one digest more, and the run isn't full yet
pub full_level-short : (digests : List (List ℕ)) (new : List ℕ) → length digests % 128 < 127
    → full_level (digests ++ new ∷ []) ≡ full_level digests
unfolding full_level
full_level-short digests new short =
    let q : ℕ = length digests / 128 in
    let longer : length (digests ++ new ∷ []) ≡ length digests + 1 = length-append digests (new ∷ []) in
    let count : length (digests ++ new ∷ []) / 128 ≡ q = omega arith in
    rw count (full-append digests (new ∷ []) q (omega arith))

pub pending-short : (digests : List (List ℕ)) (new : List ℕ) → length digests % 128 < 127
    → pending (digests ++ new ∷ []) ≡ pending digests ++ new ∷ []
unfolding pending
pending-short digests new short =
    let longer : length (digests ++ new ∷ []) ≡ length digests + 1 = length-append digests (new ∷ []) in
    let count : length (digests ++ new ∷ []) / 128 ≡ length digests / 128 = omega arith in
    rw count (drop-append-le (128 * (length digests / 128)) digests (new ∷ []) (omega arith))

-- one digest more, and the run is full
pub full_level-full : (digests : List (List ℕ)) (new : List ℕ) → length digests % 128 ≡ 127
    → full_level (digests ++ new ∷ []) ≡ full_level digests ++ hash_block (pending digests ++ new ∷ []) ∷ []
full_level-full digests new full =
    let longer : length (digests ++ new ∷ []) ≡ length digests + 1 = length-append digests (new ∷ []) in
    sym (level-full (digests ++ new ∷ []) (omega arith)) ∙ level-push digests new

pub pending-full : (digests : List (List ℕ)) → length digests % 128 ≡ 0 → pending digests ≡ []
unfolding pending
pending-full digests full = drop_all (128 * (length digests / 128)) digests (omega arith)

-- the last run is the one that was not full, with the new digest
pub last_run-push : (digests : List (List ℕ)) (new : List ℕ) → last_run (digests ++ new ∷ []) ≡ pending digests ++ new ∷ []
unfolding last_run pending
last_run-push digests new =
    let longer : length (digests ++ new ∷ []) ≡ length digests + 1 = length-append digests (new ∷ []) in
    let count : (length (digests ++ new ∷ []) - 1) / 128 ≡ length digests / 128 = omega arith in
    rw count (drop-append-le (128 * (length digests / 128)) digests (new ∷ []) (omega arith))

-- or the one that is not full
pub last_run-rest : (digests : List (List ℕ)) → length digests % 128 ≢ 0 → last_run digests ≡ pending digests
unfolding last_run pending
last_run-rest digests rest =
    let count : (length digests - 1) / 128 ≡ length digests / 128 = omega arith in
    rw count refl

pub length-pending : (digests : List (List ℕ)) → length (pending digests) ≡ length digests % 128
unfolding pending
length-pending digests = omega (arith, length-drop (128 * (length digests / 128)) digests)
