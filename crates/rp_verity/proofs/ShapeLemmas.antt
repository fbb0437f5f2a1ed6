-- How many levels a tree has and how many blocks, counted a level at a time.
use Rattle.std.proofs.Common.{◌≡◌, ◌≢◌, ℕ, zero, suc, ◌+◌, ◌-◌, ◌/◌, ◌^◌, ◌<◌, ◌≤◌, ◌==◌, Bool, true, false, List, ◌∷◌, inl, inr, length, map, refl, sym, ◌∙◌, ap, arith, eq-eqb, length-append}
use Rattle.std.specs.Prelude.{find, sum, unwrap_or}
use Rattle.std.proofs.Math.Nat.{div-div-eq-div-mul, pow-suc, pow-succ', pow-zero, div-one}
use Rattle.std.proofs.lemmas.Bool.{ne_eqb}
use Rattle.std.proofs.lemmas.Bool.Decides.{eqb_tells}
use Rattle.std.proofs.lemmas.List.{length-map}
use Rattle.std.proofs.lemmas.List.Sums.{sum-map, sum_by-cons}
use Rattle.std.specs.List.{range_with_len}
use Rattle.rp_base.specs.Trees.{hash_blocks, level_blocks, levels}
use Rattle.rp_verity.specs.Tree.{digest, level, raised, runs, stored, tops}
use Rattle.rp_verity.specs.Order.{blocks_over}
use Rattle.rp_verity.proofs.LevelLemmas.{length-level}

-- one power more
pub div-pow-suc : (x k : ℕ) → x / 128 ^ (k + 1) ≡ x / 128 / 128 ^ k
div-pow-suc x k =
    let e : k + 1 ≡ suc k = omega arith in
    rw (e, pow-succ' 128 k) (sym (div-div-eq-div-mul x 128 (128 ^ k)))

pub div-pow-more : (x k : ℕ) → x / 128 ^ (k + 1) ≡ x / 128 ^ k / 128
div-pow-more x k =
    let e : k + 1 ≡ suc k = omega arith in
    rw (e, pow-suc 128 k) (sym (div-div-eq-div-mul x (128 ^ k) 128))

-- the first place of a range that passes a test, or its end
pub first_place : (p : ℕ → Bool) (a n l : ℕ) → a ≤ l → l ≤ a + n → ((k : ℕ) → a ≤ k → k < l → p k ≡ false)
    → (l < a + n → p l ≡ true) → unwrap_or (find p (range_with_len a n)) (a + n) ≡ l
first_place p a zero l low high before at = omega arith
first_place p a (suc n) l low high before at =
    let end : a + suc n ≡ a + 1 + n = omega arith in
    elim (eqb_tells a l) [
      | inl w ↦
          let yes : p a ≡ true = rw w.1 (at (omega arith)) in
          rw yes w.1
      | inr w ↦
          let not_same : a ≢ l = w.1 in
          let no : p a ≡ false = before a (omega arith) (omega arith) in
          rw (no, end) (first_place p (a + 1) n l (omega arith) (omega arith) (λ k low' below. before k (omega arith) below) (λ below. at (omega arith)))
    ]

-- the levels over so many data blocks, as their definition says
pub levels_is : (blocks l : ℕ) → l ≤ 5 → ((k : ℕ) → k < l → (blocks - 1) / 128 ^ k ≢ 0) → (l < 5 → (blocks - 1) / 128 ^ l ≡ 0)
    → levels blocks ≡ l
unfolding levels
levels_is blocks l few before at =
    first_place (λ k. (blocks - 1) / 128 ^ k == 0) 0 5 l (omega arith) (omega arith)
    (λ k low below. ne_eqb ((blocks - 1) / 128 ^ k) 0 (before k below)) (λ below. eq-eqb ((blocks - 1) / 128 ^ l) 0 (at (omega arith)))

-- how many blocks the levels have
pub length-stored : (salt : List ℕ) (n : ℕ) (digests : List (List ℕ)) → length (stored salt n digests) ≡ blocks_over n (length digests)
unfolding stored blocks_over
length-stored salt zero digests = refl
length-stored salt (suc n) digests =
    let up : length (raised salt digests) ≡ runs (length digests) = length-map (level digests) (digest salt) ∙ length-level digests in
    length-append (stored salt n (raised salt digests)) (level digests)
    ∙ (rw (length-stored salt n (raised salt digests), up, length-level digests) refl)

-- how many digests the topmost level has
pub length-tops : (salt : List ℕ) (n : ℕ) (digests : List (List ℕ)) → 1 ≤ length digests
    → length (tops salt n digests) ≡ (length digests - 1) / 128 ^ n + 1
unfolding tops
length-tops salt zero digests some = rw (pow-zero, div-one) (omega arith)
length-tops salt (suc n) digests some =
    let up : length (raised salt digests) ≡ runs (length digests) = length-map (level digests) (digest salt) ∙ length-level digests in
    let count : runs (length digests) - 1 ≡ (length digests - 1) / 128 = omega arith in
    let e : suc n ≡ n + 1 = omega arith in
    rw (length-tops salt n (raised salt digests) (omega arith), up, count, e, div-pow-suc) refl

-- all blocks, counted from the lowest level
shift : {X : Type 0} (f g : ℕ → X) (a n : ℕ) → ((k : ℕ) → f (k + 1) ≡ g k) → map f (range_with_len (a + 1) n) ≡ map g (range_with_len a n)
shift f g a zero same = refl
shift f g a (suc n) same = rw (same a, shift f g (a + 1) n same) refl

pub blocks_over-sum : (n blocks : ℕ) → 1 ≤ blocks → blocks_over n blocks ≡ sum (map (level_blocks blocks) (range_with_len 0 n))
unfolding blocks_over level_blocks
blocks_over-sum zero blocks some = refl
blocks_over-sum (suc n) blocks some =
    let lowest : (blocks - 1) / 128 + 1 ≡ runs blocks = omega arith in
    let count : runs blocks - 1 ≡ (blocks - 1) / 128 = omega arith in
    let up : map (level_blocks blocks) (range_with_len (0 + 1) n) ≡ map (level_blocks (runs blocks)) (range_with_len 0 n) =
    shift (level_blocks blocks) (level_blocks (runs blocks)) 0 n (λ k. rw (div-pow-suc (blocks - 1) (k + 1), count) refl) in
    let above : blocks_over n (runs blocks) ≡ sum (map (level_blocks (runs blocks)) (range_with_len 0 n)) =
    blocks_over-sum n (runs blocks) (omega arith) in
    let all : sum (map (level_blocks blocks) (0 ∷ range_with_len (0 + 1) n))
    ≡ level_blocks blocks 0 + sum (map (level_blocks blocks) (range_with_len (0 + 1) n)) =
    sum-map (level_blocks blocks) (0 ∷ range_with_len (0 + 1) n)
    ∙ sum_by-cons (level_blocks blocks) 0 (range_with_len (0 + 1) n)
    ∙ ap (λ (k : ℕ). level_blocks blocks 0 + k) (sym (sum-map (level_blocks blocks) (range_with_len (0 + 1) n))) in
    rw (all, up, ← above, lowest) (omega arith)

pub hash_blocks-over : (blocks : ℕ) → 1 ≤ blocks → hash_blocks blocks ≡ 1 + blocks_over (levels blocks) blocks
unfolding hash_blocks
hash_blocks-over blocks some = rw (blocks_over-sum (levels blocks) blocks some) refl
