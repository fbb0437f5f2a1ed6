-- How many levels and blocks there are.
use Rattle.std.proofs.Common.{◌≡◌, ◌≢◌, ℕ, zero, suc, ◌+◌, ◌-◌, ◌/◌, ◌^◌, ◌<◌, ◌≤◌, ◌==◌, Bool, true, false, Option, Some, None, refl, ap, arith}
use Rattle.std.specs.Prelude.{find, unwrap_or, if◌then◌else◌}
use Rattle.std.specs.List.{range_with_len}
use Rattle.std.proofs.lemmas.Bool.{ne_eqb}
use Rattle.rp_base.specs.Trees.{hash_blocks, levels}
use Rattle.rp_verity.specs.Tree.{runs}
use Rattle.rp_verity.specs.Order.{blocks_over}
use Rattle.rp_verity.proofs.ShapeLemmas.{hash_blocks-over}

pub some_blocks : (n digests size : ℕ) → 1 ≤ digests → size ≡ blocks_over (suc n) digests → 0 < size
unfolding blocks_over
some_blocks n digests size some is = omega arith

-- over more than one block there are levels
find-low : (p : ℕ → Bool) (a n k : ℕ) → find p (range_with_len a n) ≡ Some k → a ≤ k
find-low p a zero k found = absurd (cc)
find-low p a (suc n) k found = by_test (p a) refl found (find-low p (a + 1) n k) where
  by_test : (t : Bool) → p a ≡ t → (if t then Some a else find p (range_with_len (a + 1) n)) ≡ Some k
      → (find p (range_with_len (a + 1) n) ≡ Some k → a + 1 ≤ k) → a ≤ k
  by_test true is found later = let same : a ≡ k = (cc) in omega arith
  by_test false is found later = let low : a + 1 ≤ k = later found in omega arith

pub levels-some : (blocks : ℕ) → 1 ≤ blocks → blocks ≢ 1 → 1 ≤ levels blocks
unfolding levels
levels-some blocks some more =
    let power : 128 ^ 0 ≡ 1 = refl in
    let high : (blocks - 1) / 1 ≢ 0 = omega arith in
    let fails : ((blocks - 1) / 128 ^ 0 == 0) ≡ false = rw power (ne_eqb ((blocks - 1) / 1) 0 high) in
    rw fails (by_find (find (λ level. (blocks - 1) / 128 ^ level == 0) (range_with_len 1 4)) refl) where
      by_find : (o : Option ℕ) → find (λ level. (blocks - 1) / 128 ^ level == 0) (range_with_len 1 4) ≡ o → 1 ≤ unwrap_or o 5
      by_find None is = omega arith
      by_find (Some k) is = find-low (λ level. (blocks - 1) / 128 ^ level == 0) 1 4 k is

-- the lowest level and those above it
pub blocks_over-split : (levels digests : ℕ) → 1 ≤ levels → blocks_over levels digests ≡ blocks_over (levels - 1) (runs digests) + runs digests
unfolding blocks_over
blocks_over-split zero digests some = absurd (omega arith)
blocks_over-split (suc n) digests some = let e : suc n - 1 ≡ n = omega arith in rw e refl

-- a tree over more than one block has two blocks with the superblock's
pub two-blocks : (blocks : ℕ) → 1 ≤ blocks → blocks ≢ 1 → 2 ≤ hash_blocks blocks
two-blocks blocks some more =
    let count : 1 ≤ levels blocks = levels-some blocks some more in
    let is : levels blocks ≡ suc (levels blocks - 1) = omega arith in
    let first : 0 < blocks_over (levels blocks) blocks =
    some_blocks (levels blocks - 1) blocks (blocks_over (levels blocks) blocks) some (ap (λ (n : ℕ). blocks_over n blocks) is) in
    omega (arith, hash_blocks-over blocks some)
