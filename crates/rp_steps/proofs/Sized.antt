-- How many blocks a tree has, counted a level at a time.
use Rattle.std.proofs.Common.{◌≡◌, ◌≢◌, ℕ, zero, suc, ◌+◌, ◌-◌, ◌/◌, ◌^◌, ◌<◌, ◌≤◌, [], sym, ap, ◌∙◌, arith}
use Rattle.std.specs.Prelude.{sum_by}
use Rattle.std.specs.List.{range_with_len}
use Rattle.std.proofs.lemmas.List.Sums.{sum-map, sum_by-cons}
use Rattle.rp_base.specs.Trees.{hash_blocks, level_blocks}
use Rattle.rp_verity.proofs.ShapeLemmas.{div-pow-more, levels_is}

sum_more : (f : ℕ → ℕ) (a n : ℕ) → sum_by f (range_with_len a (n + 1)) ≡ sum_by f (range_with_len a n) + f (a + n)
sum_more f a zero = let e : a + zero ≡ a = omega arith in omega (arith, sum_by-cons f a [], ap f e)
sum_more f a (suc n) =
    let e : suc n + 1 ≡ suc (n + 1) = omega arith in
    let last : a + 1 + n ≡ a + suc n = omega arith in
    rw e (omega (arith, sum_by-cons f a (range_with_len (a + 1) (n + 1)), sum_by-cons f a (range_with_len (a + 1) n), sum_more f (a + 1) n, ap f last))

-- the blocks of the lowest levels, so many of them
abbrev pub lowest : ℕ → ℕ → ℕ
lowest blocks count = sum_by (level_blocks blocks) (range_with_len 0 count)

-- one level more
pub lowest_more : (blocks level rest : ℕ) → rest ≡ (blocks - 1) / 128 ^ level
    → lowest blocks (level + 1) ≡ lowest blocks level + (rest / 128 + 1)
unfolding level_blocks
lowest_more blocks level rest is =
    let e : 0 + level ≡ level = omega arith in
    let up : (blocks - 1) / 128 ^ (level + 1) ≡ rest / 128 = div-pow-more (blocks - 1) level ∙ sym (ap (λ (n : ℕ). n / 128) is) in
    let more = sum_more (level_blocks blocks) 0 level in
    let here : level_blocks blocks (0 + level) ≡ rest / 128 + 1 = ap (level_blocks blocks) e ∙ ap (λ (n : ℕ). n + 1) up in
    more ∙ ap (λ (n : ℕ). lowest blocks level + n) here

-- all levels, where no quotient before this level is 0, and this one's is, or it is the last
pub all_levels : (blocks level : ℕ) → level ≤ 5 → ((k : ℕ) → k < level → (blocks - 1) / 128 ^ k ≢ 0)
    → (level < 5 → (blocks - 1) / 128 ^ level ≡ 0)
    → hash_blocks blocks ≡ 1 + lowest blocks level
unfolding hash_blocks
all_levels blocks level few before at =
    rw (levels_is blocks level few before at) (ap (λ (n : ℕ). 1 + n) (sum-map (level_blocks blocks) (range_with_len 0 level)))
