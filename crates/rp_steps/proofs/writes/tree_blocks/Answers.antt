-- The loop counts a level at a time, and ends at the first quotient that is 0, or behind five levels.
use Rattle.std.proofs.Common.{◌≢◌, ℕ, ◌-◌, ◌/◌, ◌^◌, refl, sym, ◌∙◌, ap, below_more, arith}
use Rattle.std.proofs.Math.Nat.{div-one}
use Rattle.rp_verity.proofs.ShapeLemmas.{div-pow-more}
use Rattle.rp_steps.proofs.Sized.{all_levels, lowest_more}
use Rattle.rp_steps.proofs.writes.tree_blocks.Goals as goal

pub loop-rest-init : goal.loop-rest-init
loop-rest-init c = (
  omega arith,
  c.saturating_sub-rest.ensures ∙ sym (div-one (c.args.blocks - 1)),
  (λ k below. absurd (omega arith)),
  refl,
  omega arith,
)

pub loop-rest-preserved : goal.loop-rest-preserved
loop-rest-preserved c =
    let blocks : ℕ = c.args.blocks in
    let level : ℕ = c.loop-rest.level in
    let kept = c.loop-rest.invariant in
    let here : (blocks - 1) / 128 ^ level ≢ 0 = λ e. c.loop-rest-test.true (kept.1 ∙ e) in
    let more = lowest_more blocks level c.loop-rest.rest kept.1 in
    let low = c.if-level-lt-LEVELS.true in
    let fits = c.loop-rest.auto.rest-fits in
    let count = kept.3 in
    let most = kept.4 in (
      omega (arith, low),
      ap (λ (n : ℕ). n / 128) kept.1 ∙ sym (div-pow-more (blocks - 1) level),
      below_more _ _ kept.2 here,
      omega (arith, count, more),
      omega (arith, most, fits),
    )

pub returns-else-level-lt-LEVELS : goal.returns-else-level-lt-LEVELS
returns-else-level-lt-LEVELS c =
    let kept = c.loop-rest.invariant in
    let high = c.if-level-lt-LEVELS.false in
    kept.3 ∙ sym (all_levels c.args.blocks c.loop-rest.level kept.0 kept.2 (λ below. absurd (omega (arith, high, below))))

pub returns-after-loop-rest : goal.returns-after-loop-rest
returns-after-loop-rest c =
    let kept = c.loop-rest.invariant in
    kept.3 ∙ sym (all_levels c.args.blocks c.loop-rest.level kept.0 kept.2 (λ below. sym kept.1 ∙ c.loop-rest-test.false))
