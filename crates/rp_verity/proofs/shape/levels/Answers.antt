-- The loop divides once for each level, and ends at the first quotient that is 0.
use Rattle.std.proofs.Common.{◌≡◌, ◌≢◌, ◌<◌, ◌≤◌, ◌-◌, ◌/◌, ◌^◌, ℕ, inl, inr, sym, ◌∙◌, ap, below_more, arith}
use Rattle.std.proofs.lemmas.Bool.{cases_lt}
use Rattle.std.proofs.Math.Nat.{div-one}
use Rattle.rp_verity.proofs.ShapeLemmas.{div-pow-more, levels_is}
use Rattle.rp_verity.proofs.shape.levels.Goals as goal

pub loop-rest-init : goal.loop-rest-init
loop-rest-init c = (omega arith, sym (div-one (c.args.blocks - 1)), λ k below. absurd (omega arith))

-- five levels are enough
level_few : (blocks level : ℕ) → blocks ≤ 2 ^ 32 → level ≤ 5 → (blocks - 1) / 128 ^ level ≢ 0 → level < 5
level_few blocks level few low some =
    elim (cases_lt level 5) [
      | inl h ↦ h
      | inr h ↦
          let five : level ≡ 5 = omega arith in
          let none : (blocks - 1) / 34359738368 ≡ 0 = omega arith in
          absurd (some (rw five none))
    ]

pub loop-rest-preserved : goal.loop-rest-preserved
loop-rest-preserved c =
    let blocks : ℕ = c.args.blocks in
    let level : ℕ = c.loop-rest.level in
    let here : (blocks - 1) / 128 ^ level ≢ 0 = λ e. c.loop-rest-test.true (c.loop-rest.invariant.1 ∙ e) in
    let few : level < 5 = level_few blocks level c.requires.few c.loop-rest.invariant.0 here in (
      omega arith,
      ap (λ (n : ℕ). n / 128) c.loop-rest.invariant.1 ∙ sym (div-pow-more (blocks - 1) level),
      below_more _ _ c.loop-rest.invariant.2 here,
    )

pub returns-clause-levels : goal.returns-clause-levels
returns-clause-levels c =
    sym (levels_is c.args.blocks c.loop-rest.level c.loop-rest.invariant.0 c.loop-rest.invariant.2
    (λ below. sym c.loop-rest.invariant.1 ∙ c.loop-rest-test.false))
