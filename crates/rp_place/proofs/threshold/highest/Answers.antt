use Rattle.std.proofs.Common.{◌<◌, ◌≤◌, ◌≤ℤ◌, All, ℤ, arith, get_or, inl, inr, length, of_z, pos, to_z, w32}
use Rattle.std.proofs.lemmas.Int.{ints}
use Rattle.std.proofs.lemmas.List.{take_all}
use Rattle.rp_place.specs.declared.fit.New.{New}
use Rattle.rp_place.proofs.Thresholds.{Side, sides_more}
use Rattle.rp_place.proofs.threshold.highest.Goals as goal

abbrev no_new : New
no_new = record { file = 0; need = 0; priority = pos 0 }

pub loop-new-preserved : goal.loop-new-preserved
loop-new-preserved c =
    let below : c.loop-new.new-index < length c.args.news.now = omega arith in
    let m : ℤ = to_z w32 (of_z w32 c.higher-highest.result) in
    let u : ℤ = to_z w32 (of_z w32 c.args.threshold) in
    let up : to_z w32 c.loop-new.highest-bits ≤ℤ to_z w32 (of_z w32 c.higher-highest.result) = omega (arith, ints) in
    let down : to_z w32 (of_z w32 c.args.threshold) ≤ℤ to_z w32 (of_z w32 c.args.threshold) = omega (arith, ints) in
    let here : Side (to_z w32 (of_z w32 c.higher-highest.result)) (to_z w32 (of_z w32 c.args.threshold))
    (get_or c.args.news.now c.loop-new.new-index no_new) =
    elim c.higher-highest.ensures.same [ inl q ↦ inl (omega (arith, ints, q)) | inr q ↦ inr (omega (arith, ints, q)) ] in (
      omega (arith, ints),
      omega (arith, ints),
      sides_more c.args.news.now c.loop-new.new-index no_new (to_z w32 c.loop-new.highest-bits) m u u below up down
          c.loop-new.invariant.2 here,
    )

pub returns-clause-same : goal.returns-clause-same
returns-clause-same c =
    let all : length c.args.news.now ≤ c.loop-new.new-index = omega arith in
    let each : All (Side (to_z w32 c.loop-new.highest-bits) (to_z w32 (of_z w32 c.args.threshold))) c.args.news.now =
    rw (take_all c.loop-new.new-index c.args.news.now all) at c.loop-new.invariant.2 in
    λ k d below. elim (each k d below) [ inl q ↦ inl q | inr q ↦ inr (omega (arith, ints, q)) ]
