use Rattle.std.proofs.Common.{rules, ◌≡◌, ℕ, [], ◌∷◌, inl, inr, ap, sym, ◌*◌, ◌∙◌, arith, length, slice_index}
use Rattle.std.proofs.lemmas.List.{get_or-set_same, get_or-set_other, length-map}
use Rattle.std.proofs.lemmas.Bool.{cases_lt}
use Rattle.sha2.specs.Sha256.{word_at}
use Rattle.sha2.proofs.Schedule256.{IsWindow_first}
use Rattle.rp_lanes.specs.Lanes.{pick, window_lane}
use Rattle.rp_lanes.proofs.LaneLemmas.{below_four, window_at}
use Rattle.rp_lanes.proofs.rounds.load.Goals as goal

pub loop-i-preserved : goal.loop-i-preserved
loop-i-preserved c = (
  search rules,
  λ j k below lt.
      let i = c.loop-i.i in
      let words = c.word.result ∷ c.word-in-loop-i.result ∷ c.word-in-loop-i-2.result ∷ c.word-in-loop-i-3.result ∷ [] in
      elim (cases_lt k i) [
        | inl a ↦
            ap (λ v. slice_index v j) (get_or-set_other c.loop-i.w i k words [] (omega arith))
            ∙ c.loop-i.invariant.1 j k below a
        | inr b ↦
            let e : i ≡ k = omega arith in
            rw (← e) (ap (λ v. slice_index v j) (get_or-set_same c.loop-i.w i words [] (omega arith))
            ∙ below_four (λ n. slice_index words n ≡ word_at (pick n c.args.a.now c.args.b.now c.args.c.now c.args.d.now) (4 * i))
            c.word.ensures c.word-in-loop-i.ensures c.word-in-loop-i-2.ensures c.word-in-loop-i-3.ensures j below)
      ],
)

pub returns : goal.returns
returns c j below =
    let w = c.loop-i.w in
    IsWindow_first (pick j c.args.a.now c.args.b.now c.args.c.now c.args.d.now) (window_lane j w)
    (length-map w (λ v. slice_index v j) ∙ c.loop-i.invariant.0)
    (λ k lt. window_at w j k (omega arith) ∙ c.loop-i.invariant.1 j k below (omega arith))
