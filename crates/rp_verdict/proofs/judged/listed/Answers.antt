use Rattle.std.proofs.Common.{◌≡◌, ℕ, List, None, Option, get_or, map, take, ◌∙◌, ap, arith}
use Rattle.std.proofs.lemmas.List.{get_or-map}
use Rattle.rp_policy.specs.Reading.{designators}
use Rattle.rp_policy.specs.declared.judging.Found.{Found}
use Rattle.rp_types.specs.declared.arch.Designator.TheVariants.{Root}
use Rattle.rp_verdict.specs.Verdicts.{listed, verdict_on}
use Rattle.rp_verdict.specs.declared.verdict.Verdict.{Verdict}
use Rattle.rp_verdict.proofs.Judging.{list-more, order-more}
use Rattle.rp_verdict.proofs.judged.listed.Goals as goal

pub loop-place-preserved : goal.loop-place-preserved
loop-place-preserved c =
    let policy = c.args.policy.now in
    let rows = c.args.rows.now in
    let arch = c.args.arch in
    let place : ℕ = c.loop-place.place in
    record {
      list = λ f e.
          list-more (λ d. verdict_on policy arch rows d (f d)) designators place Root c.loop-place.list c.push.new.self c.verdict_on.result (omega arith)
          (c.loop-place.invariant.list f e) c.in_ok-push.ensures.ok
          (c.verdict_on.ensures
          ∙ ap (verdict_on policy arch rows (get_or designators place Root))
          (ap (λ (xs : List (Option Found)). get_or xs place None) e ∙ get_or-map f designators place Root None (omega arith)));
      order =
          order-more (λ (verdict : Verdict). verdict.designator) designators place Root c.loop-place.list c.push.new.self c.verdict_on.result
          (omega arith) c.loop-place.invariant.order c.in_ok-push.ensures.ok (ap (λ (verdict : Verdict). verdict.designator) c.verdict_on.ensures);
    }

pub returns-clause-list : goal.returns-clause-list
unfolding listed
returns-clause-list c = λ f e.
    let all : c.loop-place.place ≡ 13 = omega arith in
    c.loop-place.invariant.list f e
    ∙ ap (λ (i : ℕ). map (λ d. verdict_on c.args.policy.now c.args.arch c.args.rows.now d (f d)) (take i designators)) all
