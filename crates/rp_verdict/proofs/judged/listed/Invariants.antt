use Rattle.std.proofs.Common.{◌≡◌, map, take, Option}
use Rattle.rp_policy.specs.Reading.{designators}
use Rattle.rp_policy.specs.declared.judging.Found.{Found}
use Rattle.rp_types.specs.declared.arch.Designator.{Designator}
use Rattle.rp_verdict.specs.Verdicts.{verdict_on}
use Rattle.rp_verdict.proofs.judged.listed.Given as goal

-- the verdicts on the designators so far
abbrev pub invariant-loop-place : goal.invariant-loop-place
invariant-loop-place l = record {
  list : (f : Designator → Option Found) → l.found ≡ map f designators
      → l.list ≡ map (λ d. verdict_on l.policy l.arch l.rows d (f d)) (take l.place designators);
  order : map (λ verdict. verdict.designator) l.list ≡ take l.place designators;
}
