use Rattle.std.proofs.Common.{◌≡◌, drop, fold}
use Rattle.rp_areas.specs.Areas.{lesser, least_refusal, refusals_of}
use Rattle.rp_areas.proofs.gaps.least_refusal.Given as goal

abbrev pub invariant-loop-place : goal.invariant-loop-place
invariant-loop-place l = fold lesser l.least (refusals_of l.last l.wants (drop l.place l.extents)) ≡ least_refusal
    (refusals_of l.last l.wants l.extents)
