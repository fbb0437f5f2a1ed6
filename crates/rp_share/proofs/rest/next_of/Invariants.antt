use Rattle.rp_share.specs.Due.{IsNext}
use Rattle.rp_share.proofs.rest.next_of.Given as goal

abbrev pub invariant-loop-place : goal.invariant-loop-place
invariant-loop-place l = IsNext l.items l.shares l.place l.next
