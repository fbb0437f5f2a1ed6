use Rattle.std.proofs.Common.{◌≡◌, drop}
use Rattle.rp_policy.specs.Beyond.{counter_of}
use Rattle.rp_policy.specs.Reading.{designators}
use Rattle.rp_policy.proofs.beyond.compare.Given as goal

abbrev pub invariant-loop-designator : goal.invariant-loop-designator
invariant-loop-designator l = counter_of designators l.a l.b ≡ counter_of (drop l.designator-index designators) l.a l.b
