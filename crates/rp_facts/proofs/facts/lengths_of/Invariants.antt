-- The sources are as they were, and the lengths so far are known.
use Rattle.std.proofs.Common.{◌≡◌, IfSome, length, take}
use Rattle.rp_facts.specs.Sourced.{AreLengths}
use Rattle.rp_facts.proofs.facts.lengths_of.Given as goal

abbrev pub invariant-loop-need : goal.invariant-loop-need
invariant-loop-need g l = record {
  told : g.S.Sources.told l.sources ≡ g.S.Sources.told l.initial.sources;
  kept : g.S.Sources.faults l.sources ≡ g.S.Sources.faults l.initial.sources;
  strays : IfSome (g.S.Sources.told l.initial.sources) (λ files. g.S.Sources.strays l.sources ≡ g.S.Sources.strays l.initial.sources);
  lens : IfSome (g.S.Sources.told l.initial.sources) (λ files. AreLengths files l.list (take l.need-index l.needs) l.lens);
  count : length l.lens ≡ l.need-index;
}
