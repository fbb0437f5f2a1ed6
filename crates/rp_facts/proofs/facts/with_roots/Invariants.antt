-- The sources are as they were, and the facts so far are known.
use Rattle.std.proofs.Common.{◌≡◌, IfSome, take}
use Rattle.rp_facts.specs.Sourced.{AreLengths, facts_on}
use Rattle.rp_sizes.specs.Needs.{AreFactsOn}
use Rattle.rp_facts.proofs.facts.with_roots.Given as goal

abbrev pub invariant-loop-i : goal.invariant-loop-i
invariant-loop-i g l = record {
  told : g.S.Sources.told l.sources ≡ g.S.Sources.told l.initial.sources;
  kept : g.S.Sources.faults l.sources ≡ g.S.Sources.faults l.initial.sources;
  strays : IfSome (g.S.Sources.told l.initial.sources) (λ files. AreLengths files l.list l.needs l.lens
      → g.S.Sources.strays l.sources ≡ g.S.Sources.strays l.initial.sources);
  facts : IfSome (g.S.Sources.told l.initial.sources) (λ files. AreLengths files l.list l.needs l.lens
      → l.facts ≡ facts_on l.seed files l.list (take l.i l.needs));
  each : AreFactsOn (take l.i l.needs) l.facts;
}
