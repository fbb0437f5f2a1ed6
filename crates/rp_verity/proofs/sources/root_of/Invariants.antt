use Rattle.std.proofs.Common.{◌≡◌, ◌*◌, min}
use Rattle.rp_verity.specs.Builder.{IsBuilder}
use Rattle.rp_verity.proofs.Sourced.{Stays, TakenFrom}
use Rattle.rp_verity.proofs.sources.root_of.Given as goal

abbrev pub invariant-runs : goal.invariant-runs
invariant-runs g l = record {
  builder : IsBuilder l.builder;
  blocks : l.builder.blocks ≡ l.blocks;
  pushed : l.builder.pushed ≡ min (4 * l.turn) l.blocks;
  told : g.S.Sources.told l.sources ≡ g.S.Sources.told l.initial.sources;
  faults : g.S.Sources.faults l.sources ≡ g.S.Sources.faults l.initial.sources;
  strays : Stays (g.S.Sources.told l.initial.sources) l.path l.len (g.S.Sources.strays l.initial.sources) (g.S.Sources.strays l.sources);
  taken : TakenFrom (g.S.Sources.told l.initial.sources) l.path l.len l.blocks l.builder l.salt (min (4 * l.turn) l.blocks);
}
