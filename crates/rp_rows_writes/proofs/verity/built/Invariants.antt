use Rattle.std.proofs.Common.{◌≡◌}
use Rattle.rp_verity.specs.Builder.{IsBuilder, blocks_of, pushed_of}
use Rattle.rp_rows_writes.proofs.verity.built.Given as goal

abbrev pub invariant-pushes : goal.invariant-pushes
invariant-pushes g l = record {
  builder : IsBuilder l.builder;
  blocks : blocks_of l.builder ≡ l.blocks;
  pushed : pushed_of l.builder ≡ l.k;
}
