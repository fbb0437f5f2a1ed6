use Rattle.std.proofs.Common.{◌≡◌}
use Rattle.rp_verity.specs.Builder.{IsBuilder, blocks_of, pushed_of}
use Rattle.rp_seal.proofs.format.tree.Given as goal

abbrev pub invariant-loop-k : goal.invariant-loop-k
invariant-loop-k g l = record {
  builder : IsBuilder l.builder;
  blocks : blocks_of l.builder ≡ l.blocks;
  pushed : pushed_of l.builder ≡ l.k;
}
