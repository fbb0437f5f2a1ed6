use Rattle.std.proofs.Common.{◌≡◌, ◌+◌, ℕ, List, ◌++◌, map, take}
use Rattle.rp_verity.specs.Builder.{HasTaken, IsBuilder}
use Rattle.rp_verity.specs.Tree.{digest}
use Rattle.rp_verity.proofs.sources.push_all.Given as goal

abbrev pub invariant-loop-i : goal.invariant-loop-i
invariant-loop-i l = record {
  builder : IsBuilder l.builder;
  blocks : l.builder.blocks ≡ l.fn.builder.blocks;
  pushed : l.builder.pushed ≡ l.fn.builder.pushed + l.i;
  taken : (salt : List ℕ) (taken blocks : List (List ℕ)) → HasTaken l.fn.builder salt taken → l.digests ≡ map (digest salt) blocks
      → HasTaken l.builder salt (taken ++ take l.i blocks);
}
