-- One digest more is pushed.
use Rattle.std.proofs.Common.{◌≡◌, ◌+◌, ℕ, List, [], ◌∷◌, ◌++◌, ◌<◌, length, map, take, slice_index_or, append-nil, append_assoc, ap, refl, ◌∙◌, arith}
use Rattle.std.proofs.lemmas.List.{get_or-map, length-map, take_all, take_more}
use Rattle.rp_verity.specs.Builder.{HasTaken}
use Rattle.rp_verity.specs.Tree.{digest}
use Rattle.rp_verity.specs.declared.builder.Builder.{Builder}
use Rattle.rp_verity.proofs.sources.push_all.Goals as goal

pub loop-i-init : goal.loop-i-init
loop-i-init c = record {
  builder = c.requires.builder;
  blocks = refl;
  pushed = omega arith;
  taken = λ salt taken blocks has are. rw append-nil has;
}

pub loop-i-preserved : goal.loop-i-preserved
loop-i-preserved c = record {
  builder = c.in_ok-push_digest.ensures.builder;
  blocks = c.push_digest.ensures.blocks ∙ c.loop-i.invariant.blocks;
  pushed = omega (arith, c.push_digest.ensures.pushed, c.loop-i.invariant.pushed);
  taken = λ salt taken blocks has are.
      let i : ℕ = c.loop-i.i in
      let same : length c.args.digests.now ≡ length blocks = ap length are ∙ length-map blocks (digest salt) in
      let below : i < length blocks = omega arith in
      let block : List ℕ = slice_index_or blocks i [] in
      let new : slice_index_or c.args.digests.now i [] ≡ digest salt block =
      ap (λ (ds : List (List ℕ)). slice_index_or ds i []) are ∙ get_or-map (digest salt) blocks i [] [] below in
      let more : take (i + 1) blocks ≡ take i blocks ++ block ∷ [] = take_more blocks i [] below in
      rw (more, ← append_assoc)
      (c.in_ok-push_digest.ensures.taken salt block (taken ++ take i blocks) (c.loop-i.invariant.taken salt taken blocks has are) new);
}

pub returns-clause-taken : goal.returns-clause-taken
returns-clause-taken c salt taken blocks has are =
    let same : length c.args.digests.now ≡ length blocks = ap length are ∙ length-map blocks (digest salt) in
    let all : take c.loop-i.i blocks ≡ blocks = take_all c.loop-i.i blocks (omega arith) in
    rw all at (c.loop-i.invariant.taken salt taken blocks has are)
