use Rattle.std.proofs.Common.{◌∙◌, Ok}
use Rattle.rp_files.proofs.ReadLemmas.{at_there, strays_more}
use Rattle.rp_files.proofs.PieceLemmas.{parts_more}
use Rattle.rp_files.proofs.Sizes.{adds_more}
use Rattle.rp_files.proofs.reader.with_parts.Goals as goal

pub returns-in_err-pieces-clause-strays : goal.returns-in_err-pieces-clause-strays
returns-in_err-pieces-clause-strays g c =
    strays_more (g.F.Folders.told c.args.folders.now)
    (g.F.Folders.told c.loop-part.folders) _ _ _ _ _ c.loop-part.invariant.told c.loop-part.invariant.strays c.with_part.ensures.strays
    (λ tree there. at_there tree c.args.parts.now c.loop-part.part-index c.part-item.result c.loop-part-test.true c.part-item.is there)

pub loop-part-preserved : goal.loop-part-preserved
loop-part-preserved g c = record {
  told = c.with_part.ensures.told ∙ c.loop-part.invariant.told;
  pieces = parts_more (g.F.Folders.told c.args.folders.now)
      (g.F.Folders.told c.loop-part.folders) c.args.file.now c.args.parts.now c.loop-part.part-index c.part-item.result
      c.args.pieces c.loop-part.pieces
      (Ok c.in_ok-pieces.pieces) c.loop-part.invariant.told c.loop-part-test.true c.part-item.is c.loop-part.invariant.pieces
      c.in_ok-pieces.ensures.pieces;
  strays = strays_more (g.F.Folders.told c.args.folders.now)
      (g.F.Folders.told c.loop-part.folders) _ _ _ _ _ c.loop-part.invariant.told c.loop-part.invariant.strays c.with_part.ensures.strays
      (λ tree there. at_there tree c.args.parts.now c.loop-part.part-index c.part-item.result c.loop-part-test.true c.part-item.is there);
  adds = adds_more c.loop-part.part-index 1 c.args.pieces c.loop-part.pieces c.in_ok-pieces.pieces c.loop-part.invariant.adds
      c.in_ok-pieces.ensures.adds;
  faults = c.in_ok-pieces.ensures.cause ∙ c.loop-part.invariant.faults;
}
