use Rattle.rp_files.proofs.Sizes.{adds_one}
use Rattle.rp_files.proofs.reader.with_part.Goals as goal

pub returns-clause-adds : goal.returns-clause-adds
returns-clause-adds g c = adds_one c.args.pieces _ c.with_piece.result c.in_ok-piece.ensures.short c.with_piece.ensures.pieces
