use Rattle.std.proofs.Common.{◌∙◌, arith}
use Rattle.rp_step.proofs.Kept.{kept_piece, piece_size}
use Rattle.rp_step.proofs.contents.copy.Goals as goal

pub copy_source-requires-clause-room : goal.copy_source-requires-clause-room
copy_source-requires-clause-room g c =
    let l = c.requires.leased in
    let long = piece_size c.args.blocks.now.pool c.args.blocks.now.piece _ l.sound l.out l.piece c.bytes_mut-room.ensures.value in
    omega (arith, long)

pub returns-clause-kept : goal.returns-clause-kept
returns-clause-kept g c =
    let l = c.requires.leased in
    let long = piece_size c.args.blocks.now.pool c.args.blocks.now.piece _ l.sound l.out l.piece c.bytes_mut-room.ensures.value in
    kept_piece c.args.blocks.now c.copy_source.new.room l (c.copy_source.auto.room ∙ long)
