use Rattle.std.proofs.Common.{◌∙◌, arith}
use Rattle.rp_step.proofs.Kept.{kept_piece, piece_size}
use Rattle.rp_step.proofs.contents.zero.Goals as goal

pub write_zeros-requires-clause-room : goal.write_zeros-requires-clause-room
write_zeros-requires-clause-room g c =
    let l = c.requires.leased in
    let long = piece_size c.args.blocks.now.pool c.args.blocks.now.piece _ l.sound l.out l.piece c.bytes_mut-room.ensures.value in
    omega (arith, long)

pub returns-clause-kept : goal.returns-clause-kept
returns-clause-kept g c =
    let l = c.requires.leased in
    let long = piece_size c.args.blocks.now.pool c.args.blocks.now.piece _ l.sound l.out l.piece c.bytes_mut-room.ensures.value in
    kept_piece c.args.blocks.now c.write_zeros.new.room l (c.write_zeros.auto.room ∙ long)
