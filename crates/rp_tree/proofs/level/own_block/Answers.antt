-- One block more of the lowest level.
use Rattle.std.proofs.Common.{◌≡◌, ℕ, ◌+◌, ◌-◌, ◌*◌, List, length, drop, ◌∙◌, ap, arith}
use Rattle.rp_base.specs.Image.{bytes_at}
use Rattle.rp_disk.specs.History.{held}
use Rattle.rp_disk.specs.Made.{history_of}
use Rattle.rp_verity.specs.Order.{blocks_over}
use Rattle.rp_verity.specs.Tree.{runs}
use Rattle.rp_tree.proofs.Counts.{blocks_over-split}
use Rattle.rp_tree.proofs.StandingLemmas.{drop-front, stands-next}
use Rattle.rp_tree.proofs.level.own_block.Goals as goal

pub read_blocks-requires-clause-blocks : goal.read_blocks-requires-clause-blocks
read_blocks-requires-clause-blocks g c =
    let above : c.blocks_over.result ≡ blocks_over (c.args.levels - 1) (runs c.args.total) =
    c.blocks_over.ensures.blocks ∙ ap (blocks_over (c.args.levels - 1)) c.runs.ensures in
    let split : blocks_over c.args.levels c.args.total ≡ blocks_over (c.args.levels - 1) (runs c.args.total) + runs c.args.total =
    blocks_over-split c.args.levels c.args.total c.requires.shape.some in
    omega (arith, c.requires.shape.fits, c.split_at_mut-block.ensures.front_len)

pub returns-clause-stands : goal.returns-clause-stands
returns-clause-stands g c past can before stands =
    let image = held (history_of past (g.D.Disk.device c.args.disk.now).calls) in
    let block : List ℕ = c.split_at_mut-block.result.0.now in
    let above : List ℕ = c.split_at_mut-block.result.1.now in
    let number : ℕ = 1 + c.blocks_over.result + c.args.index in
    let higher : c.blocks_over.result ≡ blocks_over (c.args.levels - 1) (runs c.args.total) =
    c.blocks_over.ensures.blocks ∙ ap (blocks_over (c.args.levels - 1)) c.runs.ensures in
    let number_is : number ≡ 1 + blocks_over (c.args.levels - 1) (runs c.args.total) + c.args.index = omega arith in
    let whole : length block ≡ 4096 = c.split_at_mut-block.ensures.front_len in
    let rest : drop 4096 c.args.room.now ≡ above = rw c.split_at_mut-block.ensures.value (drop-front block above whole) in
    let long : length c.read_blocks.new.buf ≡ 4096 = omega (arith, c.read_blocks.auto.buf) in
    let read : c.read_blocks.new.buf ≡ bytes_at image (512 * c.args.hash.now.start + 4096 * number) (length block) =
    c.in_ok-read_blocks.ensures.bytes past can in
    rw c.note.ensures
    (stands-next image c.args.salt.now c.args.hash.now c.args.levels c.args.total c.args.index number (length c.args.room.now) c.read_blocks.new.buf above
    c.args.notes.now c.is_right.result c.requires.shape c.requires.more c.requires.index long (rw whole at read) number_is
    c.is_right.ensures before (rw rest at stands))
