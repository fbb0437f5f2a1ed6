-- By the counts of each place in the order.
use Rattle.std.proofs.Common.{◌≡◌, ◌+◌, ◌<◌, arith}
use Rattle.std.proofs.lemmas.List.Elements.{All-weaker}
use Rattle.rp_base.specs.Trees.{hash_blocks, levels}
use Rattle.rp_verity.specs.Order.{blocks_over, order}
use Rattle.rp_verity.proofs.OrderLemmas.{order-inside, put_once}
use Rattle.rp_verity.proofs.ShapeLemmas.{hash_blocks-over}
use Rattle.rp_verity.proofs.law.each_block_is_put_once.Goals as goal

pub returns-clause-once : goal.returns-clause-once
returns-clause-once c blocks place some below =
    put_once place (levels blocks) blocks some (omega (arith, hash_blocks-over blocks some))

pub returns-clause-inside : goal.returns-clause-inside
returns-clause-inside c blocks some =
    let size : hash_blocks blocks ≡ 1 + blocks_over (levels blocks) blocks = hash_blocks-over blocks some in
    All-weaker (λ place. place < blocks_over (levels blocks) blocks) (λ place. place + 1 < hash_blocks blocks)
    (λ place below. omega arith) (order blocks) (order-inside (levels blocks) blocks some)
