-- The first bytes are those that were copied.
use Rattle.std.proofs.Common.{◌≡◌, List, ℕ, length, ◌∙◌, arith}
use Rattle.std.proofs.lemmas.List.{take-append-le, take_all}
use Rattle.rp_verity.specs.Superblock.{salt_in}
use Rattle.rp_tree.proofs.check.salt_in.Goals as goal

pub returns : goal.returns
unfolding salt_in
returns c =
    let part : List ℕ = c.copy_from_slice.new.self in
    let long : length part ≡ c.args.size = omega (arith, c.copy_from_slice.auto.self, c.split_at_mut-front.ensures.front_len) in
    take-append-le c.args.size part c.split_at_mut-front.result.1.now (omega arith) ∙ take_all c.args.size part (omega arith)
    ∙ c.copy_from_slice.ensures.after
