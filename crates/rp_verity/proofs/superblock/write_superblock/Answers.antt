-- The fields, and zeros behind them.
use Rattle.std.proofs.Common.{◌≡◌, ℕ, List, length, replicate, ◌∙◌, ap, arith}
use Rattle.rp_verity.proofs.SuperblockLemmas.{written}
use Rattle.rp_verity.proofs.superblock.write_superblock.Goals as goal

pub returns : goal.returns
returns c =
    let rest : List ℕ = c.split_at_mut-fields.result.1.now in
    let size : length rest ≡ 3976 = omega arith in
    let zeros : c.fill.new.self ≡ replicate 3976 0 = c.fill.ensures.after (λ y e. e) ∙ ap (λ (n : ℕ). replicate n 0) size in
    rw (c.write_fields.ensures.value, zeros) (written c.args.uuid c.args.blocks c.args.salt.now c.write_fields.ensures.salt)
