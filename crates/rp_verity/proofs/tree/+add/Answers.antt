-- Each way out of `add` is a case of what adding does.
use Rattle.std.proofs.Common.{◌≡◌, ℕ, suc, ◌+◌, ◌-◌, ◌*◌, ◌/◌, ◌%◌, ◌<◌, List, [], ◌∷◌, length, replicate, ◌∙◌, ap, arith}
use Rattle.std.proofs.lemmas.List.{length-map}
use Rattle.rp_verity.specs.Tree.{digest}
use Rattle.rp_verity.specs.Order.{place_of}
use Rattle.rp_verity.specs.Puts.{Added, AddedPart}
use Rattle.rp_verity.specs.Room.{full_level, full_raised, placed_at}
use Rattle.rp_verity.proofs.LevelLemmas.{length-full_level}
use Rattle.rp_verity.proofs.Blocks.{are_digests, length-digest}
use Rattle.rp_verity.proofs.Adding.{adds_failed, adds_more, adds_part, adds_top}
use Rattle.rp_verity.proofs.tree.+add.Goals as goal

pub returns-then-levels-eq0-clause-adds : goal.returns-then-levels-eq0-clause-adds
returns-then-levels-eq0-clause-adds g t c salt digests salted each new_is count =
    rw c.if-levels-eq0.true (adds_top salt c.args.total digests c.args.new c.args.room.now _)

pub returns-then-before-clause-adds : goal.returns-then-before-clause-adds
returns-then-before-clause-adds g t c salt digests salted each new_is count =
    let next : c.args.levels ≡ suc (c.args.levels - 1) = omega (arith, c.if-levels-eq0.false) in
    let block : List ℕ = c.split_at_mut-block.result.0.now in
    let above : List ℕ = c.split_at_mut-block.result.1.now in
    let after : List ℕ = c.place.new.block in
    let whole : length block ≡ 4096 = c.split_at_mut-block.ensures.front_len in
    let after_whole : length after ≡ 4096 = omega arith in
    let written : after ≡ placed_at (32 * (length digests % 128)) c.args.new block = rw count c.place.ensures in
    let short : length digests % 128 < 127 = omega arith in
    rw (c.split_at_mut-block.ensures.value, next)
    (adds_part salt (c.args.levels - 1) c.args.total digests c.args.new block above after _ each new_is whole after_whole short written)

pub returns-in_err-up-clause-adds : goal.returns-in_err-up-clause-adds
returns-in_err-up-clause-adds g t c salt digests salted each new_is count =
    let next : c.args.levels ≡ suc (c.args.levels - 1) = omega (arith, c.if-levels-eq0.false) in
    let block : List ℕ = c.split_at_mut-block.result.0.now in
    let above : List ℕ = c.split_at_mut-block.result.1.now in
    let after : List ℕ = c.place.new.block in
    let whole : length block ≡ 4096 = c.split_at_mut-block.ensures.front_len in
    let written : after ≡ placed_at (32 * (length digests % 128)) c.args.new block = rw count c.place.ensures in
    let full : length digests % 128 ≡ 127 = omega arith in
    let failed : AddedPart (g.K.TreeOut.told c.args.out.now) ((place_of (c.args.levels - 1) c.args.total (length digests + 1), after) ∷ [])
    (g.K.TreeOut.told c.put_block.new.out) = rw count c.in_err-up.ensures.failed in
    rw (c.split_at_mut-block.ensures.value, next)
    (adds_failed salt (c.args.levels - 1) c.args.total digests c.args.new block above after _ _ _ _ c.from_residual.ensures.0
    each new_is whole full written failed)

pub returns-clause-adds : goal.returns-clause-adds
returns-clause-adds g t c salt digests salted each new_is count =
    let next : c.args.levels ≡ suc (c.args.levels - 1) = omega (arith, c.if-levels-eq0.false) in
    let block : List ℕ = c.split_at_mut-block.result.0.now in
    let above : List ℕ = c.split_at_mut-block.result.1.now in
    let after : List ℕ = c.place.new.block in
    let whole : length block ≡ 4096 = c.split_at_mut-block.ensures.front_len in
    let after_whole : length after ≡ 4096 = omega arith in
    let written : after ≡ placed_at (32 * (length digests % 128)) c.args.new block = rw count c.place.ensures in
    let full : length digests % 128 ≡ 127 = omega arith in
    let put : Added (g.K.TreeOut.told c.args.out.now) ((place_of (c.args.levels - 1) c.args.total (length digests + 1), after) ∷ [])
    (g.K.TreeOut.told c.put_block.new.out) = rw count c.in_ok-up.ensures.put in
    let up : c.in_ok-up.up ≡ digest salt after = c.in_ok-up.ensures.digest salt salted in
    let up_long : length c.in_ok-up.up ≡ 32 = ap length up ∙ length-digest salt after in
    let zeros : c.fill.new.self ≡ replicate 4096 0 = c.fill.ensures.after (λ y e. e) ∙ ap (λ (n : ℕ). replicate n 0) after_whole in
    let raised_count : length (full_raised salt digests) ≡ c.args.before / 128 =
    length-map (full_level digests) (digest salt) ∙ length-full_level digests ∙ ap (λ (n : ℕ). n / 128) count in
    let inner = c.add.ensures.adds salt (full_raised salt digests) salted (are_digests salt (full_level digests)) up_long raised_count in
    rw (c.split_at_mut-block.ensures.value, next, zeros)
    (adds_more salt (c.args.levels - 1) c.args.total digests c.args.new block above after c.in_ok-up.up c.add.new.room _ _ _ c.add.result
    each new_is whole full written up put (rw c.runs.ensures at inner))
