use Rattle.std.proofs.Common.{◌≡◌, ◌==◌, ◌∙◌, sym, false, arith}
use Rattle.std.specs.Option.{option_map_or}
use Rattle.std.proofs.lemmas.Iterator.Adapters.{position_from-zero}
use Rattle.rp_areas.proofs.extents.files.Goals as goal

pub returns-clause-file : goal.returns-clause-file
returns-clause-file c p below =
    let end : c.loop-file.file ≡ 0 = omega arith in
    c.loop-file.invariant.1 p below ∙ rw end (sym (position_from-zero (λ m. option_map_or (λ q. q == p) m false) c.args.matched.now))
