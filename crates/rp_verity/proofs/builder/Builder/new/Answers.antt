-- Nothing was taken yet: the room is zeros.
use Rattle.std.proofs.Common.{◌≡◌, ◌*◌, ℕ, List, [], ◌∙◌, ap, replicate, refl, length-take-le, arith}
use Rattle.rp_verity.proofs.Taking.{holds-zeros, no_tops}
use Rattle.rp_verity.proofs.builder.Builder.new.Goals as goal

pub returns-clause-taken : goal.returns-clause-taken
returns-clause-taken c =
    let salt : List ℕ = c.args.salt.now in
    let zeros : c.fill.new.self ≡ replicate (4096 * c.levels-count.result) 0 =
    c.fill.ensures.after (λ y e. e) ∙ ap (λ (n : ℕ). replicate n 0) (length-take-le (4096 * c.levels-count.result) c.args.room.now (omega arith)) in
    record {
      salted = c.update.ensures [] c.new-salted.ensures;
      pushed = refl;
      room = rw zeros (holds-zeros salt c.levels-count.result);
      root = λ front top e. no_tops salt c.levels-count.result front top _ e;
    }
