use Rattle.std.proofs.Common.{◌≡◌, ◌+◌, ◌*◌, ◌<◌, ◌++◌, take, length, get_or, refl, ap, ◌∙◌, arith}
use Rattle.std.proofs.Math.Nat.{add-zero}
use Rattle.std.proofs.lemmas.List.{append-nil, take_all}
use Rattle.rp_gpt.specs.Numbers.{u16_bytes, units_bytes}
use Rattle.rp_gpt.proofs.Put.{units-more}
use Rattle.rp_gpt.proofs.numbers.put_units.Goals as goal

pub loop-k-init : goal.loop-k-init
unfolding units_bytes
loop-k-init c = rw (add-zero, append-nil) refl

pub loop-k-preserved : goal.loop-k-preserved
loop-k-preserved c =
    let at = c.args.at in
    let units = c.args.units.now in
    let k = c.loop-k.k in
    let next : at + 2 * (k + 1) ≡ at + 2 * k + 2 = omega arith in
    let below : k < length units = omega arith in
    ap (λ n. take n c.put_u16.new.out) next ∙ c.put_u16.ensures
    ∙ ap (λ front. front ++ u16_bytes (get_or units k 0)) c.loop-k.invariant ∙ units-more (take at c.args.out.now) units k below

pub returns-clause-front : goal.returns-clause-front
returns-clause-front c =
    let all : 72 ≡ 2 * c.loop-k.k = omega arith in
    ap (λ n. take (c.args.at + n) c.loop-k.out) all ∙ c.loop-k.invariant
    ∙ ap (λ units. take c.args.at c.args.out.now ++ units_bytes units) (take_all c.loop-k.k c.args.units.now (omega arith))
