use Rattle.std.proofs.Common.{◌∷◌, ◌++◌, [], length, ◌∙◌, ap, arith, lit<}
use Rattle.std.specs.String.{string_bytes}
use Rattle.rp_ini.proofs.LogicalLemmas.{ended}
use Rattle.rp_ini.proofs.logical.next_logical.Goals as goal

pub returns-in-None : goal.returns-in-None
returns-in-None c =
    let written = c.in_ok-push.ensures.bytes ∙ ap (λ e. string_bytes c.push_str.new.self ++ e) (c.in_ok-push.ensures.ascii (lit< tt))
    ∙ ap (λ t. t ++ 32 ∷ []) c.in_ok-push_str.ensures.bytes in
    let none = ap length c.in-None.ensures.1 in
    let shorter = c.loop-front.invariant.shorter in
    (ended _ _ _ _ _ c.args.lines.now c.loop-front.lines c.next-in-Some-opened.new.self c.loop-front.invariant.same c.in-Some-opened.ensures c.in-None.ensures written, omega (arith, none, shorter))
