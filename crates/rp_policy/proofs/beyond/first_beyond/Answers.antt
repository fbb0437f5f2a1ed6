use Rattle.std.proofs.Common.{◌≡◌, suc, ◌+◌, ◌-◌, sym, ap, ◌∙◌, arith}
use Rattle.rp_policy.proofs.Finding.{found_first, found_from, found_here, found_later, found_start}
use Rattle.rp_policy.proofs.beyond.first_beyond.Goals as goal

pub loop-kinds-init : goal.loop-kinds-init
loop-kinds-init c = found_start c.args.a.0 c.args.b.0 (sym c.is_beyond.ensures ∙ c.if-is_beyond.false)

pub returns-in-Some : goal.returns-in-Some
returns-in-Some c =
    let left : 16 - c.loop-kinds.kinds ≡ suc (15 - c.loop-kinds.kinds) = omega arith in
    sym (c.loop-kinds.invariant ∙ ap (found_from c.args.a.0 c.args.b.0 c.loop-kinds.kinds) left
    ∙ found_here c.args.a.0 c.args.b.0 c.loop-kinds.kinds (15 - c.loop-kinds.kinds) c.in-Some.found c.in-Some.ensures)

pub loop-kinds-preserved : goal.loop-kinds-preserved
loop-kinds-preserved c =
    let left : 16 - c.loop-kinds.kinds ≡ suc (15 - c.loop-kinds.kinds) = omega arith in
    let next : 15 - c.loop-kinds.kinds ≡ 16 - (c.loop-kinds.kinds + 1) = omega arith in
    c.loop-kinds.invariant ∙ ap (found_from c.args.a.0 c.args.b.0 c.loop-kinds.kinds) left
    ∙ found_later c.args.a.0 c.args.b.0 c.loop-kinds.kinds (15 - c.loop-kinds.kinds) c.in-None.ensures
    ∙ ap (found_from c.args.a.0 c.args.b.0 (c.loop-kinds.kinds + 1)) next

pub returns-then-is_beyond : goal.returns-then-is_beyond
returns-then-is_beyond c = found_first c.args.a.0 c.args.b.0 (sym c.is_beyond.ensures ∙ c.if-is_beyond.true)
