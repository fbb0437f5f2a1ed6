use Rattle.std.proofs.Common.{sym, subst}
use Rattle.rp_gpt.specs.Shown.{overlap}
use Rattle.rp_table.specs.Spans.{IsChained}
use Rattle.rp_table.proofs.Shared.{chained-none, none-chained, other_way}
use Rattle.rp_table.proofs.rows.any_share.Goals as goal

pub returns : goal.returns
returns c =
    let now = c.as_slice.result.now in
    let value = c.as_slice.ensures.value in
    other_way c.are_chained.result (overlap c.args.rows.now) (IsChained 0 now) c.are_chained.ensures.0 c.are_chained.ensures.1
    (λ chain. chained-none c.args.rows.now c.spans.result.items c.requires.rows c.spans.ensures.same (subst (IsChained 0) value chain))
    (λ none. subst (IsChained 0) (sym value) (none-chained c.args.rows.now c.spans.result.items c.requires.rows c.spans.ensures.same c.spans.ensures.rising none))
