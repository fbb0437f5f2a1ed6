use Rattle.std.proofs.Common.{◌∙◌, ◌+◌, ◌*◌, sym, arith}
use Rattle.rp_make_input.proofs.Rest.{none_left, one_more}
use Rattle.rp_make_input.proofs.bytes.source_bytes.Goals as goal

pub loop-turn-preserved : goal.loop-turn-preserved
loop-turn-preserved c =
    let more = one_more c.loop-turn.bytes (4096 * c.args.number + 17) c.loop-turn._turn c.loop-turn.state (omega arith) in
    let before = c.loop-turn.invariant in
    let pushed = c.in_ok-push.ensures.ok in
    cc (c.next-state.ensures, c.top_byte.ensures)

pub returns : goal.returns
returns c =
    let all = none_left c.loop-turn.bytes (4096 * c.args.number + 17) c.loop-turn._turn c.loop-turn.state (omega arith) in
    sym all ∙ c.loop-turn.invariant
