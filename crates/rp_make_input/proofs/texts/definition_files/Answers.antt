use Rattle.std.proofs.Common.{◌≤◌, arith}
use Rattle.rp_make_input.proofs.Joined.{with_pair}
use Rattle.rp_make_input.proofs.texts.definition_files.Goals as goal

pub returns : goal.returns
returns c =
    let low : c.loop-i.i ≤ c.args.number = omega arith in
    let high : c.args.number ≤ c.loop-i.i = omega arith in
    let one = c.in_ok-push-2.ensures.ok in
    let two = c.in_ok-push-3.ensures.ok in
    cc (with_pair c.loop-i.files c.loop-i.i c.args.number c.loop-i.invariant low high, c.in_ok-file.ensures, c.in_ok-file-2.ensures)
