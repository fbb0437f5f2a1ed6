use Rattle.rp_idle.proofs.Stepless.{no_calls, nothing_left}
use Rattle.rp_idle.proofs.law.idle_images_need_no_calls.Goals as goal

pub returns : goal.returns
returns c sector image defs seed empty seen facts plan sources idle shown_as known is =
    let left = nothing_left sector image defs seed empty seen facts plan idle shown_as known is in
    (no_calls sector image defs seed empty seen facts plan sources idle shown_as known is, left.0, left.1)
