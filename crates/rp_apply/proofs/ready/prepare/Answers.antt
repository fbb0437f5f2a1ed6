use Rattle.rp_gpt.proofs.InPlace.{in_place-room}
use Rattle.rp_apply.proofs.Made.{ready_for}
use Rattle.rp_apply.proofs.ready.prepare.Goals as goal

pub returns : goal.returns
returns c =
    let s = c.in_ok-steps.ensures.steps in
    let p = c.in_ok-paths.ensures in
    let k = c.in_ok-kept.ensures in
    let f = c.plan_fits.ensures in
    let n = c.in_ok-seen.ensures in
    let b = c.in_ok-blocks.ensures in
    let w = c.write_copies.ensures in
    let t = c.target_sectors.ensures in
    ready_for _ _ _ _ _ _ _ _ _ c.requires.well_formed c.requires.sources f.table f.notes s p k n w.leased t w.copies

pub write_copies-requires-clause-room : goal.write_copies-requires-clause-room
write_copies-requires-clause-room c =
    let plan = c.args.plan.now in
    let formed = c.requires.well_formed in
    rw c.target_sectors.ensures (in_place-room plan.target plan.goal formed.writable.sector formed.in_place)
