use Rattle.std.proofs.Common.{◌≡◌, ◌≤◌, ◌<◌, ◌∙◌, ap, sym, length, map, arith, get_or, None}
use Rattle.std.specs.List.{enumerate_from}
use Rattle.std.proofs.lemmas.List.{take_all, get_or_default}
use Rattle.std.proofs.lemmas.List.FromFn.{length-enumerate_from}
use Rattle.rp_areas.specs.Areas.{extent_of, file_of}
use Rattle.rp_areas.proofs.Places.{map-enumerate_more}
use Rattle.rp_areas.proofs.extents.extents.Goals as goal

pub loop-place-preserved : goal.loop-place-preserved
loop-place-preserved c =
    let below : c.loop-place.place < length c.args.rows.now = omega arith in
    let read : c.index.result.now ≡ get_or c.in_ok-files.files.items c.loop-place.place None = c.index.ensures
    ∙ get_or_default c.in_ok-files.files.items c.loop-place.place _ None (rw c.in_ok-files.ensures.len below) in
    let file : c.index.result.now ≡ file_of c.args.matched.now c.loop-place.place = read
    ∙ c.in_ok-files.ensures.file c.loop-place.place below in
    c.in_ok-push.ensures.items ∙ rw (c.loop-place.invariant, file) (sym
    (map-enumerate_more (extent_of c.args.matched.now) c.args.rows.now c.loop-place.place _ below))

pub returns : goal.returns
returns c =
    let all : length (enumerate_from 0 c.args.rows.now) ≤ c.loop-place.place = omega (arith, length-enumerate_from 0 c.args.rows.now) in
    c.loop-place.invariant ∙ ap (map (extent_of c.args.matched.now)) (take_all c.loop-place.place (enumerate_from 0 c.args.rows.now) all)
