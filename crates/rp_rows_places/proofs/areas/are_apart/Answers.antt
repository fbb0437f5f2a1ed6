use Rattle.std.proofs.Common.{[], ◌+◌, ◌<◌, ◌≤◌, ◌⊎◌, All, arith, get_or, length, rules, take}
use Rattle.std.proofs.lemmas.List.{take_all, take_more}
use Rattle.std.proofs.lemmas.List.Quantifiers.{all_pairs_push}
use Rattle.rp_base.specs.declared.table.Row.{Row}
use Rattle.rp_rows_places.proofs.areas.are_apart.Goals as goal

abbrev no_row : Row
no_row = record { slot = 0; kind = record { 0 = [] }; id = record { 0 = [] }; start = 0; size = 0; attrs = 0; name = [] }

abbrev Apart : Row → Row → Type 0
Apart a b = (a.start + a.size ≤ b.start) ⊎ (b.start + b.size ≤ a.start)

pub loop-place-preserved : goal.loop-place-preserved
loop-place-preserved c =
    let below : c.loop-place.place < length c.args.rows.now = omega arith in
    let x : Row = get_or c.args.rows.now c.loop-place.place no_row in
    let each : All (λ (a : Row). Apart a x) (take c.loop-place.place c.args.rows.now) = search rules in
    rw (take_more c.args.rows.now c.loop-place.place no_row below) (all_pairs_push Apart (take c.loop-place.place c.args.rows.now) x
    c.loop-place.invariant each)

pub returns : goal.returns
returns c = λ _.
    let all : length c.args.rows.now ≤ c.loop-place.place = omega arith in
    rw (take_all c.loop-place.place c.args.rows.now all) at c.loop-place.invariant
