use Rattle.std.proofs.Common.{◌≡◌, ◌+◌, ◌-◌, true, false, ap, sym, ◌∙◌, arith}
use Rattle.rp_gpt.specs.Copy.{is_place, least_from}
use Rattle.rp_gpt.proofs.Chosen.{least_from-none, least_from-more, least_from-found}
use Rattle.rp_gpt.proofs.places.least_entries.Goals as goal

pub loop-entries-init : goal.loop-entries-init
loop-entries-init c = least_from-none c.args.sector c.args.bytes 128

pub returns-then-is_place : goal.returns-then-is_place
returns-then-is_place c =
    let entries = c.loop-entries.entries in
    let at : 128 + (entries - 128) ≡ entries = omega arith in
    let passes : is_place c.args.sector c.args.bytes (128 + (entries - 128)) ≡ true = ap (is_place c.args.sector c.args.bytes) at ∙ sym c.is_place.ensures ∙ c.if-is_place.true in
    rw (least_from-found c.args.sector c.args.bytes 128 (entries - 128) c.loop-entries.invariant 897 (omega arith) passes) (sym at)

pub loop-entries-preserved : goal.loop-entries-preserved
loop-entries-preserved c =
    let entries = c.loop-entries.entries in
    let at : 128 + (entries - 128) ≡ entries = omega arith in
    let next : entries - 128 + 1 ≡ entries + 1 - 128 = omega arith in
    let fails : is_place c.args.sector c.args.bytes (128 + (entries - 128)) ≡ false = ap (is_place c.args.sector c.args.bytes) at ∙ sym c.is_place.ensures ∙ c.if-is_place.false in
    ap (least_from c.args.sector c.args.bytes 128) (sym next) ∙ least_from-more c.args.sector c.args.bytes 128 (entries - 128) c.loop-entries.invariant fails
