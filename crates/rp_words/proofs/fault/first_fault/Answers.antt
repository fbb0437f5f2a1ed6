use Rattle.std.proofs.Common.{sym, ◌∙◌, arith, map, string_bytes}
use Rattle.rp_words.specs.Faults.{first_fault}
use Rattle.rp_words.proofs.Places.{passed_place, found_place, no_place}
use Rattle.rp_words.proofs.Strings.{fault_at-strings, length-strings}
use Rattle.rp_words.proofs.fault.first_fault.Goals as goal

pub returns-in-Some : goal.returns-in-Some
unfolding first_fault
returns-in-Some c =
    let words = c.args.words.now in
    let place = c.loop-place.place in
    let same = fault_at-strings c.args.command words place c.index-words-place.result c.as_str.result.now c.loop-place-test.true
    c.index-words-place.is c.as_str.ensures.value in
    sym (c.loop-place.invariant ∙ found_place c.args.command (map string_bytes words) place (omega (arith, length-strings words, c.loop-place-test.true))
    c.in-Some.fault (same ∙ sym c.in-Some.ensures))

pub loop-place-preserved : goal.loop-place-preserved
loop-place-preserved c =
    let words = c.args.words.now in
    let place = c.loop-place.place in
    let same = fault_at-strings c.args.command words place c.index-words-place.result c.as_str.result.now c.loop-place-test.true
    c.index-words-place.is c.as_str.ensures.value in
    c.loop-place.invariant ∙ passed_place c.args.command (map string_bytes words) place (omega (arith, length-strings words, c.loop-place-test.true))
    (same ∙ sym c.in_default.ensures)

pub returns : goal.returns
unfolding first_fault
returns c =
    let words = c.args.words.now in
    sym (c.loop-place.invariant ∙ no_place c.args.command (map string_bytes words) c.loop-place.place
    (omega (arith, length-strings words, c.loop-place-test.false)))
