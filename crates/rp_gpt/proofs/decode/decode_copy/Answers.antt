use Rattle.std.proofs.Common.{◌≡◌, Ok, inl, refl, sym, ◌∙◌, length-take-le}
use Rattle.rp_gpt.specs.Copy.{answer}
use Rattle.rp_gpt.proofs.Chosen.{chosen-read, entries_inside}
use Rattle.rp_gpt.proofs.Passes.{read_parts, answer-fault, answer-slot, answer-table}
use Rattle.rp_gpt.proofs.Writable.{answer-rows, answer-writable}
use Rattle.rp_gpt.proofs.decode.decode_copy.Goals as goal

pub slice_bounds-array-end : goal.slice_bounds-array-end
slice_bounds-array-end c =
    let chosen = chosen-read c.args.sector c.args.sectors _ _ _ c.requires.sector c.requires.place c.chosen_entries-entries.ensures in
    sym (length-take-le _ _ (entries_inside c.args.sector _ _ _ _ c.requires.sector chosen c.parts.ensures.array_len))

pub header_fault-requires-clause-room : goal.header_fault-requires-clause-room
header_fault-requires-clause-room c = (chosen-read c.args.sector c.args.sectors _ _ _ c.requires.sector c.requires.place c.chosen_entries-entries.ensures).room

pub unordered_slot-requires-clause-length : goal.unordered_slot-requires-clause-length
unordered_slot-requires-clause-length c =
    let chosen = chosen-read c.args.sector c.args.sectors _ _ _ c.requires.sector c.requires.place c.chosen_entries-entries.ensures in
    length-take-le _ _ (entries_inside c.args.sector _ _ _ _ c.requires.sector chosen c.parts.ensures.array_len)

pub read_table-requires-clause-array : goal.read_table-requires-clause-array
read_table-requires-clause-array c =
    let chosen = chosen-read c.args.sector c.args.sectors _ _ _ c.requires.sector c.requires.place c.chosen_entries-entries.ensures in
    length-take-le _ _ (entries_inside c.args.sector _ _ _ _ c.requires.sector chosen c.parts.ensures.array_len)

pub returns-in-Some-clause-answer : goal.returns-in-Some-clause-answer
returns-in-Some-clause-answer c =
    let read = read_parts _ c.args.which c.args.sector _ _ _ c.parts.ensures.header c.chosen_entries-entries.ensures c.parts.ensures.array in
    inl (sym (answer-fault _ _ c.args.sectors _ _ _ _ read _ (sym c.header_fault.ensures ∙ c.in-Some.is)))

pub returns-in-Some-clause-refused : goal.returns-in-Some-clause-refused
returns-in-Some-clause-refused c =
    let read = read_parts _ c.args.which c.args.sector _ _ _ c.parts.ensures.header c.chosen_entries-entries.ensures c.parts.ensures.array in
    rw (answer-fault _ _ c.args.sectors _ _ _ _ read _ (sym c.header_fault.ensures ∙ c.in-Some.is)) refl

pub returns-in-Some-unordered_slot-clause-answer : goal.returns-in-Some-unordered_slot-clause-answer
returns-in-Some-unordered_slot-clause-answer c =
    let read = read_parts _ c.args.which c.args.sector _ _ _ c.parts.ensures.header c.chosen_entries-entries.ensures c.parts.ensures.array in
    inl (sym (answer-slot _ _ c.args.sectors _ _ _ _ read _ (sym c.header_fault.ensures ∙ c.in_default.is) (sym c.unordered_slot.ensures ∙ c.in-Some-unordered_slot.is)))

pub returns-in-Some-unordered_slot-clause-refused : goal.returns-in-Some-unordered_slot-clause-refused
returns-in-Some-unordered_slot-clause-refused c =
    let read = read_parts _ c.args.which c.args.sector _ _ _ c.parts.ensures.header c.chosen_entries-entries.ensures c.parts.ensures.array in
    rw (answer-slot _ _ c.args.sectors _ _ _ _ read _ (sym c.header_fault.ensures ∙ c.in_default.is) (sym c.unordered_slot.ensures ∙ c.in-Some-unordered_slot.is)) refl

pub returns-in_err-read_table-clause-refused : goal.returns-in_err-read_table-clause-refused
returns-in_err-read_table-clause-refused c =
    let read = read_parts _ c.args.which c.args.sector _ _ _ c.parts.ensures.header c.chosen_entries-entries.ensures c.parts.ensures.array in
    rw (answer-table _ _ c.args.sectors _ _ _ _ read _ (sym c.header_fault.ensures ∙ c.in_default.is) (sym c.unordered_slot.ensures ∙ c.in_default-unordered_slot.is) refl) tt

-- the answer is the table that was read
whole : (c : goal.In_ok-read_table) → answer c.args.bytes.now c.args.which c.args.sectors c.args.sector ≡ Ok c.in_ok-read_table.field-0
whole c =
    let read = read_parts _ c.args.which c.args.sector _ _ _ c.parts.ensures.header c.chosen_entries-entries.ensures c.parts.ensures.array in
    answer-table _ _ c.args.sectors _ _ _ _ read _ (sym c.header_fault.ensures ∙ c.in_default.is) (sym c.unordered_slot.ensures ∙ c.in_default-unordered_slot.is) c.in_ok-read_table.ensures.value

pub returns-clause-answer : goal.returns-clause-answer
returns-clause-answer c = inl (sym (whole c))

pub returns-clause-refused : goal.returns-clause-refused
returns-clause-refused c = rw (whole c) tt

pub returns-clause-rows : goal.returns-clause-rows
returns-clause-rows c = answer-rows _ _ _ _ _ c.requires.sector (whole c)

pub returns-clause-writable : goal.returns-clause-writable
returns-clause-writable c = answer-writable _ _ _ _ _ c.requires.sector c.requires.place (whole c)
