use Rattle.std.proofs.Common.{◌≡◌, ℕ, List, Some, length, sym, ap, ◌∙◌}
use Rattle.std.specs.Prelude.{option_map}
use Rattle.uuid.specs.Text.{parsed, hyphenated_text, lower}
use Rattle.uuid.proofs.TextLemmas.{by_index_length}
use Rattle.rp_base.specs.declared.guid.Guid.{Guid}
use Rattle.rp_types.specs.Guids.{guid_of, guid_text}
use Rattle.rp_types.proofs.guids.write_guid.Goals as goal

guid : List ℕ → Guid
guid bytes = record { 0 = bytes }

-- a GUID as text has 36 characters
length-guid_text : (bytes : List ℕ) → length (hyphenated_text lower bytes) ≡ 36
length-guid_text bytes = by_index_length 36 _

pub copy_from_slice-requires : goal.copy_from_slice-requires
copy_from_slice-requires c =
    sym (ap length (c.as_bytes.ensures.value ∙ c.encode_lower-text.ensures.text) ∙ length-guid_text c.hyphenated.result)

pub returns-clause-text : goal.returns-clause-text
unfolding guid_text
returns-clause-text c =
    c.copy_from_slice.ensures.after ∙ c.as_bytes.ensures.value ∙ c.encode_lower-text.ensures.text
    ∙ ap (hyphenated_text lower) (c.hyphenated.ensures ∙ c.from_bytes.ensures)

pub returns-clause-back : goal.returns-clause-back
unfolding guid_of guid
returns-clause-back c =
    ap (λ text. option_map guid (parsed text)) (c.copy_from_slice.ensures.after ∙ c.as_bytes.ensures.value)
    ∙ ap (option_map guid) (sym c.encode_lower-text.ensures.parsed)
    ∙ ap (λ (bytes : List ℕ). Some (guid bytes)) (c.hyphenated.ensures ∙ c.from_bytes.ensures)
