-- GUIDs as texts (RFC 9562, section 4).
use Rattle.std.specs.Prelude.{List, ℕ, Option, option_map}
use Rattle.rp_base.specs.declared.guid.Guid.{Guid}
use Rattle.uuid.specs.Text.{parsed, hyphenated_text, lower}

-- the GUID that a text says, in one of the forms of the crate `uuid`: 32 digits, hyphenated, in braces, or a URN
unfoldable pub guid_of : List ℕ → Option Guid
guid_of text = option_map (λ bytes. record { 0 = bytes }) (parsed text)

-- a GUID as text: lower case, with hyphens
unfoldable pub guid_text : Guid → List ℕ
guid_text id = hyphenated_text lower id.0
