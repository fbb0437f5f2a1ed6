-- Verity pairs of drafts, as the code has them.
use Rattle.std.specs.Prelude.{ℕ, ℤ, List, Bool, true, false, not, ◌&&◌, ◌==◌, Option, Some, None, Result, Ok, Err, count_by, find, map}
use Rattle.std.specs.Prelude.{slice_get}
use Rattle.std.specs.List.{position_or_len}
use Rattle.std.specs.Option.{option_map_or, is_some, is_none}
use Rattle.std.specs.Str.{bytes_eq}
use Rattle.rp_defs.specs.declared.definition.Definition.{Definition}
use Rattle.rp_defs.specs.declared.definition.Verity.TheVariants as verity
use Rattle.rp_defs.specs.declared.draft.Draft.{Draft}
use Rattle.rp_defs.specs.declared.draft.Half.{Half}
use Rattle.rp_defs.specs.declared.draft.Half.TheVariants.{Off, Data, Hash}
use Rattle.rp_defs.specs.declared.fault.DefFault.{DefFault}
use Rattle.rp_defs.specs.declared.fault.DefKind.TheVariants.{VerityPair}
use Rattle.rp_defs.specs.Faults.{whole_fault}
use Rattle.rp_defs.specs.Partner.{greater, with_partner}

-- whether two halves are one
abbrev pub same_half : Half → Half → Bool
same_half Off Off = true
same_half Data Data = true
same_half Hash Hash = true
same_half half other = false

-- a draft is this half of the pair of a key
abbrev pub is_half : Half → List ℕ → Draft → Bool
is_half half key draft = same_half half draft.half && option_map_or (bytes_eq key) draft.match_key false

-- exactly one data definition and one hash definition have the key
abbrev pub is_pair : List Draft → List ℕ → Bool
is_pair drafts key = count_by (is_half Data key) drafts == 1 && count_by (is_half Hash key) drafts == 1

-- whether a draft's key has a pair
abbrev pub has_pair : List Draft → Draft → Bool
has_pair drafts draft = option_map_or (is_pair drafts) draft.match_key false

-- a draft that is no half, or the data of a pair, with a source, or the hash of one, without
unfoldable pub is_joined : List Draft → Draft → Bool
is_joined drafts draft = joined draft.half where
  joined : Half → Bool
  joined Off = true
  joined Data = has_pair drafts draft && is_some draft.definition.source
  joined Hash = has_pair drafts draft && is_none draft.definition.source

-- the place of a half of the pair of a draft's key
abbrev pub place_of : List Draft → Half → Draft → ℕ
place_of drafts half draft = option_map_or (λ key. position_or_len (is_half half key) drafts) draft.match_key 0

-- the greater of a draft's priority and that of the draft at a place
abbrev pub shared_priority : List Draft → ℕ → Draft → ℤ
shared_priority drafts place draft =
    option_map_or (λ other. greater draft.definition.priority other.definition.priority) (slice_get drafts place) draft.definition.priority

-- the definition of a draft: half of a pair names its partner, and both halves have the greater of their priorities
abbrev pub definition_of : List Draft → Draft → Definition
definition_of drafts draft = of_half draft.half where
  of_half : Half → Definition
  of_half Off = draft.definition
  of_half Data = let place =
      place_of drafts Hash draft in with_partner draft.definition (verity.Data place) (shared_priority drafts place draft)
  of_half Hash = let place =
      place_of drafts Data draft in with_partner draft.definition (verity.Hash place) (shared_priority drafts place draft)

-- the definitions of these drafts, or the fault of the first that isn't joined
unfoldable pub paired : List Draft → Result (List Definition) DefFault
paired drafts = unless (find (λ draft. not (is_joined drafts draft)) drafts) where
  unless : Option Draft → Result (List Definition) DefFault
  unless None = Ok (map (definition_of drafts) drafts)
  unless (Some draft) = Err (whole_fault draft.definition.file VerityPair)
