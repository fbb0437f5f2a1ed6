-- What the pair of a draft gives to its definition.
use Rattle.std.specs.Prelude.{List}
use Rattle.rp_defs.specs.declared.definition.Verity.TheVariants as verity
use Rattle.rp_defs.specs.declared.draft.Draft.{Draft}
use Rattle.rp_defs.specs.declared.draft.Half.{Half}
use Rattle.rp_defs.specs.declared.draft.Half.TheVariants.{Off, Data, Hash}
use Rattle.rp_defs.specs.declared.fault.DefFault.{DefFault}
use Rattle.rp_defs.specs.declared.fault.DefKind.TheVariants.{VerityPair}
use Rattle.rp_defs.specs.declared.pairs.Joint.{Joint}
use Rattle.rp_defs.specs.Faults.{whole_fault}
use Rattle.rp_defs.specs.Pairs.{place_of, shared_priority}

-- the verity and the priority of a draft's definition
abbrev pub joint_of : List Draft → Draft → Joint
joint_of drafts draft = of_half draft.half where
  of_half : Half → Joint
  of_half Off = record { verity = draft.definition.verity; priority = draft.definition.priority }
  of_half Data = let place =
      place_of drafts Hash draft in record { verity = verity.Data place; priority = shared_priority drafts place draft }
  of_half Hash = let place =
      place_of drafts Data draft in record { verity = verity.Hash place; priority = shared_priority drafts place draft }

-- the fault of a half that isn't joined
abbrev pub pair_fault : Draft → DefFault
pair_fault draft = whole_fault draft.definition.file VerityPair
