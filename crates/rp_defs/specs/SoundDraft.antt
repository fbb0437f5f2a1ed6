-- What a definition is before its partner is known.
use Rattle.std.specs.Prelude.{ℕ, ◌≡◌, ◌≢◌, ◌≤◌, IfSome, replicate, slice_index}
use Rattle.rp_base.specs.Wants.{IsWant}
use Rattle.rp_defs.specs.declared.definition.Definition.{Definition}
use Rattle.rp_defs.specs.declared.definition.Verity.TheVariants as verities
use Rattle.rp_defs.specs.declared.draft.Draft.{Draft}
use Rattle.rp_defs.specs.declared.draft.Half.{Half}
use Rattle.rp_defs.specs.declared.draft.Half.TheVariants.{Off, Data, Hash}

-- by half: the same of a draft
abbrev pub IsSizedHalf : Half → Definition → Type 0
IsSizedHalf Off definition = 1 ≤ definition.want.min
IsSizedHalf half definition = definition.want.weight ≡ 0

-- a draft whose definition is sound once its partner is known
pub record IsSoundDraft (draft : Draft) : Type 0 where
  pub used : draft.definition.kind.0 ≢ replicate 16 0
  pub want : IsWant draft.definition.want
  pub label : IfSome draft.definition.label (λ units. slice_index units 0 ≢ 0)
  pub sized : IsSizedHalf draft.half draft.definition
  pub alone : draft.definition.verity ≡ verities.Off
