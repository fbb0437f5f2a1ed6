-- Definitions of one type that don't agree on factory reset: an own rule. The rows of a type go to its definitions in order, so where
-- some of them were taken out, those that stay would go to other definitions.
use Rattle.std.specs.Prelude.{ℕ, ◌&&◌, Bool, if◌then◌else◌, List, take, Option, Some, None}
use Rattle.std.specs.List.{enumerate_from, list_any}
use Rattle.rp_areas.specs.Matching.{is_kind}
use Rattle.rp_defs.specs.declared.definition.Definition.{Definition}
use Rattle.rp_demand.specs.declared.demand.Demand.{Demand}
use Rattle.rp_demand.specs.declared.demand.Demand.TheVariants.{ResetMix}
use Rattle.rp_sizes.specs.Sizes.{differ, first_of}

-- two definitions have one type, and one of them is to be reset and the other isn't
abbrev pub disagree : Definition → Definition → Bool
disagree a b = is_kind a.kind b.kind && differ a.factory_reset b.factory_reset

-- a definition, given with its place, doesn't agree with an earlier one
abbrev pub mix_of : List Definition → (ℕ × Definition) → Option Demand
mix_of defs e = if list_any (λ other. disagree other e.1) (take e.0 defs) then Some (ResetMix e.0) else None

-- the demand of the least such definition
abbrev pub mix : List Definition → Option Demand
mix defs = first_of (mix_of defs) (enumerate_from 0 defs)
