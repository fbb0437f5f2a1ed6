-- Why there is no plan, and the lines that tell it.
use Rattle.std.specs.Prelude.{ℕ, List, [], ◌∷◌, codes, map, slice_get}
use Rattle.std.specs.Fmt.{decimal}
use Rattle.std.specs.Option.{option_map_or}
use Rattle.rp_defs.specs.declared.definition.Definition.{Definition}
use Rattle.rp_demand.specs.declared.demand.Demand.{Demand}
use Rattle.rp_demand.specs.declared.demand.Demand.TheVariants as demands
use Rattle.rp_outcome.specs.Refusals.{Refusal, memory_refusal}
use Rattle.rp_outcome.specs.Statuses as exit

-- the name of the file of the definition at a place
abbrev pub file_of : List Definition → ℕ → List ℕ
file_of list place = option_map_or (λ (definition : Definition). definition.file) (slice_get list place) []

-- the refusal of a demand of this kind, with the definition that asks for it and its numbers
abbrev pub asked : List ℕ → List ℕ → List ℕ → Refusal
asked kind file numbers = record { status = exit.demand; words = kind ∷ file ∷ map decimal numbers }

-- the refusal of a demand, with its numbers in the order of its fields, or of want of memory
abbrev pub demand_refusal : List Definition → Demand → Refusal
demand_refusal list (demands.ResetMix file) = asked (codes "ResetMix") (file_of list file) []
demand_refusal list (demands.VerityHalf file) = asked (codes "VerityHalf") (file_of list file) []
demand_refusal list (demands.SourceTooLarge file need max) = asked (codes "SourceTooLarge") (file_of list file) (need ∷ max ∷ [])
demand_refusal list (demands.Existing file need have) = asked (codes "Existing") (file_of list file) (need ∷ have ∷ [])
demand_refusal list (demands.Room file need largest) = asked (codes "Room") (file_of list file) (need ∷ largest ∷ [])
demand_refusal list (demands.Slot file) = asked (codes "Slot") (file_of list file) []
demand_refusal list (demands.TakenIdentifier file) = asked (codes "TakenIdentifier") (file_of list file) []
demand_refusal list (demands.NoIdentifier file) = asked (codes "NoIdentifier") (file_of list file) []
demand_refusal list demands.Memory = memory_refusal
