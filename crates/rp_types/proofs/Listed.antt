-- The table of the code is the list of types, so what is computed of the one holds of the other.
use Rattle.std.proofs.Common.{◌≡◌, ℕ, List, refl, subst}
use Rattle.std.specs.Prelude.{map}
use Rattle.uuid.specs.Text.{by_index}
use Rattle.rp_types.specs.Guids.{guid_of}
use Rattle.rp_types.specs.Rules.{IsTable}
use Rattle.rp_types.specs.Table.{types}
use Rattle.rp_types.specs.declared.table.PartitionType.{PartitionType}
use Rattle.rp_types.specs.declared.table.TheConstants.{TYPES}

-- the table of the code, with its names as texts
abbrev pub coded : List (List ℕ × PartitionType)
coded = map (λ entry. (entry.0.now, entry.1)) TYPES

pub types_are : coded ≡ types
unfolding types guid_of by_index
types_are = refl

-- what holds of the table of the code holds of the list of types
pub of_types : (P : List (List ℕ × PartitionType) → Type 0) → P coded → P types
of_types P holds = subst P types_are holds

pub types-IsTable : IsTable types
types-IsTable = of_types IsTable (record { names_once = refl; kinds_once = refl; used = refl })
