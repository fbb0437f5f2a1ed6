-- How rows are to be called (repart.d(5), Label=, UUID=; Discoverable Partitions Specification: the identifiers of a pair are the halves of
-- its root hash).
use Rattle.std.specs.Prelude.{ℕ, List, take, drop, filter_map, Option, None, unwrap_or, option_map, option_and_then}
use Rattle.std.specs.List.{enumerate_from}
use Rattle.std.specs.Option.{option_or}
use Rattle.rp_base.specs.declared.guid.Guid.{Guid}
use Rattle.rp_types.specs.Types.{label_of}
use Rattle.rp_ident.specs.declared.naming.Naming.{Naming}
use Rattle.rp_defs.specs.declared.definition.Definition.{Definition}
use Rattle.rp_defs.specs.declared.definition.Verity.{Verity}
use Rattle.rp_defs.specs.declared.definition.Verity.TheVariants.{Off, Data, Hash}
use Rattle.rp_sizes.specs.declared.need.Fact.{Fact}
use Rattle.rp_sizes.specs.Needs.{fact_of}
use Rattle.rp_plan.specs.Kept.{place_in}

-- the root hash of the new pair whose data is the definition at this place
abbrev pub root_at : List Fact → ℕ → Option (List ℕ)
root_at facts file = option_and_then (λ (f : Fact). f.root) (fact_of facts file)

-- the identifier that a root hash gives the data, its first half, or the hash of a new pair, its last half
abbrev pub half_id : List Fact → ℕ → Verity → Option Guid
half_id facts file Off = None
half_id facts file (Data partner) = option_map (λ root. record { 0 = take 16 root }) (root_at facts file)
half_id facts file (Hash partner) = option_map (λ root. record { 0 = drop 16 root }) (root_at facts partner)

-- what the row of a definition, given with its place, is to be called, if it has one: it is to have the identifier that is set, or else
-- that of its half
abbrev pub naming_of : List Fact → List (Option ℕ) → ℕ → List ℕ → (ℕ × Definition) → Option Naming
naming_of facts matched rows kept e = option_map (λ row. record {
  row = row;
  file = e.0;
  label = unwrap_or e.1.label (label_of e.1.kind);
  fixed = option_or e.1.id (half_id facts e.0 e.1.verity);
}) (place_in matched rows kept e.0)

-- the same for all definitions
abbrev pub namings_of : List Fact → List (Option ℕ) → ℕ → List ℕ → List Definition → List Naming
namings_of facts matched rows kept defs = filter_map (naming_of facts matched rows kept) (enumerate_from 0 defs)
