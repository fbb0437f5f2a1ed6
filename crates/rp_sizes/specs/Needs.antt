-- Which definitions have no row yet, and what has to be known of their sources (systemd-repart(8); repart.d(5), CopyBlocks=).
use Rattle.std.specs.Prelude.{ℕ, ◌≡◌, ◌==◌, ◌&&◌, Bool, false, List, map, filter_map, find, Option, Some, None, is_some, is_none, slice_index_or, if◌then◌else◌}
use Rattle.std.specs.List.{enumerate_from}
use Rattle.std.specs.Option.{option_map_or}
use Rattle.rp_base.specs.declared.guid.Guid.{Guid}
use Rattle.rp_base.specs.declared.table.Table.{Table}
use Rattle.rp_areas.specs.Matching.{matches_of}
use Rattle.rp_defs.specs.declared.definition.Definition.{Definition}
use Rattle.rp_defs.specs.declared.definition.Verity.{Verity}
use Rattle.rp_defs.specs.declared.definition.Verity.TheVariants.{Data}
use Rattle.rp_sizes.specs.declared.need.Need.{Need}
use Rattle.rp_sizes.specs.declared.need.Fact.{Fact}

-- the types of definitions
abbrev pub kinds_of : List Definition → List Guid
kinds_of defs = map (λ (d : Definition). d.kind) defs

-- the place of the row that each definition has in a table
abbrev pub matched_of : Table → List Definition → List (Option ℕ)
matched_of table defs = matches_of table.rows (kinds_of defs)

-- the definition at this place has no row
abbrev pub is_new : List (Option ℕ) → ℕ → Bool
is_new matched file = is_none (slice_index_or matched file None)

-- the data of a pair whose hash has no row
abbrev pub is_new_data : List (Option ℕ) → Verity → Bool
is_new_data matched (Data partner) = is_new matched partner
is_new_data matched other = false

-- a definition, given with its place, that has no row and whose source is wanted: as the data of a pair where neither half has a row
abbrev pub need_of : List (Option ℕ) → (ℕ × Definition) → Option Need
need_of matched e =
    if is_new matched e.0 && is_some e.1.source
    then Some (record { file = e.0; pair = is_new_data matched e.1.verity })
    else None

-- what is wanted where each definition has the row that is given
abbrev pub needs_of : List (Option ℕ) → List Definition → List Need
needs_of matched defs = filter_map (need_of matched) (enumerate_from 0 defs)

-- the sources that are wanted, in the order of the definitions
abbrev pub wanted_of : Table → List Definition → List Need
wanted_of table defs = needs_of (matched_of table defs) defs

-- these are facts on these needs, in order: each has a root hash where the need is that of a pair
pub record AreFactsOn (needs : List Need) (facts : List Fact) : Type 0 where
  pub files : map (λ (f : Fact). f.file) facts ≡ map (λ (n : Need). n.file) needs
  pub roots : map (λ (f : Fact). is_some f.root) facts ≡ map (λ (n : Need). n.pair) needs

-- the fact on the source of the definition at this place
abbrev pub fact_of : List Fact → ℕ → Option Fact
fact_of facts file = find (λ f. f.file == file) facts

-- the bytes of its source, 0 where it has none
abbrev pub len_of : List Fact → ℕ → ℕ
len_of facts file = option_map_or (λ (f : Fact). f.len) (fact_of facts file) 0
