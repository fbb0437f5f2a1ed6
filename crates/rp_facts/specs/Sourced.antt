-- What wanted sources hold, where they are told.
use Rattle.std.specs.Prelude.{ℕ, ◌≡◌, ◌⊎◌, List, All, Any, Option, Some, None, IsSome, Result, Err, length, map, filter_map, option_map, option_and_then, slice_get}
use Rattle.rp_base.specs.declared.guid.Guid.{Guid}
use Rattle.rp_defs.specs.declared.definition.Definition.{Definition}
use Rattle.rp_facts.specs.declared.fault.FactFault.{FactFault}
use Rattle.rp_facts.specs.declared.fault.FactFault.TheVariants.{SourceFault}
use Rattle.rp_io.specs.Files.{content}
use Rattle.rp_io.specs.declared.stored.Stored.{Stored}
use Rattle.rp_sizes.specs.Facts.{fact_from, root_of, source_of}
use Rattle.rp_sizes.specs.declared.need.Fact.{Fact}
use Rattle.rp_sizes.specs.declared.need.Need.{Need}

-- a need is that of a definition of the list that has a source
abbrev pub IsSourced : List Definition → Need → Type 0
IsSourced list need = (definition : Definition) × (slice_get list need.file ≡ Some definition) × IsSome definition.source

-- the bytes of a definition's source, none where its path isn't there
abbrev pub bytes_of : List Stored → Definition → Option (List ℕ)
bytes_of files definition = option_and_then (content files) definition.source

-- those of a need
abbrev pub bytes_at : List Stored → List Definition → Need → Option (List ℕ)
bytes_at files list need = option_and_then (bytes_of files) (slice_get list need.file)

-- what is known of the source of a need, and of those of these needs
abbrev pub fact_on : Guid → List Stored → List Definition → Need → Option Fact
fact_on seed files list need = option_map (fact_from seed files need) (slice_get list need.file)

abbrev pub facts_on : Guid → List Stored → List Definition → List Need → List Fact
facts_on seed files list needs = filter_map (fact_on seed files list) needs

-- the root hash over the source of a need
abbrev pub root_on : Guid → List Stored → List Definition → Need → Option (List ℕ)
root_on seed files list need = option_map (λ (definition : Definition). root_of seed definition (source_of files definition))
    (slice_get list need.file)

-- so many bytes has the source of a need, and so many have those of these needs
abbrev pub IsLength : List Stored → List Definition → Need → ℕ → Type 0
IsLength files list need len = option_map length (bytes_at files list need) ≡ Some len

abbrev pub AreLengths : List Stored → List Definition → List Need → List ℕ → Type 0
AreLengths files list needs lens = map (λ need. option_map length (bytes_at files list need)) needs ≡ map Some lens

-- the source of each of these needs is there
abbrev pub AreThere : List Stored → List Definition → List Need → Type 0
AreThere files list needs = All (λ need. IsSome (bytes_at files list need)) needs

-- the source of a need isn't there
abbrev pub IsMissing : List Stored → List Definition → Need → Type 0
IsMissing files list need = bytes_at files list need ≡ None

-- no call reaches for what isn't there, but one that asks for a wanted source that isn't; it fails
abbrev pub StraysAtMissing : {T : Type 0} → List Stored → List Definition → List Need → ℕ → ℕ → Result T FactFault → Type 0
StraysAtMissing files list needs before now result =
    (now ≡ before) ⊎ ((result ≡ Err SourceFault) × Any (IsMissing files list) needs)
