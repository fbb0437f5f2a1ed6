-- Where the sources of steps are found: own rules.
use Rattle.std.specs.Prelude.{ℕ, ◌≡◌, List, [], Some, IfSome, IsSome, map, slice_get, unwrap_or}
use Rattle.rp_base.specs.declared.plan.Note.{Note}
use Rattle.rp_defs.specs.declared.definition.Definition.{Definition}

-- the path of a definition's source, empty where it has none
abbrev pub path_in : Definition → List ℕ
path_in definition = unwrap_or definition.source []

-- those of definitions
abbrev pub paths_of : List Definition → List (List ℕ)
paths_of defs = map path_in defs

-- a note with a source names a definition that has one
abbrev pub NamesSource : List Definition → Note → Type 0
NamesSource defs note = IfSome note.source (λ bytes. IfSome note.file (λ file.
    (definition : Definition) × (slice_get defs file ≡ Some definition) × IsSome definition.source))
