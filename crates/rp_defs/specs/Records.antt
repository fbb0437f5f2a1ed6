-- Definitions as records (repart.d(5)): what the pieces of definition files say.
use Rattle.std.specs.Prelude.{List, Result, Ok, map, sum_by}
use Rattle.rp_types.specs.declared.arch.Arch.{Arch}
use Rattle.rp_files.specs.declared.piece.Piece.{Piece}
use Rattle.rp_defs.specs.declared.definition.Definitions.{Definitions}
use Rattle.rp_defs.specs.declared.fault.DefFault.{DefFault}
use Rattle.rp_defs.specs.Answers.{after, each}
use Rattle.rp_defs.specs.Halves.{paired}
use Rattle.rp_defs.specs.Settings.{groups_of}
use Rattle.rp_defs.specs.Stated.{stated}

-- the definitions of the pieces, one for each main file, and how many assignments are ignored; or the first fault: by definitions in
-- order, then those of pairs
unfoldable pub records : Arch → List Piece → Result Definitions DefFault
records arch pieces =
    after (each (stated arch) (groups_of pieces)) (λ all.
    after (paired (map (λ one. one.0) all)) (λ list.
    Ok (record { list = list; ignored = sum_by (λ one. one.1) all })))
