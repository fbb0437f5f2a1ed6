-- The drafts of definitions, before their pairs are known.
use Rattle.std.specs.Prelude.{◌+◌, List, [], ◌∷◌, ◌++◌, Bool, not, ◌==◌, length, map, sum_by, Result, Ok}
use Rattle.rp_types.specs.declared.arch.Arch.{Arch}
use Rattle.rp_files.specs.declared.piece.Piece.{Piece}
use Rattle.rp_defs.specs.declared.draft.Drafts.{Drafts}
use Rattle.rp_defs.specs.declared.fault.DefFault.{DefFault}
use Rattle.rp_defs.specs.Answers.{after, each}
use Rattle.rp_defs.specs.Drafts.{Drafted, drafted_group}
use Rattle.rp_defs.specs.Settings.{groups_of}

-- the drafts, and how many assignments of all are ignored
abbrev pub drafts_from : List Drafted → Drafts
drafts_from all = record { list = map (λ one. one.draft) all; ignored = sum_by (λ one. one.ignored) all }

-- the drafts of the pieces, one for each main file, or the first fault
unfoldable pub drafts_of : Arch → List Piece → Result Drafts DefFault
drafts_of arch pieces = after (each (drafted_group arch) (groups_of pieces)) (λ all. Ok (drafts_from all))

-- drafts with that of one more group of pieces
abbrev pub with_draft : Drafts → Drafted → Drafts
with_draft drafts one = record { list = drafts.list ++ one.draft ∷ []; ignored = drafts.ignored + one.ignored }

abbrev pub with_group : Arch → Drafts → List Piece → Result Drafts DefFault
with_group arch drafts group = after (drafted_group arch group) (λ one. Ok (with_draft drafts one))

-- a drop-in
abbrev pub is_part : Piece → Bool
is_part piece = not (length piece.part == 0)
