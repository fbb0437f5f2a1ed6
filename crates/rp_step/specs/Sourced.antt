-- Where the sources of steps are found: own rules.
use Rattle.std.specs.Prelude.{ℕ, List, [], slice_index_or}
use Rattle.rp_io.specs.declared.stored.Stored.{Stored}
use Rattle.rp_fill.specs.Copied.{file_bytes}
use Rattle.rp_steps.specs.Contents.{Sources}

-- the path of this number
abbrev pub path_at : List (List ℕ) → ℕ → List ℕ
path_at paths file = slice_index_or paths file []

-- the sources with these paths, where the files are told
abbrev pub sources_in : List Stored → List (List ℕ) → Sources
sources_in files paths = λ file. file_bytes files (path_at paths file)
