-- The calls of the examples.
use Rattle.std.specs.Prelude.{ℕ, zero, suc, List, [], ◌∷◌, ◌++◌, ◌+◌, ◌*◌, length}
use Rattle.rp_disk.specs.declared.call.Call.{Call}
use Rattle.rp_disk.specs.declared.call.Call.TheVariants.{Write, Sync}

-- two writes of the same bytes, each settled by a sync
abbrev pub two_writes : ℕ → ℕ → List ℕ → List Call
two_writes first second bytes = Write first bytes ∷ Sync ∷ Write second bytes ∷ Sync ∷ []

-- this many writes of the same bytes, one behind the other
abbrev pub row_of : ℕ → ℕ → List ℕ → List Call
row_of at zero bytes = []
row_of at (suc count) bytes = row_of at count bytes ++ Write (at + count * length bytes) bytes ∷ []

-- the same, settled by a sync
abbrev pub settled_row : ℕ → ℕ → List ℕ → List Call
settled_row at count bytes = row_of at count bytes ++ Sync ∷ []
