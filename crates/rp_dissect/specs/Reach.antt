-- How far rows reach: serves this crate's proofs.
use Rattle.std.specs.Prelude.{ℕ, ◌≤◌, ◌+◌, ◌^◌, List, [], ◌∷◌, Option, Some, None, max}
use Rattle.rp_base.specs.declared.table.Row.{Row}
use Rattle.rp_tree.specs.Reads.{end_of, ends_of}

-- the byte behind the last one of a row and of its hash tree
abbrev pub ends_with : Row → Option Row → ℕ
ends_with row None = end_of row
ends_with row (Some hash) = ends_of row hash

-- the byte behind the last one of all rows
abbrev pub farthest : List Row → ℕ
farthest [] = 0
farthest (row ∷ rows) = max (end_of row) (farthest rows)

-- rows end within 2^44 bytes
abbrev pub EndsWell : Row → Type 0
EndsWell row = row.start + row.size ≤ 2 ^ 35
