-- Which row belongs to which definition (systemd-repart(8): existing partitions are matched to definition files by their type, in order).
use Rattle.std.specs.Prelude.{ℕ, ◌≡◌, ◌+◌, Bool, Option, Some, None, List, map, filter, count_by, take, slice_get, is_none, length}
use Rattle.std.specs.List.{enumerate_from}
use Rattle.std.specs.Option.{option_map}
use Rattle.std.specs.Str.{bytes_eq}
use Rattle.rp_base.specs.declared.guid.Guid.{Guid}
use Rattle.rp_base.specs.declared.table.Row.{Row}

-- whether two types are the same
abbrev pub is_kind : Guid → Guid → Bool
is_kind kind other = bytes_eq kind.0 other.0

-- the rows of a type in slot order, each with its place among all rows
abbrev pub rows_of : List Row → Guid → List (ℕ × Row)
rows_of rows kind = filter (λ e. is_kind e.1.kind kind) (enumerate_from 0 rows)

-- how many of the first definitions, given by their types, are of a type
abbrev pub rank_of : List Guid → ℕ → Guid → ℕ
rank_of kinds place kind = count_by (λ k. is_kind k kind) (take place kinds)

-- the place of the row of a definition: the n-th row of a type goes to the n-th definition of that type
abbrev pub match_of : List Row → List Guid → (ℕ × Guid) → Option ℕ
match_of rows kinds e = option_map (λ r. r.0) (slice_get (rows_of rows e.1) (rank_of kinds e.0 e.1))

-- the same for each definition, which are given by their types
abbrev pub matches_of : List Row → List Guid → List (Option ℕ)
matches_of rows kinds = map (match_of rows kinds) (enumerate_from 0 kinds)

-- a definition has a row where their types agree and as many rows of that type stand before the row as definitions of it before the
-- definition
pub record IsMatched (rows : List Row) (kinds : List Guid) (file place : ℕ) : Type 0 where
  pub kind : Guid
  pub row : Row
  pub definition : slice_get kinds file ≡ Some kind
  pub found : slice_get rows place ≡ Some row
  pub same_kind : row.kind ≡ kind
  pub same_rank : rank_of (map (λ (r : Row). r.kind) rows) place kind ≡ rank_of kinds file kind

-- how many of the first definitions have no row
abbrev pub without : List (Option ℕ) → ℕ → ℕ
without matched file = count_by is_none (take file matched)

-- a list of rows to which one was added, in order, for each definition that had none: the first rows have the types that the old ones
-- had, and each other row the type of its definition
pub record IsRefilled (old again : List Row) (kinds : List Guid) : Type 0 where
  pub first : take (length old) (map (λ (r : Row). r.kind) again) ≡ map (λ (r : Row). r.kind) old
  pub more : (file : ℕ) (kind : Guid) → slice_get kinds file ≡ Some kind → slice_get (matches_of old kinds) file ≡ Some None
      → slice_get (map (λ (r : Row). r.kind) again) (length old + without (matches_of old kinds) file) ≡ Some kind
