-- The units of rows as spans: the first one, and the one behind the last.
use Rattle.std.specs.Prelude.{ℕ, ◌+◌, ◌^◌, ◌≤◌, List, [], ◌∷◌, ⊤}
use Rattle.rp_base.specs.declared.table.Row.{Row}

-- a row has units, and ends within 2^44 bytes
pub record IsSpan (row : Row) : Type 0 where
  pub size : 1 ≤ row.size
  pub fits : row.start + row.size ≤ 2 ^ 35

-- the span of a row
abbrev pub span_of : Row → ℕ × ℕ
span_of row = (row.start, row.start + row.size)

-- each span begins behind the last unit of the one before it, and the first at this unit or behind it
abbrev pub IsChained : ℕ → List (ℕ × ℕ) → Type 0
IsChained low [] = ⊤
IsChained low (span ∷ spans) = (low ≤ span.0) × IsChained span.1 spans
