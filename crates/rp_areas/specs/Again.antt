-- The rows of a table once more rows stand in its areas, each with its padding.
use Rattle.std.specs.Prelude.{ℕ, ◌≡◌, ◌≤◌, ◌+◌, ◌-◌, ◌*◌, Option, Some, None, IfSome, IsOk, List, [], ◌∷◌, All, Contains}
use Rattle.rp_base.specs.declared.table.Table.{Table}
use Rattle.rp_base.specs.declared.want.Want.{Want}
use Rattle.rp_base.specs.Table.{IsLaidOut}
use Rattle.rp_areas.specs.declared.gaps.Area.{Area}
use Rattle.rp_areas.specs.declared.extents.Extent.{Extent}
use Rattle.rp_areas.specs.Areas.{area_before, area_behind, areas_of, by_start, extents_of, grains_up, limit_of, used_of, want_at}

-- a row in an area, an anchor or a new one: its definition, its units of 512 bytes, and the grains of padding behind its whole grains
pub record Piece : Type 0 where
  pub file : ℕ
  pub units : ℕ
  pub pad : ℕ

-- the grains that pieces take with their paddings
abbrev pub total : List Piece → ℕ
total [] = 0
total (p ∷ ps) = grains_up p.units + p.pad + total ps

-- a piece as a row from a grain on
abbrev pub row_at : ℕ → Piece → Extent
row_at from p = record { start = 8 * from; size = p.units; file = Some p.file }

-- pieces from a grain on, each behind the padding of the one before it, and then other rows
abbrev pub stacked : ℕ → List Piece → List Extent → List Extent
stacked from [] rest = rest
stacked from (p ∷ ps) rest = row_at from p ∷ stacked (from + grains_up p.units + p.pad) ps rest

-- a row, the pieces in the area behind it, and then other rows; an anchor is the first piece itself
abbrev pub woven_at : Option ℕ → ℕ → Extent → List Piece → List Extent → List Extent
woven_at None from e ps rest = e ∷ stacked from ps rest
woven_at (Some file) from e ps rest = stacked from ps rest

-- the same for each row and the area behind it
abbrev pub woven : ℕ → List Want → List Extent → List (List Piece) → List Extent
woven last wants [] stacks = []
woven last wants (e ∷ es) [] = e ∷ es
woven last wants (e ∷ es) (ps ∷ stacks) =
    woven_at (area_behind wants (limit_of last es) e).anchor (area_behind wants (limit_of last es) e).from e ps (woven last wants es stacks)

-- a piece keeps to what its definition asks for
pub record IsPiece (wants : List Want) (p : Piece) : Type 0 where
  pub some : 1 ≤ p.units
  pub min : (want_at wants p.file).min ≤ grains_up p.units
  pub pad_min : (want_at wants p.file).pad_min ≤ p.pad

-- pieces that fit an area, the first of which is its anchor where it has one
pub record IsStack (wants : List Want) (area : Area) (ps : List Piece) : Type 0 where
  pub fits : total ps ≤ area.span
  pub each : All (IsPiece wants) ps
  pub anchor : IfSome area.anchor (λ file. (p : Piece) × (qs : List Piece) × (ps ≡ p ∷ qs) × (p.file ≡ file))

-- there is a stack for the area behind each row
abbrev pub AreStacks : ℕ → List Want → List Extent → List (List Piece) → Type 0
AreStacks last wants [] stacks = Unit {0}
AreStacks last wants (e ∷ es) [] = ⊥
AreStacks last wants (e ∷ es) (ps ∷ stacks) = IsStack wants (area_behind wants (limit_of last es) e) ps × AreStacks last wants es stacks

-- where the area of the row before pieces ends: at the first of them, or else where theirs ends
abbrev pub up_to : ℕ → List Piece → ℕ → ℕ
up_to from [] limit = limit
up_to from (p ∷ ps) limit = from

-- the areas of pieces from a grain on: each is an anchor, and its area ends at the next, the last one's at the limit
abbrev pub areas_of_pieces : List Want → ℕ → ℕ → List Piece → List Area → List Area
areas_of_pieces wants limit from [] rest = rest
areas_of_pieces wants limit from (p ∷ ps) rest =
    let next = from + grains_up p.units + p.pad in
    record {
      from = from;
      span = up_to next ps limit - from;
      anchor = Some p.file;
      used = used_of (want_at wants p.file) (row_at from p);
    } ∷ areas_of_pieces wants limit next ps rest

-- the areas behind a row, by its anchor, and behind the pieces in the area that was behind it
abbrev pub areas_with : List Want → ℕ → Option ℕ → ℕ → List Piece → List Area → List Area
areas_with wants limit None from ps rest = record {
  from = from;
  span = up_to from ps limit - from;
  anchor = None;
  used = 0;
} ∷ areas_of_pieces wants limit from ps rest
areas_with wants limit (Some file) from ps rest = areas_of_pieces wants limit from ps rest

-- the same for each row
abbrev pub areas_again : ℕ → List Want → List Extent → List (List Piece) → List Area
areas_again last wants [] stacks = []
areas_again last wants (e ∷ es) [] = []
areas_again last wants (e ∷ es) (ps ∷ stacks) = areas_with wants (limit_of last es) (area_behind wants (limit_of last es) e).anchor
    (area_behind wants (limit_of last es) e).from ps (areas_again last wants es stacks)

-- the rows of a table by rising start
abbrev pub rows_by_start : Table → List (Option ℕ) → List Extent
rows_by_start table matched = by_start (extents_of table.rows matched)

-- and those with pieces in the areas
abbrev pub rows_again : Table → ℕ → List (Option ℕ) → List Want → List Piece → List (List Piece) → List Extent
rows_again table last matched wants before stacks = stacked (grains_up table.first) before
    (woven last wants (rows_by_start table matched) stacks)

-- each of the one stands in the other
abbrev pub AreAmong : List Extent → List Extent → Type 0
AreAmong es others = (e : Extent) → Contains es e → Contains others e

-- a laid out table has the rows of another, none of which was refused, with pieces that fit in the areas
pub record IsFilled (table again : Table) (last : ℕ) (matched rematched : List (Option ℕ)) (wants : List Want) (before : List Piece)
    (stacks : List (List Piece)) : Type 0 where
  pub kept : IsOk (areas_of table last matched wants)
  pub old : IsLaidOut table
  pub laid_out : IsLaidOut again
  pub first : again.first ≡ table.first
  pub first_stack : IsStack wants (area_before table.first last (rows_by_start table matched)) before
  pub other_stacks : AreStacks last wants (rows_by_start table matched) stacks
  pub rows : AreAmong (extents_of again.rows rematched) (rows_again table last matched wants before stacks)
  pub all : AreAmong (rows_again table last matched wants before stacks) (extents_of again.rows rematched)

-- the areas of that table: nothing is used before the first row; each piece is an anchor, and its area ends at the next row or piece
abbrev pub areas_filled : Table → ℕ → List (Option ℕ) → List Want → List Piece → List (List Piece) → List Area
areas_filled table last matched wants before stacks =
    let from = grains_up table.first in
    let limit = limit_of last (rows_by_start table matched) in
    record { from = from; span = up_to from before limit - from; anchor = None; used = 0 }
    ∷ areas_of_pieces wants limit from before (areas_again last wants (rows_by_start table matched) stacks)
