-- Each area of a table whose areas were filled has an anchor that is shared what it has, or none.
use Rattle.std.proofs.Common.{◌≡◌, ℕ, suc, ◌+◌, ◌-◌, List, [], ◌∷◌, get_or, Option, Some, None, All, arith, refl}
use Rattle.std.specs.Prelude.{Contains, IfSome, map, slice_get}
use Rattle.std.specs.List.{enumerate_from}
use Rattle.std.proofs.lemmas.List.Elements.{All-cons, All-head, All-tail, Contains-get_or}
use Rattle.rp_base.specs.declared.table.Table.{Table}
use Rattle.rp_base.specs.declared.want.Want.{Want}
use Rattle.rp_areas.specs.Again.{AreAmong, Piece, areas_again, areas_filled, areas_of_pieces, areas_with, row_at, rows_again, rows_by_start, stacked, up_to, woven, woven_at}
use Rattle.rp_areas.specs.Areas.{anchor_of, area_behind, areas_behind, grains_up, limit_of, used_of, want_at}
use Rattle.rp_areas.specs.declared.extents.Extent.{Extent}
use Rattle.rp_areas.specs.declared.gaps.Area.{Area}
use Rattle.rp_share.specs.Again.{asked}
use Rattle.rp_share.specs.Value.{shares_of}
use Rattle.rp_layout.specs.Again.{AreIdle}
use Rattle.rp_layout.specs.Seats.{padding_of}

-- a row of these is an anchor, and its share and its padding's of the area's span are what it has
pub record HasAnchor (wants : List Want) (es : List Extent) (area : Area) (file : ℕ) : Type 0 where
  pub piece : Piece
  pub own : piece.file ≡ file
  pub stands : Contains es (row_at area.from piece)
  pub rests : shares_of area.span (asked (grains_up piece.units) (want_at wants file).min (want_at wants file).max
      (want_at wants file).weight
      ∷ padding_of (want_at wants file) ∷ []) ≡ grains_up piece.units ∷ piece.pad ∷ []

-- an area has such an anchor, or none
abbrev pub IsSettled : List Want → List Extent → Area → Type 0
IsSettled wants es area = IfSome area.anchor (HasAnchor wants es area)

module _ (wants : List Want) (es : List Extent) where
  pieces_settled : (limit from : ℕ) (ps : List Piece) (rest : List Extent) (areas : List Area) → AreIdle wants limit from ps
      → All (Contains es) (stacked from ps rest) → All (IsSettled wants es) areas
      → All (IsSettled wants es) (areas_of_pieces wants limit from ps areas)
  pieces_settled limit from [] rest areas idle stand all = all
  pieces_settled limit from (p ∷ ps) rest areas idle stand all =
      let next : ℕ = from + grains_up p.units + p.pad in
      let area : Area = record {
        from = from;
        span = up_to next ps limit - from;
        anchor = Some p.file;
        used = used_of
            (want_at wants p.file) (row_at from p);
      } in
      All-cons (IsSettled wants es) area (areas_of_pieces wants limit next ps areas)
      (record {
        piece = p;
        own = refl;
        stands = All-head (Contains es) (row_at from p) (stacked next ps rest) stand;
        rests = idle.0;
      })
      (pieces_settled limit next ps rest areas idle.1 (All-tail (Contains es) (row_at from p) (stacked next ps rest) stand) all)

  others_stand : (from : ℕ) (ps : List Piece) (rest : List Extent) → All (Contains es) (stacked from ps rest) → All (Contains es) rest
  others_stand from [] rest stand = stand
  others_stand from (p ∷ ps) rest stand =
      others_stand (from + grains_up p.units + p.pad) ps rest
      (All-tail (Contains es) (row_at from p) (stacked (from + grains_up p.units + p.pad) ps rest) stand)

  with_settled : (limit : ℕ) (anchor : Option ℕ) (from : ℕ) (e : Extent) (ps : List Piece) (rest : List Extent) (areas : List Area)
      → AreIdle wants limit from ps → All (Contains es) (woven_at anchor from e ps rest) → All (IsSettled wants es) areas
      → All (IsSettled wants es) (areas_with wants limit anchor from ps areas)
  with_settled limit None from e ps rest areas idle stand all =
      All-cons (IsSettled wants es) (record { from = from; span = up_to from ps limit - from; anchor = None; used = 0 })
      (areas_of_pieces wants limit from ps areas) tt
      (pieces_settled limit from ps rest areas idle (All-tail (Contains es) e (stacked from ps rest) stand) all)
  with_settled limit (Some file) from e ps rest areas idle stand all = pieces_settled limit from ps rest areas idle stand all

  rest_stand : (anchor : Option ℕ) (from : ℕ) (e : Extent) (ps : List Piece) (rest : List Extent)
      → All (Contains es) (woven_at anchor from e ps rest) → All (Contains es) rest
  rest_stand None from e ps rest stand = others_stand from ps rest (All-tail (Contains es) e (stacked from ps rest) stand)
  rest_stand (Some file) from e ps rest stand = others_stand from ps rest stand

  -- the pieces behind each row are shared what they have
  abbrev pub AllIdle : ℕ → List Extent → List (List Piece) → Type 0
  AllIdle last [] stacks = Unit {0}
  AllIdle last (e ∷ rows) [] = Unit {0}
  AllIdle last (e ∷ rows) (ps ∷ stacks) =
      AreIdle wants (limit_of last rows) (area_behind wants (limit_of last rows) e).from ps × AllIdle last rows stacks

  woven_settled : (last : ℕ) (rows : List Extent) (stacks : List (List Piece)) → AllIdle last rows stacks
      → All (Contains es) (woven last wants rows stacks) → All (IsSettled wants es) (areas_again last wants rows stacks)
  woven_settled last [] stacks idle stand = λ k d below. absurd (omega (arith, below))
  woven_settled last (e ∷ rows) [] idle stand = λ k d below. absurd (omega (arith, below))
  woven_settled last (e ∷ rows) (ps ∷ stacks) idle stand =
      let area : Area = area_behind wants (limit_of last rows) e in
      with_settled (limit_of last rows) area.anchor area.from e ps (woven last wants rows stacks) (areas_again last wants rows stacks)
      idle.0 stand
      (woven_settled last rows stacks idle.1 (rest_stand area.anchor area.from e ps (woven last wants rows stacks) stand))

  -- the areas of a filled table are settled
  pub filled_settled : (table : Table) (last : ℕ) (matched : List (Option ℕ)) (before : List Piece) (stacks : List (List Piece))
      → AreIdle wants (limit_of last (rows_by_start table matched)) (grains_up table.first) before
      → AllIdle last (rows_by_start table matched) stacks → AreAmong (rows_again table last matched wants before stacks) es
      → All (IsSettled wants es) (areas_filled table last matched wants before stacks)
  filled_settled table last matched before stacks first idle among =
      let rows : List Extent = rows_by_start table matched in
      let all : List Extent = stacked (grains_up table.first) before (woven last wants rows stacks) in
      let stand : All (Contains es) all = λ k d below. among (get_or all k d) (Contains-get_or all k d below) in
      All-cons (IsSettled wants es)
      (record {
        from = grains_up table.first;
        span = up_to (grains_up table.first) before (limit_of last rows) - grains_up table.first;
        anchor = None;
        used = 0;
      })
      (areas_of_pieces wants (limit_of last rows) (grains_up table.first) before (areas_again last wants rows stacks)) tt
      (pieces_settled (limit_of last rows) (grains_up table.first) before (woven last wants rows stacks)
      (areas_again last wants rows stacks) first stand
      (woven_settled last rows stacks idle (others_stand (grains_up table.first) before (woven last wants rows stacks) stand)))

-- the span of the area behind a row reaches to its limit
span_by : (wants : List Want) (limit : ℕ) (e : Extent) (o : Option ℕ) → anchor_of limit e ≡ o
    → (area_behind wants limit e).span ≡ limit - (area_behind wants limit e).from
span_by wants limit e None is = rw is refl
span_by wants limit e (Some file) is = rw is refl

pub span_is : (wants : List Want) (limit : ℕ) (e : Extent) → (area_behind wants limit e).span ≡ limit - (area_behind wants limit e).from
span_is wants limit e = span_by wants limit e (anchor_of limit e) refl

-- stacks made for the areas behind rows, which are each shared what they have
pub all_idle : (wants : List Want) (es : List Extent) (last : ℕ) (stack : ℕ × Area → List Piece) (n : ℕ) (rows : List Extent)
    → ((j i : ℕ) (a : Area) (limit : ℕ) → i ≡ n + j → slice_get (areas_behind last wants rows) j ≡ Some a → a.span ≡ limit - a.from
    → AreIdle wants limit a.from (stack (i, a)))
    → AllIdle wants es last rows (map stack (enumerate_from n (areas_behind last wants rows)))
all_idle wants es last stack n [] idle = tt
all_idle wants es last stack n (e ∷ rows) idle = (
  idle 0 n (area_behind wants (limit_of last rows) e) (limit_of last rows) (omega arith) refl (span_is wants (limit_of last rows) e),
  all_idle wants es last stack (n + 1) rows (λ j i a limit at here is. idle (suc j) i a limit (omega (arith, at)) here is),
)
