-- The rows of an image end within it.
use Rattle.std.proofs.Common.{◌≡◌, ℕ, ◌<◌, ◌≤◌, ◌+◌, ◌*◌, ◌/◌, ◌^◌, Bool, true, false, List, [], ◌∷◌, get_or, Option, Some, None, if◌then◌else◌, inl, inr, arith}
use Rattle.std.specs.Prelude.{All, IfSome, find, option_and_then}
use Rattle.std.proofs.lemmas.List.Elements.{All-head, All-tail}
use Rattle.rp_base.specs.Geometry.{IsSector, sector_units, usable_end}
use Rattle.rp_base.specs.declared.seen.Seen.{Seen}
use Rattle.rp_base.specs.declared.table.Row.{Row}
use Rattle.rp_gpt.specs.Accepted.{IsSeen}
use Rattle.rp_tree.specs.Reads.{end_of, ends_of}
use Rattle.rp_types.specs.declared.arch.Arch.{Arch}
use Rattle.rp_types.specs.declared.arch.Designator.{Designator}
use Rattle.rp_verdict.specs.Rows.{may_be, row_of, tree_of, tree_row}

-- a row that ends within an image of so many units, and within 2^44 bytes
abbrev pub EndsIn : ℕ → Row → Type 0
EndsIn units row = (end_of row ≤ 512 * units) × (row.start + row.size ≤ 2 ^ 35)

-- the units of a row are those of its table's bounds
row_end : (sector units entries last start size : ℕ) → IsSector sector → last < usable_end sector entries (units / sector_units sector)
    → start + size ≤ last + 1 → start + size ≤ units
row_end sector units entries last start size (inl e) below fits = let here = rw e at below in omega (arith, here)
row_end sector units entries last start size (inr e) below fits = let here = rw e at below in omega (arith, here)

rows_end : (seen : Seen) → IsSeen seen.shown.sector seen → All (EndsIn seen.sectors) seen.shown.rows
rows_end seen is = λ k d below.
    let within = row_end seen.shown.sector seen.sectors seen.shown.entries seen.shown.last (get_or seen.shown.rows k d).start
    (get_or seen.shown.rows k d).size is.writable.sector is.in_place.bounded.last (is.in_place.rows.in_bounds k d below).1 in
    let most = is.most in
    (omega (arith, within), omega (arith, within, most))

-- what holds of all holds of the one that is found
found_all : (P : Row → Type 0) (p : Row → Bool) (rows : List Row) → All P rows → IfSome (find p rows) P
found_all P p [] all = tt
found_all P p (row ∷ rows) all = go (p row) (All-head P row rows all) (found_all P p rows (All-tail P row rows all)) where
  go : (t : Bool) → P row → IfSome (find p rows) P → IfSome (if t then Some row else find p rows) P
  go true one more = one
  go false one more = more

-- the row of a designator ends so
pub row_ends : (arch : Arch) (seen : Seen) (d : Designator) → IsSeen seen.shown.sector seen → IfSome (row_of arch seen.shown.rows d) (EndsIn seen.sectors)
unfolding row_of
row_ends arch seen d is = found_all (EndsIn seen.sectors) (may_be arch d) seen.shown.rows (rows_end seen is)

-- so does that of its hash tree
pub tree_ends : (arch : Arch) (seen : Seen) (d : Designator) → IsSeen seen.shown.sector seen → IfSome (tree_row arch seen.shown.rows d) (EndsIn seen.sectors)
unfolding tree_row
tree_ends arch seen d is = go (tree_of d) where
  go : (o : Option Designator) → IfSome (option_and_then (row_of arch seen.shown.rows) o) (EndsIn seen.sectors)
  go None = tt
  go (Some tree) = row_ends arch seen tree is

-- a row that was found is that one
pub found_ends : (units : ℕ) (o : Option Row) (row : Row) → o ≡ Some row → IfSome o (EndsIn units) → EndsIn units row
found_ends units o row e ends = let here : IfSome (Some row) (EndsIn units) = rw e at ends in here

-- two rows end where the later one does
pub both_end : (units : ℕ) (payload hash : Row) → EndsIn units payload → EndsIn units hash → ends_of payload hash ≤ 512 * units
both_end units payload hash a b = omega (arith, a.0, b.0)
