-- Rows that were found reach no farther than all.
use Rattle.std.proofs.Common.{ℕ, ◌≤◌, Bool, true, false, List, [], ◌∷◌, Option, Some, None, if◌then◌else◌, arith}
use Rattle.std.specs.Prelude.{All, IfSome, find, option_and_then}
use Rattle.std.proofs.lemmas.List.Elements.{All-head, All-tail}
use Rattle.rp_base.specs.declared.table.Row.{Row}
use Rattle.rp_tree.specs.Reads.{end_of}
use Rattle.rp_types.specs.declared.arch.Arch.{Arch}
use Rattle.rp_types.specs.declared.arch.Designator.{Designator}
use Rattle.rp_verdict.specs.Rows.{may_be, row_of, tree_of, tree_row}
use Rattle.rp_dissect.specs.Reach.{EndsWell, ends_with, farthest}

-- a row that ends well and no farther than all
abbrev pub IsAmong : List Row → Row → Type 0
IsAmong rows row = EndsWell row × (end_of row ≤ farthest rows)

among_more : (row : Row) (rows : List Row) (o : Option Row) → IfSome o (IsAmong rows) → IfSome o (IsAmong (row ∷ rows))
among_more row rows None among = tt
among_more row rows (Some found) among = (among.0, omega arith)

-- a first row, or one behind it
found_among : (p : Row → Bool) (rows : List Row) → All EndsWell rows → IfSome (find p rows) (IsAmong rows)
found_among p [] all = tt
found_among p (row ∷ rows) all =
    go (p row) (All-head EndsWell row rows all) (among_more row rows (find p rows) (found_among p rows (All-tail EndsWell row rows all))) where
      go : (t : Bool) → EndsWell row → IfSome (find p rows) (IsAmong (row ∷ rows)) → IfSome (if t then Some row else find p rows) (IsAmong (row ∷ rows))
      go true well more = (well, omega arith)
      go false well more = more

-- the row of a designator is among the rows
pub row_among : (arch : Arch) (rows : List Row) (d : Designator) → All EndsWell rows → IfSome (row_of arch rows d) (IsAmong rows)
unfolding row_of
row_among arch rows d all = found_among (may_be arch d) rows all

-- so is that of its hash tree
pub tree_among : (arch : Arch) (rows : List Row) (d : Designator) → All EndsWell rows → IfSome (tree_row arch rows d) (IsAmong rows)
unfolding tree_row
tree_among arch rows d all = go (tree_of d) where
  go : (o : Option Designator) → IfSome (option_and_then (row_of arch rows) o) (IsAmong rows)
  go None = tt
  go (Some tree) = row_among arch rows tree all

-- rows that end within so many bytes reach no farther
pub farthest_within : (n : ℕ) (rows : List Row) → All (λ row. end_of row ≤ n) rows → farthest rows ≤ n
farthest_within n [] all = omega arith
farthest_within n (row ∷ rows) all =
    let first = All-head (λ row. end_of row ≤ n) row rows all in
    let rest = farthest_within n rows (All-tail (λ row. end_of row ≤ n) row rows all) in
    omega (arith, first, rest)

pub well_of : (rows : List Row) (o : Option Row) → IfSome o (IsAmong rows) → IfSome o EndsWell
well_of rows None among = tt
well_of rows (Some row) among = among.0

-- a row with its tree reaches behind the row
pub ends_behind : (row : Row) (tree : Option Row) → end_of row ≤ ends_with row tree
ends_behind row None = omega arith
ends_behind row (Some hash) = omega arith

-- a row with its tree reaches no farther
pub ends_among : (rows : List Row) (row : Row) (tree : Option Row) → IsAmong rows row → IfSome tree (IsAmong rows)
    → ends_with row tree ≤ farthest rows
ends_among rows row None among tree = among.1
ends_among rows row (Some hash) among tree = omega (arith, among.1, tree.1)
