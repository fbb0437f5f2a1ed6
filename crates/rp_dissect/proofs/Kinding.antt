-- The protections of a row, case by case.
use Rattle.std.proofs.Common.{◌≡◌, ℕ, ◌<◌, ◌≤◌, List, true, false, Option, Some, None, refl, arith}
use Rattle.rp_base.specs.declared.table.Row.{Row}
use Rattle.rp_types.specs.declared.arch.Arch.{Arch}
use Rattle.rp_types.specs.declared.arch.Designator.{Designator}
use Rattle.rp_verdict.specs.Rows.{row_of, tree_row}
use Rattle.rp_dissect.specs.Kinds.{found_as, found_of, has_tree, is_luks, kinds_of}

pub kinds-small : (image : List ℕ) (row : Row) (tree : Option Row) → row.size < 8 → kinds_of image row tree ≡ 8
unfolding kinds_of
kinds-small image row tree small = grind arith

pub kinds-luks : (image : List ℕ) (row : Row) (tree : Option Row) → 8 ≤ row.size → is_luks image row ≡ true → kinds_of image row tree ≡ 4
unfolding kinds_of
kinds-luks image row tree whole luks = grind arith

pub kinds-tree : (image : List ℕ) (row : Row) (tree : Option Row) → 8 ≤ row.size → is_luks image row ≡ false → has_tree image row tree ≡ true
    → kinds_of image row tree ≡ 9
unfolding kinds_of
kinds-tree image row tree whole luks right = rw (luks, right) (grind arith)

pub kinds-plain : (image : List ℕ) (row : Row) (tree : Option Row) → 8 ≤ row.size → is_luks image row ≡ false → has_tree image row tree ≡ false
    → kinds_of image row tree ≡ 8
unfolding kinds_of
kinds-plain image row tree whole luks wrong = rw (luks, wrong) (grind arith)

-- nothing is found where there is no row
pub found-none : (image : List ℕ) (arch : Arch) (rows : List Row) (d : Designator) → row_of arch rows d ≡ None → found_of image arch rows d ≡ None
unfolding found_of
found-none image arch rows d none = rw none refl

pub found-some : (image : List ℕ) (arch : Arch) (rows : List Row) (d : Designator) (row : Row) → row_of arch rows d ≡ Some row
    → found_of image arch rows d ≡ Some (found_as row (kinds_of image row (tree_row arch rows d)))
unfolding found_of
found-some image arch rows d row some = rw some refl
