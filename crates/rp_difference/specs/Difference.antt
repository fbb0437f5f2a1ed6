-- What an image first differs in from what is planned for it: own rules.
use Rattle.std.specs.Prelude.{ℕ, ◌==◌, ◌≡◌, ◌⊎◌, IfSome, List, Bool, true, false, not, ◌&&◌, nat_le, Option, Some, None, find, option_and_then, option_map, if◌then◌else◌}
use Rattle.std.specs.Option.{option_or}
use Rattle.std.specs.Str.{bytes_eq}
use Rattle.rp_base.specs.declared.plan.Change.{Change}
use Rattle.rp_base.specs.declared.plan.Change.TheVariants.{New, Changed, Same}
use Rattle.rp_base.specs.declared.plan.Note.{Note}
use Rattle.rp_base.specs.declared.plan.Plan.{Plan}
use Rattle.rp_base.specs.declared.seen.Mbr.{Mbr}
use Rattle.rp_base.specs.declared.seen.Mbr.TheVariants as mbrs
use Rattle.rp_base.specs.declared.seen.Seen.{Seen}
use Rattle.rp_base.specs.declared.table.Row.{Row}
use Rattle.rp_base.specs.declared.table.Table.{Table}
use Rattle.rp_difference.specs.declared.difference.Difference.{Difference}
use Rattle.rp_difference.specs.declared.difference.Difference.TheVariants as differences
use Rattle.rp_tree.specs.Checked.{first_bad}
use Rattle.rp_tree.specs.declared.bad.Bad.{Bad}
use Rattle.rp_types.specs.declared.arch.Arch.{Arch}
use Rattle.rp_types.specs.declared.arch.Designator.{Designator}
use Rattle.rp_types.specs.declared.arch.Designator.TheVariants.{Root, Usr}
use Rattle.rp_verdict.specs.Rows.{row_of, tree_row}

-- the MBR isn't the record of the image's size (UEFI 2.10, 5.2.3); one with partitions of another table is left alone
abbrev pub is_stale : Mbr → Bool
is_stale mbrs.Same = false
is_stale mbrs.Differs = true
is_stale mbrs.Foreign = false

-- a table has another disk identifier, or other bounds
abbrev pub is_other_table : Table → Table → Bool
is_other_table shown goal = not (bytes_eq shown.disk.0 goal.disk.0 && (shown.first == goal.first) && (shown.last == goal.last))

-- a row of the goal is new, or changed
abbrev pub is_other_row : Change → Bool
is_other_row New = true
is_other_row Changed = true
is_other_row Same = false

-- the first row of the goal, in slot order, that isn't as the image shows it
abbrev pub other_row : List Note → Option Difference
other_row notes = option_map (λ note. differences.Row note.slot) (find (λ note. is_other_row note.change) notes)

-- what differs first of copies, MBR and table: the primary place hasn't the exact copy of the shown table, the backup place hasn't, the
-- MBR, the goal's identifier or bounds, a row of the goal
unfoldable pub table_difference : Seen → Plan → Option Difference
table_difference seen plan =
    if not seen.primary_same then Some differences.Primary
    else if not seen.backup_same then Some differences.Backup
    else if is_stale seen.mbr then Some differences.Mbr
    else if is_other_table seen.shown plan.goal then Some differences.Table
    else other_row plan.notes

-- what is wrong first of a hash tree over its data; nothing is asked of rows of which one has less than a block of 4,096 bytes
abbrev pub bad_of : List ℕ → Row → Row → Option Bad
bad_of image payload hash = if nat_le 8 payload.size && nat_le 8 hash.size then first_bad image payload hash else None

-- what is wrong first of the hash tree of a designator's data, where both have a row
unfoldable pub tree_difference : List ℕ → Arch → List Row → Designator → Option Difference
tree_difference image arch rows d =
    option_map (differences.Tree d)
    (option_and_then (λ payload. option_and_then (bad_of image payload) (tree_row arch rows d)) (row_of arch rows d))

-- what differs is the hash tree of a designator's data
abbrev pub IsOfTree : Designator → Difference → Type 0
IsOfTree d (differences.Tree other bad) = other ≡ d
IsOfTree d other = ⊥

abbrev pub IsOfTrees : Option Difference → Type 0
IsOfTrees found = IfSome found (λ difference. IsOfTree Root difference ⊎ IsOfTree Usr difference)

-- what is found is what differs of copies, MBR, table and rows, for which nothing more is read of the image; where none of them does, it
-- is of the hash tree of root or of usr, if anything is
abbrev pub BeginsWith : Option Difference → Option Difference → Type 0
BeginsWith (Some first) found = found ≡ Some first
BeginsWith None found = IsOfTrees found

-- what an image, of which this was seen, first differs in from what is planned for it: copies, MBR, table and rows, then the hash tree of
-- root, then that of usr
unfoldable pub difference : List ℕ → Arch → Seen → Plan → Option Difference
difference image arch seen plan =
    option_or (table_difference seen plan)
    (option_or (tree_difference image arch seen.shown.rows Root) (tree_difference image arch seen.shown.rows Usr))
