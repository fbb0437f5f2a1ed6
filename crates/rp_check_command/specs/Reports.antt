-- What is printed of what an image differs in.
use Rattle.std.specs.Prelude.{ℕ, List, [], ◌∷◌, ◌++◌, Option, Some, None, codes}
use Rattle.std.specs.Fmt.{decimal}
use Rattle.std.specs.List.{flat_map}
use Rattle.rp_difference.specs.declared.difference.Difference.{Difference}
use Rattle.rp_difference.specs.declared.difference.Difference.TheVariants as differences
use Rattle.rp_outcome.specs.Words.{behind_blank}
use Rattle.rp_tree.specs.declared.bad.Bad.{Bad}
use Rattle.rp_tree.specs.declared.bad.Bad.TheVariants as bads
use Rattle.rp_types.specs.Designators.{designator_name}

-- what is wrong of a hash tree; a block by its number in its partition, from 0
abbrev pub bad_words : Bad → List (List ℕ)
bad_words bads.Superblock = codes "superblock" ∷ []
bad_words bads.Top = codes "top" ∷ []
bad_words (bads.Hash block) = codes "hash" ∷ decimal block ∷ []
bad_words (bads.Data block) = codes "data" ∷ decimal block ∷ []

-- what differs; a row by its slot, a hash tree by the designator of its data
abbrev pub difference_words : Difference → List (List ℕ)
difference_words differences.Primary = codes "primary" ∷ []
difference_words differences.Backup = codes "backup" ∷ []
difference_words differences.Mbr = codes "mbr" ∷ []
difference_words differences.Table = codes "table" ∷ []
difference_words (differences.Row slot) = codes "row" ∷ decimal slot ∷ []
difference_words (differences.Tree d bad) = codes "verity" ∷ designator_name d ∷ bad_words bad

-- the line of a difference
unfoldable pub difference_line : Difference → List ℕ
difference_line difference = codes "differs" ++ flat_map behind_blank (difference_words difference) ++ codes "\n"

-- the line of an image that differs in nothing
abbrev pub same_line : List ℕ
same_line = codes "ok\n"

-- what is printed
abbrev pub check_report : Option Difference → List ℕ
check_report None = same_line
check_report (Some difference) = difference_line difference
