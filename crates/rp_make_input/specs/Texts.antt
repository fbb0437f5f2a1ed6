-- The definition files that are made from a number: own rules, in the format of repart.d(5).
use Rattle.std.specs.Prelude.{ℕ, zero, suc, ◌+◌, ◌*◌, ◌/◌, ◌%◌, List, [], ◌∷◌, ◌++◌, codes}
use Rattle.std.specs.Fmt.{decimal}
use Rattle.rp_io.specs.declared.stored.Stored.{Stored}

-- a file with this path and text
abbrev pub file_of : List ℕ → List ℕ → Stored
file_of path text = record { path = path; bytes = text }

-- the file of the partition at a place, which has the three last digits of it
unfoldable pub part_path : ℕ → List ℕ
part_path i = codes "make/part-" ++ decimal (i / 100) ++ decimal (i / 10 % 10) ++ decimal (i % 10) ++ codes ".conf"

-- it has at least 1 to 7 MiB, and a weight of 100 to 470
unfoldable pub part_text : ℕ → List ℕ
part_text i =
    codes "[Partition]\nType=linux-generic\nSizeMinBytes=" ++ decimal (1 + i % 7)
    ++ codes "M\nWeight=" ++ decimal (100 + 37 * (i % 11)) ++ codes "\n"

abbrev pub part_file : ℕ → Stored
part_file i = file_of (part_path i) (part_text i)

-- the first partitions, as many as this
abbrev pub part_files : ℕ → List Stored
part_files zero = []
part_files (suc count) = part_files count ++ part_file count ∷ []

-- a root file system that is copied from the source, and its hash tree
abbrev pub root_file : Stored
root_file = file_of (codes "make/root.conf") (codes "[Partition]\nType=root\nVerity=data\nVerityMatchKey=m\nCopyBlocks=make.raw\n")

abbrev pub root_hash_file : Stored
root_hash_file = file_of (codes "make/root-hash.conf") (codes "[Partition]\nType=root-verity\nVerity=hash\nVerityMatchKey=m\n")

-- the definition files of a number: as many partitions, and the pair
abbrev pub definition_files : ℕ → List Stored
definition_files number = part_files number ++ root_file ∷ root_hash_file ∷ []
