-- The keys of the section [Partition] (repart.d(5)).
use Rattle.std.specs.Prelude.{ℕ, List, [], ◌∷◌, Bool, codes, slice_index_or}
use Rattle.std.specs.List.{list_any, position_or_len}
use Rattle.std.specs.Str.{bytes_eq}

-- the names of the keys, in the order in which they are read; a key's number is its place here
abbrev pub key_names : List (List ℕ)
key_names =
    codes "Type"
    ∷ codes "Label"
    ∷ codes "UUID"
    ∷ codes "Priority"
    ∷ codes "Weight"
    ∷ codes "PaddingWeight"
    ∷ codes "SizeMinBytes"
    ∷ codes "SizeMaxBytes"
    ∷ codes "PaddingMinBytes"
    ∷ codes "PaddingMaxBytes"
    ∷ codes "CopyBlocks"
    ∷ codes "Verity"
    ∷ codes "VerityMatchKey"
    ∷ codes "NoAuto"
    ∷ codes "ReadOnly"
    ∷ codes "GrowFileSystem"
    ∷ codes "FactoryReset"
    ∷ codes "CopyFiles"
    ∷ codes "Encrypt"
    ∷ codes "Flags"
    ∷ codes "Format"
    ∷ codes "MakeDirectories"
    ∷ codes "Minimize"
    ∷ codes "MountPoint"
    ∷ codes "Subvolumes"
    ∷ codes "SplitName"
    ∷ []

-- the number of the key of a name
abbrev pub key_named : List ℕ → ℕ
key_named name = position_or_len (bytes_eq name) key_names

-- the name of the key of a number
unfoldable pub key_name : ℕ → List ℕ
key_name number = slice_index_or key_names number []

-- whether a name is a key's
unfoldable pub is_key : List ℕ → Bool
is_key name = list_any (bytes_eq name) key_names
