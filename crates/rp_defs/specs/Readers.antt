-- The keys as the code has them: each with how its value is read, by number.
use Rattle.std.specs.Prelude.{ℕ, List, [], ◌∷◌, codes, slice_index_or}
use Rattle.rp_defs.specs.declared.keys.Key.{Key}
use Rattle.rp_defs.specs.declared.keys.Key.TheVariants as key
use Rattle.rp_defs.specs.declared.keys.Reader.{Reader}
use Rattle.rp_defs.specs.declared.keys.Reader.TheVariants as reader

abbrev pub keys : List (List ℕ × Reader)
keys =
    (codes "Type", reader.Type)
    ∷ (codes "Label", reader.Label)
    ∷ (codes "UUID", reader.Id)
    ∷ (codes "Priority", reader.Priority)
    ∷ (codes "Weight", reader.Weight)
    ∷ (codes "PaddingWeight", reader.Weight)
    ∷ (codes "SizeMinBytes", reader.Size)
    ∷ (codes "SizeMaxBytes", reader.Size)
    ∷ (codes "PaddingMinBytes", reader.Size)
    ∷ (codes "PaddingMaxBytes", reader.Size)
    ∷ (codes "CopyBlocks", reader.Path)
    ∷ (codes "Verity", reader.Half)
    ∷ (codes "VerityMatchKey", reader.MatchKey)
    ∷ (codes "NoAuto", reader.Switch)
    ∷ (codes "ReadOnly", reader.Switch)
    ∷ (codes "GrowFileSystem", reader.Switch)
    ∷ (codes "FactoryReset", reader.Switch)
    ∷ (codes "CopyFiles", reader.Refused)
    ∷ (codes "Encrypt", reader.Off)
    ∷ (codes "Flags", reader.Refused)
    ∷ (codes "Format", reader.Refused)
    ∷ (codes "MakeDirectories", reader.Refused)
    ∷ (codes "Minimize", reader.Off)
    ∷ (codes "MountPoint", reader.Refused)
    ∷ (codes "Subvolumes", reader.Refused)
    ∷ (codes "SplitName", reader.SplitName)
    ∷ []

-- how the value of the key of a number is read
unfoldable pub reader_of : ℕ → Reader
reader_of number = (slice_index_or keys number ([], reader.Refused)).1

-- the number of a key as the code has it
abbrev pub number_of : Key → ℕ
number_of key.Type = 0
number_of key.Label = 1
number_of key.Uuid = 2
number_of key.Priority = 3
number_of key.Weight = 4
number_of key.PaddingWeight = 5
number_of key.SizeMinBytes = 6
number_of key.SizeMaxBytes = 7
number_of key.PaddingMinBytes = 8
number_of key.PaddingMaxBytes = 9
number_of key.CopyBlocks = 10
number_of key.Verity = 11
number_of key.VerityMatchKey = 12
number_of key.NoAuto = 13
number_of key.ReadOnly = 14
number_of key.GrowFileSystem = 15
number_of key.FactoryReset = 16
number_of key.CopyFiles = 17
number_of key.Encrypt = 18
number_of key.Flags = 19
number_of key.Format = 20
number_of key.MakeDirectories = 21
number_of key.Minimize = 22
number_of key.MountPoint = 23
number_of key.Subvolumes = 24
number_of key.SplitName = 25
