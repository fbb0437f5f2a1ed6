-- What is found of a designator: the protections of its row, and its state.
use Rattle.std.specs.Prelude.{ℕ, ◌*◌, List, [], ◌∷◌, Bool, false, ◌&&◌, nat_lt, nat_le, Option, option_map, if◌then◌else◌}
use Rattle.std.specs.Option.{option_map_or}
use Rattle.std.specs.Str.{bytes_eq}
use Rattle.rp_base.specs.Image.{bytes_at}
use Rattle.rp_base.specs.declared.table.Row.{Row}
use Rattle.rp_policy.specs.Flags.{has}
use Rattle.rp_policy.specs.declared.judging.Found.{Found}
use Rattle.rp_tree.specs.Checked.{has_root}
use Rattle.rp_types.specs.Table.{grow_file_system, read_only}
use Rattle.rp_types.specs.declared.arch.Arch.{Arch}
use Rattle.rp_types.specs.declared.arch.Designator.{Designator}
use Rattle.rp_verdict.specs.Rows.{row_of, tree_row}

-- the first bytes of an encrypted volume (LUKS2 On-Disk Format, 2.1)
abbrev pub luks_magic : List ℕ
luks_magic = 0x4c ∷ 0x55 ∷ 0x4b ∷ 0x53 ∷ 0xba ∷ 0xbe ∷ []

-- a row begins as an encrypted volume
unfoldable pub is_luks : List ℕ → Row → Bool
is_luks image row = bytes_eq (bytes_at image (512 * row.start) 6) luks_magic

-- there is a hash tree of a block at least, whose superblock and root are right for a row
abbrev pub has_tree : List ℕ → Row → Option Row → Bool
has_tree image row tree = option_map_or (λ hash. nat_le 8 hash.size && has_root image row hash) tree false

-- the protections of a row with this hash tree, as flags: encrypted; verity and unprotected; or unprotected alone, as are those
-- of a row of less than a block
unfoldable pub kinds_of : List ℕ → Row → Option Row → ℕ
kinds_of image row tree =
    if nat_lt row.size 8 then 8
    else if is_luks image row then 4
    else if has_tree image row tree then 9
    else 8

-- what a row with these protections is found as: its attributes say whether it is read-only, and whether it grows
abbrev pub found_as : Row → ℕ → Found
found_as row kinds =
    record { kinds = record { 0 = kinds }; read_only = has row.attrs read_only; growfs = has row.attrs grow_file_system }

-- what is found of a designator
unfoldable pub found_of : List ℕ → Arch → List Row → Designator → Option Found
found_of image arch rows d = option_map (λ row. found_as row (kinds_of image row (tree_row arch rows d))) (row_of arch rows d)
