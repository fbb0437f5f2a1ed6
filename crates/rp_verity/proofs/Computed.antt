-- Worked superblocks: that of another program, and those that are not right.
use Rattle.std.proofs.Common.{◌≡◌, ℕ, List, [], ◌∷◌, ◌++◌, Some, None, replicate, take, refl}
use Rattle.rp_base.specs.declared.guid.Guid.{Guid}
use Rattle.rp_base.specs.declared.table.Row.{Row}
use Rattle.rp_base.specs.Trees.{hash_blocks, level_blocks, levels}
use Rattle.rp_verity.specs.Superblock.{blocks_in, fits, is_headed, salt_size_in, superblock, superblock_in}

unfoldable uuid : Guid
uuid = record {
  0 =
      161 ∷ 178 ∷ 195 ∷ 212 ∷ 229 ∷ 246 ∷ 71 ∷ 17 ∷ 136 ∷ 153 ∷ 170 ∷ 187 ∷ 204 ∷ 221 ∷ 238 ∷ 255 ∷ [];
}

unfoldable salt : List ℕ
salt =
    0 ∷ 17 ∷ 34 ∷ 51 ∷ 68 ∷ 85 ∷ 102 ∷ 119 ∷ 136 ∷ 153 ∷ 170 ∷ 187 ∷ 204 ∷ 221 ∷ 238 ∷ 255 ∷ 16 ∷ 33 ∷ 50 ∷ 67 ∷ 84 ∷ 101 ∷ 118 ∷ 135
    ∷ 152 ∷ 169 ∷ 186 ∷ 203 ∷ 220 ∷ 237 ∷ 254 ∷ 15 ∷ []

-- the superblock of three data blocks that veritysetup writes
unfoldable theirs : List ℕ
theirs =
    118 ∷ 101 ∷ 114 ∷ 105 ∷ 116 ∷ 121 ∷ 0 ∷ 0 ∷ 1 ∷ 0 ∷ 0 ∷ 0 ∷ 1 ∷ 0 ∷ 0 ∷ 0 ∷ 161 ∷ 178 ∷ 195 ∷ 212 ∷ 229 ∷ 246 ∷ 71 ∷ 17
    ∷ 136 ∷ 153 ∷ 170 ∷ 187 ∷ 204 ∷ 221 ∷ 238 ∷ 255 ∷ 115 ∷ 104 ∷ 97 ∷ 50 ∷ 53 ∷ 54 ∷ 0 ∷ 0 ∷ 0 ∷ 0 ∷ 0 ∷ 0 ∷ 0 ∷ 0 ∷ 0 ∷ 0
    ∷ 0 ∷ 0 ∷ 0 ∷ 0 ∷ 0 ∷ 0 ∷ 0 ∷ 0 ∷ 0 ∷ 0 ∷ 0 ∷ 0 ∷ 0 ∷ 0 ∷ 0 ∷ 0 ∷ 0 ∷ 16 ∷ 0 ∷ 0 ∷ 0 ∷ 16 ∷ 0 ∷ 0
    ∷ 3 ∷ 0 ∷ 0 ∷ 0 ∷ 0 ∷ 0 ∷ 0 ∷ 0 ∷ 32 ∷ 0 ∷ 0 ∷ 0 ∷ 0 ∷ 0 ∷ 0 ∷ 0 ∷ 0 ∷ 17 ∷ 34 ∷ 51 ∷ 68 ∷ 85 ∷ 102 ∷ 119
    ∷ 136 ∷ 153 ∷ 170 ∷ 187 ∷ 204 ∷ 221 ∷ 238 ∷ 255 ∷ 16 ∷ 33 ∷ 50 ∷ 67 ∷ 84 ∷ 101 ∷ 118 ∷ 135 ∷ 152 ∷ 169 ∷ 186 ∷ 203 ∷ 220 ∷ 237 ∷ 254 ∷ 15 ∷ []

written : take 120 (superblock uuid 3 salt) ≡ theirs
unfolding superblock uuid salt theirs
written = refl

-- a row of so many units
abbrev of_units : ℕ → Row
of_units size =
    record { slot = 0; kind = record { 0 = [] }; id = record { 0 = [] }; start = 0; size = size; attrs = 0; name = [] }

-- it is right for rows in which three blocks and their tree fit
right : superblock_in (theirs ++ replicate 3976 0) (of_units 24) (of_units 16) ≡ Some (record { blocks = 3; salt_size = 32 })
unfolding superblock_in is_headed blocks_in salt_size_in fits hash_blocks levels level_blocks theirs
right = refl

-- and for no smaller ones
short_row : superblock_in (theirs ++ replicate 3976 0) (of_units 23) (of_units 16) ≡ None
unfolding superblock_in is_headed blocks_in salt_size_in fits hash_blocks levels level_blocks theirs
short_row = refl

short_tree : superblock_in (theirs ++ replicate 3976 0) (of_units 24) (of_units 15) ≡ None
unfolding superblock_in is_headed blocks_in salt_size_in fits hash_blocks levels level_blocks theirs
short_tree = refl
