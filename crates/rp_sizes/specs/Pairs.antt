-- The data of a pair and its hash tree (Linux, dm-verity; the exact size, the salt and the superblock's UUID are own rules).
use Rattle.std.specs.Prelude.{ℕ, ◌+◌, ◌/◌, max, List, ◌++◌, codes}
use Rattle.rp_base.specs.declared.guid.Guid.{Guid}
use Rattle.rp_hmac.specs.Hmac.{hmac}
use Rattle.rp_hmac.specs.Derived.{derived}
use Rattle.rp_defs.specs.declared.definition.Definition.{Definition}

-- bytes in grains of 4,096, rounded up
abbrev pub bytes_grains : ℕ → ℕ
bytes_grains bytes = (bytes + 4095) / 4096

-- the blocks of the data of a pair, which is as large as its source and its minimum, and has one at least
abbrev pub pair_blocks : Definition → ℕ → ℕ
pair_blocks def len = max (max def.want.min (bytes_grains len)) 1

-- the salt of a tree, by the type of its data
unfoldable pub salt_of : Guid → Guid → List ℕ
salt_of seed kind = hmac seed.0 (codes "verity-salt" ++ kind.0)

-- the UUID of its superblock
unfoldable pub super_id : Guid → Guid → Guid
super_id seed kind = derived seed (codes "verity-uuid" ++ kind.0) 0
