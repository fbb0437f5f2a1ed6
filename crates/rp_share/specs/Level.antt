-- Shares at a level that all items have in common.
use Rattle.std.specs.Prelude.{ℕ, ◌*◌, ◌/◌, min, max}
use Rattle.rp_share.specs.declared.item.Item.{Item}
use Rattle.rp_share.specs.declared.TheConstants.{LEVEL_SCALE}

-- the grains of an item at a level: the level times its weight, kept within its limits
abbrev pub grains_at : ℕ → Item → ℕ
grains_at level item = max item.min (min item.max (level * item.weight / LEVEL_SCALE))
