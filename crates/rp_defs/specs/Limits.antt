-- Minima and maxima of sizes and paddings (repart.d(5)), in grains.
use Rattle.std.specs.Prelude.{ℕ, ◌+◌, ◌/◌, ◌^◌, Bool, ◌||◌, nat_lt, Option}
use Rattle.std.specs.Option.{option_map_or}
use Rattle.rp_base.specs.declared.want.Want.{Want}

-- the grains of 4,096 bytes that so many bytes need, and those that they fill
abbrev pub grains_for : ℕ → ℕ
grains_for bytes = (bytes + 4095) / 4096

abbrev pub grains_down : ℕ → ℕ
grains_down bytes = bytes / 4096

-- a maximum in grains, which is 2^52 where it is unset, and a minimum in grains, with what it is where it is unset
abbrev pub max_of : Option ℕ → ℕ
max_of set = option_map_or grains_down set (2 ^ 52)

abbrev pub min_of : Option ℕ → ℕ → ℕ
min_of set unset = option_map_or grains_for set unset

-- a minimum, of the size or of the padding, is above its maximum
abbrev pub has_no_size : Want → Bool
has_no_size want = nat_lt want.max want.min || nat_lt want.pad_max want.pad_min
