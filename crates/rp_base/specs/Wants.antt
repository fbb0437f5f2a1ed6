-- What a definition may ask for (repart.d(5), SizeMinBytes=, SizeMaxBytes=, Weight= and the same for Padding).
use Rattle.std.specs.Prelude.{◌<◌, ◌≤◌, ◌^◌, List, All, length}
use Rattle.rp_base.specs.declared.want.Want.{Want}

-- minima are at most their maxima and below 2^49 grains, maxima at most 2^52 grains, and weights at most 1,000,000
pub record IsWant (want : Want) : Type 0 where
  pub size : want.min ≤ want.max
  pub size_min : want.min < 2 ^ 49
  pub size_max : want.max ≤ 2 ^ 52
  pub weight : want.weight ≤ 1000000
  pub padding : want.pad_min ≤ want.pad_max
  pub padding_min : want.pad_min < 2 ^ 49
  pub padding_max : want.pad_max ≤ 2 ^ 52
  pub padding_weight : want.pad_weight ≤ 1000000

-- the wants of a well formed list of definitions: at most 256, each in its bounds
pub record AreWants (wants : List Want) : Type 0 where
  pub few : length wants ≤ 256
  pub each : All IsWant wants
