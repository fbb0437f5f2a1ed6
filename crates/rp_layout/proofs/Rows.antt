-- Worked rows: what definitions take of a blank disk of 64 MiB, whose one area has 16,123 grains from grain 256 on, and of others.
use Rattle.std.proofs.Common.{◌≡◌, ℕ, ◌^◌, List, [], ◌∷◌, Option, Some, None, pos, refl}
use Rattle.rp_base.specs.declared.table.Row.{Row}
use Rattle.rp_base.specs.declared.want.Want.{Want}
use Rattle.rp_areas.specs.declared.gaps.Area.{Area}
use Rattle.rp_place.specs.declared.fit.New.{New}
use Rattle.rp_share.specs.Value.{can_take, next_below, shares_of, sooner_of, with_grain, with_grains}
use Rattle.rp_layout.specs.declared.spot.Spot.{Spot}
use Rattle.rp_layout.specs.Layout.{laid}

-- what a definition asks for that has a minimum, a maximum and a weight set
abbrev asks : ℕ → ℕ → ℕ → Want
asks least most weight = record { min = least; max = most; weight = weight; pad_min = 0; pad_max = 2 ^ 52; pad_weight = 0 }

abbrev free : ℕ → ℕ → Area
free from span = record { from = from; span = span; anchor = None; used = 0 }

abbrev new : ℕ → ℕ → New
new file need = record { file = file; need = need; priority = pos 0 }

abbrev spot : ℕ → ℕ → ℕ → Option Spot
spot file start size = Some (record { file = file; start = start; size = size; pad = 0 })

-- two new ones on the blank disk
abbrev two : Want → Want → List (Option Spot)
two a b = laid [] (None ∷ None ∷ []) (a ∷ b ∷ []) (free 256 16123 ∷ []) (new 0 2560 ∷ new 1 2560 ∷ []) (Some 0 ∷ Some 0 ∷ [])

by_weight : two (asks 2560 (2 ^ 52) 1000) (asks 2560 (2 ^ 52) 2000) ≡ spot 0 2048 42992 ∷ spot 1 45040 85992 ∷ []
unfolding shares_of with_grains with_grain next_below sooner_of can_take
by_weight = refl

equal_weights : two (asks 2560 (2 ^ 52) 1000) (asks 2560 (2 ^ 52) 1000) ≡ spot 0 2048 64496 ∷ spot 1 66544 64488 ∷ []
unfolding shares_of with_grains with_grain next_below sooner_of can_take
equal_weights = refl

up_to_a_maximum : two (asks 2560 5120 1000) (asks 2560 (2 ^ 52) 1000) ≡ spot 0 2048 40960 ∷ spot 1 43008 88024 ∷ []
unfolding shares_of with_grains with_grain next_below sooner_of can_take
up_to_a_maximum = refl

-- one that was dropped lies nowhere, and the other takes the whole area
dropped : laid [] (None ∷ None ∷ []) (asks 4096 (2 ^ 52) 1000 ∷ asks 4096 (2 ^ 52) 1000 ∷ []) (free 256 7931 ∷ [])
    (new 0 4096 ∷ new 1 4096 ∷ []) (Some 0 ∷ None ∷ [])
    ≡ spot 0 2048 63448 ∷ None ∷ []
unfolding shares_of with_grains with_grain next_below sooner_of can_take
dropped = refl

-- a row of a definition in slot 0
abbrev there : ℕ → ℕ → Row
there start size = record { slot = 0; kind = record { 0 = [] }; id = record { 0 = [] }; start = start; size = size; attrs = 0; name = [] }

-- an anchor grows over its area, and keeps an odd size where it can't
grows : laid (there 2048 128991 ∷ []) (Some 0 ∷ []) (asks 2560 (2 ^ 52) 1000 ∷ [])
    (free 256 0 ∷ record { from = 256; span = 32507; anchor = Some 0; used = 16124 } ∷ []) [] []
    ≡ spot 0 2048 260056 ∷ []
unfolding shares_of with_grains with_grain next_below sooner_of can_take
grows = refl

keeps : laid (there 2048 128981 ∷ []) (Some 0 ∷ []) (asks 2560 (2 ^ 52) 1000 ∷ [])
    (free 256 0 ∷ record { from = 256; span = 16123; anchor = Some 0; used = 16123 } ∷ []) [] []
    ≡ spot 0 2048 128981 ∷ []
unfolding shares_of with_grains with_grain next_below sooner_of can_take
keeps = refl
