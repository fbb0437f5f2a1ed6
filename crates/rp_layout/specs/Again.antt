-- Sharing once more: what partitions ask for once they lie in an area, and that each has as its share of what is then its own area what
-- it has.
use Rattle.std.specs.Prelude.{ℕ, ◌≡◌, ◌≤◌, ◌+◌, ◌-◌, ◌⊎◌, List, [], ◌∷◌}
use Rattle.rp_base.specs.declared.want.Want.{Want}
use Rattle.rp_areas.specs.Again.{Piece, up_to}
use Rattle.rp_areas.specs.Areas.{grains_up, want_at}
use Rattle.rp_share.specs.Again.{IsAgain, asked}
use Rattle.rp_share.specs.Value.{shares_of}
use Rattle.rp_layout.specs.declared.seat.Seat.{Seat}
use Rattle.rp_layout.specs.Seats.{padding_of}

-- what a definition asks for with another minimum, and with an exact size
abbrev pub at_least : ℕ → Want → Want
at_least grains want = record {
  min = grains;
  max = want.max;
  weight = want.weight;
  pad_min = want.pad_min;
  pad_max = want.pad_max;
  pad_weight = want.pad_weight;
}

abbrev pub exactly : ℕ → Want → Want
exactly grains want = record {
  min = grains;
  max = grains;
  weight = 0;
  pad_min = want.pad_min;
  pad_max = want.pad_max;
  pad_weight = want.pad_weight;
}

-- a definition that has so many units is asked for as it stands; a new one may have a greater minimum, or, without weight, an exact size
abbrev pub AsksFor : Want → ℕ → Want → Type 0
AsksFor own has want = (want ≡ own) ⊎ ((has ≡ 0) × (own.min ≤ want.min) × ((want ≡ at_least want.min own)
    ⊎ ((own.weight ≡ 0) × (want ≡ exactly want.min own))))

-- what a seat asks for is what its definition asks for, or more
pub record IsSeat (wants : List Want) (s : Seat) : Type 0 where
  pub some : 1 ≤ s.size.min
  pub min : (want_at wants s.file).min ≤ s.size.min
  pub padding : s.pad ≡ padding_of (want_at wants s.file)
  pub again : (x : ℕ) → s.size.min ≤ x → x ≤ s.size.max
      → IsAgain s.size x (asked x (want_at wants s.file).min (want_at wants s.file).max (want_at wants s.file).weight)

-- each partition, with the area from its start to the next or the limit, has as its shares of that area what it has
abbrev pub AreIdle : List Want → ℕ → ℕ → List Piece → Type 0
AreIdle wants limit from [] = Unit {0}
AreIdle wants limit from (p ∷ ps) =
    (shares_of (up_to (from + grains_up p.units + p.pad) ps limit - from)
    (asked (grains_up p.units) (want_at wants p.file).min (want_at wants p.file).max (want_at wants p.file).weight ∷ padding_of
    (want_at wants p.file) ∷ [])
    ≡ grains_up p.units ∷ p.pad ∷ [])
    × AreIdle wants limit (from + grains_up p.units + p.pad) ps
