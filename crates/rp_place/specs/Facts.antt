-- What holds of placings: each new partition has the least area with room, all fit, and no greater threshold succeeds (repart.d(5),
-- Priority=; the choice of the area is this project's own).
use Rattle.std.specs.Prelude.{ℕ, ℤ, pos, ◌+◌, ◌-◌, ◌<◌, ◌≤◌, ◌≤ℤ◌, ◌<ℤ◌, ◌≡◌, ◌⊎◌, ◌^◌, ◌==◌, if◌then◌else◌, false, Option, Some, None, Err, List, [], ◌∷◌, All, IfSome, IsErr, IsOk, MatchOption, is_some, int_le, length, take, slice_get, slice_index_or}
use Rattle.std.specs.List.{AllZip}
use Rattle.std.specs.Option.{option_map_or}
use Rattle.rp_areas.specs.declared.gaps.Area.{Area}
use Rattle.rp_place.specs.declared.fit.Candidate.{Candidate}
use Rattle.rp_place.specs.declared.fit.New.{New}
use Rattle.rp_place.specs.declared.fit.PlaceFault.{PlaceFault}
use Rattle.rp_place.specs.Placing.{tried}

-- the needs that are placed in an area
abbrev pub needs_in : ℕ → List New → List (Option ℕ) → ℕ
needs_in area [] places = 0
needs_in area (n ∷ ns) [] = 0
needs_in area (n ∷ ns) (p ∷ ps) = (if option_map_or (λ place. place == area) p false then n.need else 0) + needs_in area ns ps

-- the area at a place
abbrev pub area_at : List Area → ℕ → Area
area_at areas place = slice_index_or areas place (record { from = 0; span = 0; anchor = None; used = 0 })

-- the grains that are available in an area for the new definition at place k: those of its span that are neither used nor taken by new
-- ones before
abbrev pub available_in : List Area → List New → List (Option ℕ) → ℕ → ℕ → ℕ
available_in areas news places k area = (area_at areas area).span - (area_at areas area).used - needs_in area (take k news) (take k places)

-- a candidate isn't behind another: by what is available, then by first grain, then by place
abbrev pub IsNoLater : Candidate → Candidate → Type 0
IsNoLater a b = (a.available < b.available)
    ⊎ ((a.available ≡ b.available) × ((a.from < b.from) ⊎ ((a.from ≡ b.from) × (a.place ≤ b.place))))

-- an area as a candidate, where so many grains are available in each
abbrev pub as_candidate : List Area → (ℕ → ℕ) → ℕ → Candidate
as_candidate areas available area = record { available = available area; from = (area_at areas area).from; place = area }

-- an area has room for a need, and is the least that has
pub record IsLeast (areas : List Area) (available : ℕ → ℕ) (need area : ℕ) : Type 0 where
  pub place : area < length areas
  pub room : need ≤ available area
  pub least : (other : ℕ) → other < length areas → need ≤ available other
      → IsNoLater (as_candidate areas available area) (as_candidate areas available other)

-- each new definition of priority at most the threshold has, in order, the least area with room for its need, and no other has one
pub record IsPlaced (areas : List Area) (news : List New) (threshold : ℤ) (places : List (Option ℕ)) : Type 0 where
  pub one_each : length places ≡ length news
  pub each : (k : ℕ) (n : New) (p : Option ℕ) → slice_get news k ≡ Some n → slice_get places k ≡ Some p
      → MatchOption p (threshold <ℤ n.priority) (λ area. (n.priority ≤ℤ threshold) × IsLeast areas (available_in areas news places k)
      n.need area)

-- each place is an area's, those of priority at most the threshold have one, and with what is used the needs placed in an area fit its span
pub record IsPlacement (areas : List Area) (news : List New) (threshold : ℤ) (places : List (Option ℕ)) : Type 0 where
  pub in_areas : All (λ p. IfSome p (λ place. place < length areas)) places
  pub chosen : AllZip (λ (n : New) p. is_some p ≡ int_le n.priority threshold) news places
  pub fits : (area : ℕ) → IfSome (slice_get areas area) (λ a. a.used + needs_in area news places ≤ a.span)

-- the greatest threshold from 0 to the greatest i32 that succeeds
pub record IsKept (areas : List Area) (news : List New) (free : ℕ) (threshold : ℤ) : Type 0 where
  pub low : pos 0 ≤ℤ threshold
  pub high : threshold ≤ℤ pos (2 ^ 31 - 1)
  pub succeeds : IsOk (tried areas news free threshold)
  pub greatest : (other : ℤ) → threshold <ℤ other → other ≤ℤ pos (2 ^ 31 - 1) → IsErr (tried areas news free other)

-- no threshold succeeds, and at 0 the fault is this one
pub record IsRefused (areas : List Area) (news : List New) (free : ℕ) (fault : PlaceFault) : Type 0 where
  pub none : (threshold : ℤ) → pos 0 ≤ℤ threshold → threshold ≤ℤ pos (2 ^ 31 - 1) → IsErr (tried areas news free threshold)
  pub at_zero : tried areas news free (pos 0) ≡ Err fault
