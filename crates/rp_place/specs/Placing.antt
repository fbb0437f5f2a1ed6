-- Where new partitions go (repart.d(5), Priority=: of what doesn't fit, the highest numbers are dropped first, those of 0 or lower
-- never; the choice of the area is this project's own).
use Rattle.std.specs.Prelude.{ℕ, ℤ, pos, ◌-◌, ◌-ℤ◌, ◌^◌, ◌==◌, nat_lt, nat_le, if◌then◌else◌, max, Bool, ◌&&◌, ◌||◌, Option, Some, None, Result, Ok, Err, is_ok, List, [], ◌∷◌, map, fold, filter, slice_get, slice_index, slice_set, int_le}
use Rattle.std.specs.Int.{int_max}
use Rattle.std.specs.List.{enumerate_from}
use Rattle.std.specs.Option.{option_map_or}
use Rattle.rp_areas.specs.declared.gaps.Area.{Area}
use Rattle.rp_place.specs.declared.fit.Candidate.{Candidate}
use Rattle.rp_place.specs.declared.fit.New.{New}
use Rattle.rp_place.specs.declared.fit.PlaceFault.{PlaceFault}
use Rattle.rp_place.specs.declared.fit.PlaceFault.TheVariants.{Room, Slot}
use Rattle.rp_place.specs.declared.threshold.Placed.{Placed}

-- an area, given with its place, and the grains that are available in it
abbrev pub candidate_of : List ℕ → (ℕ × Area) → Candidate
candidate_of rooms e = record { available = slice_index rooms e.0; from = e.1.from; place = e.0 }

-- the order of candidates: by what is available, then by their first grains, then by their places
abbrev pub precedes : Candidate → Candidate → Bool
precedes a b = nat_lt a.available b.available || ((a.available == b.available) &&
    (nat_lt a.from b.from || ((a.from == b.from) && nat_lt a.place b.place)))

-- the lesser of two candidates
abbrev pub lesser : Option Candidate → Candidate → Option Candidate
lesser None c = Some c
lesser (Some b) c = Some (if precedes c b then c else b)

-- the least area among those with room
abbrev pub best_of : List Area → List ℕ → ℕ → Option Candidate
best_of areas rooms need = fold lesser None (filter (λ c. nat_le need c.available) (map (candidate_of rooms) (enumerate_from 0 areas)))

-- a place before the others
abbrev pub before_all : Option ℕ → Result (List (Option ℕ)) PlaceFault → Result (List (Option ℕ)) PlaceFault
before_all place (Ok places) = Ok (place ∷ places)
before_all place (Err fault) = Err fault

-- the areas of new definitions, where so many grains are available in each area: in order, each of priority at most the threshold goes
-- to the least area with room
abbrev pub placed_in : List Area → ℤ → List ℕ → List New → Result (List (Option ℕ)) PlaceFault
placed_in areas threshold rooms [] = Ok []
placed_in areas threshold rooms (n ∷ ns) = if int_le n.priority threshold
    then option_map_or (λ c. before_all (Some c.place) (placed_in areas threshold (slice_set rooms c.place (c.available - n.need)) ns))
    (best_of areas rooms n.need)
    (Err (Room n.file n.need (fold max 0 rooms)))
    else before_all None (placed_in areas threshold rooms ns)

-- the same from the beginning, when each area's span less what is used is available
abbrev pub placed : List Area → List New → ℤ → Result (List (Option ℕ)) PlaceFault
placed areas news threshold = placed_in areas threshold (map (λ a. a.span - a.used) areas) news

-- the new definitions of priority at most the threshold
abbrev pub kept : List New → ℤ → List New
kept news threshold = filter (λ n. int_le n.priority threshold) news

-- the areas, where there is a slot for each that is kept, or else the first for which there is none
abbrev pub slotted : List New → ℕ → Result (List (Option ℕ)) PlaceFault → Result (List (Option ℕ)) PlaceFault
slotted kept_news free (Err fault) = Err fault
slotted kept_news free (Ok places) = option_map_or (λ n. Err (Slot n.file)) (slice_get kept_news free) (Ok places)

-- what a threshold leads to
abbrev pub tried : List Area → List New → ℕ → ℤ → Result (List (Option ℕ)) PlaceFault
tried areas news free threshold = slotted (kept news threshold) free (placed areas news threshold)

-- the thresholds that can differ in what they keep: the greatest i32, and each number just below a priority that occurs
abbrev pub thresholds : List New → List ℤ
thresholds news = pos (2 ^ 31 - 1) ∷ map (λ n. n.priority -ℤ pos 1) news

-- whether a number is a threshold, from 0 to the greatest i32, that succeeds
abbrev pub succeeds_at : List Area → List New → ℕ → ℤ → Bool
succeeds_at areas news free threshold = (int_le (pos 0) threshold && int_le threshold (pos (2 ^ 31 - 1))) && is_ok
    (tried areas news free threshold)

-- the greatest of these that succeeds, or 0
abbrev pub kept_threshold : List Area → List New → ℕ → ℤ
kept_threshold areas news free = fold int_max (pos 0) (filter (succeeds_at areas news free) (thresholds news))

-- areas with the threshold that they come from
abbrev pub with_threshold : ℤ → Result (List (Option ℕ)) PlaceFault → Result Placed PlaceFault
with_threshold threshold (Ok places) = Ok (record { threshold = threshold; areas = places })
with_threshold threshold (Err fault) = Err fault

-- the placement that is kept: what that threshold leads to
abbrev pub settled : List Area → List New → ℕ → Result Placed PlaceFault
settled areas news free = with_threshold (kept_threshold areas news free) (tried areas news free (kept_threshold areas news free))
