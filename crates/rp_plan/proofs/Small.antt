-- The numbers of the fault of a placing are those of a new definition and of an area.
use Rattle.std.proofs.Common.{◌≡◌, ℕ, ℤ, zero, suc, ◌+◌, ◌-◌, ◌^◌, ◌<◌, Bool, true, false, cond, List, [], ◌∷◌, map, fold, max, Option, Some, None, IfSome, Result, Ok, Err, All, arith, inl, inr, sym, subst, slice_get, slice_set}
use Rattle.std.specs.Prelude.{filter, int_le, nat_le, slice_index}
use Rattle.std.specs.List.{enumerate_from}
use Rattle.std.specs.Option.{option_map_or}
use Rattle.std.proofs.lemmas.List.Elements.{All-tail}
use Rattle.rp_base.specs.Answers.{Gives}
use Rattle.rp_areas.specs.declared.gaps.Area.{Area}
use Rattle.rp_place.specs.declared.fit.Candidate.{Candidate}
use Rattle.rp_place.specs.declared.fit.New.{New}
use Rattle.rp_place.specs.declared.fit.PlaceFault.{PlaceFault}
use Rattle.rp_place.specs.declared.fit.PlaceFault.TheVariants.{Room, Slot, Memory}
use Rattle.rp_place.specs.Placing.{before_all, best_of, candidate_of, kept_threshold, lesser, placed, placed_in, precedes, settled, slotted, tried, with_threshold}
use Rattle.rp_plan.specs.Demands.{IsSmall}

abbrev IsLow : ℕ → Type 0
IsLow n = n < 2 ^ 52

-- rooms at any place are low
abbrev AreLow : List ℕ → Type 0
AreLow rooms = (k : ℕ) → IsLow (slice_index rooms k)

low_or : (b : Bool) (x y : Candidate) → IsLow x.available → IsLow y.available → IsLow (cond b x y).available
low_or true x y p q = p
low_or false x y p q = q

with_it : (rooms : List ℕ) → AreLow rooms → (n : ℕ) (a : Area) (b : Option Candidate) → IfSome b (λ c. IsLow c.available)
    → IfSome (lesser b (candidate_of rooms (n, a))) (λ c. IsLow c.available)
with_it rooms low n a None is = low n
with_it rooms low n a (Some c) is = low_or (precedes (candidate_of rooms (n, a)) c) (candidate_of rooms (n, a)) c (low n) is

pick : (t : Bool) (b : Option Candidate) (c : Candidate) (rest : List Candidate)
    → IfSome (fold lesser (lesser b c) rest) (λ c. IsLow c.available) → IfSome (fold lesser b rest) (λ c. IsLow c.available)
    → IfSome (fold lesser b (cond t (c ∷ rest) rest)) (λ c. IsLow c.available)
pick true b c rest p q = p
pick false b c rest p q = q

best_low : (rooms : List ℕ) → AreLow rooms → (test : Candidate → Bool) (n : ℕ) (areas : List Area) (b : Option Candidate)
    → IfSome b (λ c. IsLow c.available)
    → IfSome (fold lesser b (filter test (map (candidate_of rooms) (enumerate_from n areas)))) (λ c. IsLow c.available)
best_low rooms low test n [] b is = is
best_low rooms low test n (a ∷ areas) b is = pick (test (candidate_of rooms (n, a))) b (candidate_of rooms (n, a))
    (filter test (map (candidate_of rooms) (enumerate_from (n + 1) areas)))
    (best_low rooms low test (n + 1) areas (lesser b (candidate_of rooms (n, a))) (with_it rooms low n a b is))
    (best_low rooms low test (n + 1) areas b is)

set_low : (rooms : List ℕ) (place v : ℕ) → AreLow rooms → IsLow v → AreLow (slice_set rooms place v)
set_low [] place v low is k = low k
set_low (r ∷ rooms) zero v low is zero = is
set_low (r ∷ rooms) zero v low is (suc k) = low (suc k)
set_low (r ∷ rooms) (suc place) v low is zero = low zero
set_low (r ∷ rooms) (suc place) v low is (suc k) = set_low rooms place v (λ j. low (suc j)) is k

largest_low : (rooms : List ℕ) (m : ℕ) → IsLow m → AreLow rooms → IsLow (fold max m rooms)
largest_low [] m is low = is
largest_low (r ∷ rooms) m is low = largest_low rooms (max m r) (omega (arith, is, low zero)) (λ k. low (suc k))

-- a fault has small numbers
abbrev HasSmall : Result (List (Option ℕ)) PlaceFault → Type 0
HasSmall (Ok places) = Unit {0}
HasSmall (Err fault) = IsSmall fault

before_small : (place : Option ℕ) (r : Result (List (Option ℕ)) PlaceFault) → HasSmall r → HasSmall (before_all place r)
before_small place (Ok places) is = tt
before_small place (Err fault) is = is

either_small : (b : Bool) (x y : Result (List (Option ℕ)) PlaceFault) → HasSmall x → HasSmall y → HasSmall (cond b x y)
either_small true x y p q = p
either_small false x y p q = q

in_best : (rest : Candidate → Result (List (Option ℕ)) PlaceFault) (fault : PlaceFault) (o : Option Candidate)
    → IfSome o (λ c. IsLow c.available) → IsSmall fault → ((c : Candidate) → IsLow c.available → HasSmall (rest c))
    → HasSmall (option_map_or rest o (Err fault))
in_best rest fault None is small each = small
in_best rest fault (Some c) is small each = each c is

placed_small : (areas : List Area) (t : ℤ) (rooms : List ℕ) (news : List New) → AreLow rooms → All (λ (n : New). n.need < 2 ^ 52) news
    → HasSmall (placed_in areas t rooms news)
placed_small areas t rooms [] low needs = tt
placed_small areas t rooms (n ∷ ns) low needs =
    let rest : All (λ (n : New). n.need < 2 ^ 52) ns = All-tail (λ (n : New). n.need < 2 ^ 52) n ns needs in
    either_small (int_le n.priority t) _ _
    (in_best (λ c. before_all (Some c.place) (placed_in areas t (slice_set rooms c.place (c.available - n.need)) ns))
    (Room n.file n.need (fold max 0 rooms)) (best_of areas rooms n.need)
    (best_low rooms low (λ c. nat_le n.need c.available) 0 areas None tt)
    (needs zero n (omega arith), largest_low rooms 0 (omega arith) low)
    (λ c is. before_small (Some c.place) (placed_in areas t (slice_set rooms c.place (c.available - n.need)) ns)
    (placed_small areas t (slice_set rooms c.place (c.available - n.need)) ns
    (set_low rooms c.place (c.available - n.need) low (omega (arith, is))) rest)))
    (before_small None (placed_in areas t rooms ns) (placed_small areas t rooms ns low rest))

rooms_low : (areas : List Area) → All (λ (a : Area). a.span < 2 ^ 52) areas → AreLow (map (λ (a : Area). a.span - a.used) areas)
rooms_low [] spans k = omega arith
rooms_low (a ∷ areas) spans zero = omega (arith, spans zero a (omega arith))
rooms_low (a ∷ areas) spans (suc k) = rooms_low areas (All-tail (λ (a : Area). a.span < 2 ^ 52) a areas spans) k

slotted_small : (kept : List New) (free : ℕ) (r : Result (List (Option ℕ)) PlaceFault) → HasSmall r → HasSmall (slotted kept free r)
slotted_small kept free (Err fault) is = is
slotted_small kept free (Ok places) is = by (slice_get kept free) where
  by : (o : Option New) → HasSmall (option_map_or (λ (n : New). Err (Slot n.file)) o (Ok places))
  by None = tt
  by (Some n) = tt

threshold_small : (t : ℤ) (r : Result (List (Option ℕ)) PlaceFault) (fault : PlaceFault) → HasSmall r → with_threshold t r ≡ Err fault → IsSmall fault
threshold_small t (Ok places) fault is same = cc
threshold_small t (Err other) fault is same = let e : other ≡ fault = cc in subst IsSmall e is

-- the fault of the kept placement has
pub settled_small : (areas : List Area) (news : List New) (free : ℕ) (fault : PlaceFault) → All (λ (a : Area). a.span < 2 ^ 52) areas
    → All (λ (n : New). n.need < 2 ^ 52) news → settled areas news free ≡ Err fault → IsSmall fault
settled_small areas news free fault spans needs is =
    let t = kept_threshold areas news free in
    threshold_small t (tried areas news free t) fault
    (slotted_small _ free (placed areas news t) (placed_small areas t (map (λ (a : Area). a.span - a.used) areas) news (rooms_low areas spans) needs))
    is

pub given_small : (areas : List Area) (news : List New) (free : ℕ) (fault : PlaceFault) → All (λ (a : Area). a.span < 2 ^ 52) areas
    → All (λ (n : New). n.need < 2 ^ 52) news → Gives Memory (settled areas news free) (Err fault) → IsSmall fault
given_small areas news free fault spans needs (inl is) = settled_small areas news free fault spans needs (sym is)
given_small areas news free fault spans needs (inr is) = let e : Memory ≡ fault = cc in subst IsSmall e tt
