-- The writes of others survive as far as they would without us.
use Rattle.std.proofs.Common.{◌≡◌, ℕ, ◌+◌, ◌<◌, ◌≤◌, Bool, true, false, cond, List, [], ◌∷◌, ◌++◌, length, get_or, refl, ◌∙◌, subst, arith}
use Rattle.rp_disk.specs.declared.call.Call.{Call}
use Rattle.rp_disk.specs.declared.call.Call.TheVariants.{Write, Sync, SetLen}
use Rattle.rp_disk.specs.Calls.{all_done, done, has_sync, overwritten, pending, resized, settled}
use Rattle.rp_disk.specs.Ranges.{Inside, Misses}
use Rattle.rp_disk.specs.Stops.{Agrees, Each, Leaves}
use Rattle.rp_disk.proofs.Agreeing.{length-overwritten, get_or-overwritten, length-resized}
use Rattle.rp_disk.proofs.Ranges.{kept-missed}
use Rattle.rp_stops.specs.Writers.{Event, mine, theirs, before, behind, calls_of, ours, others}
use Rattle.rp_stops.proofs.Bytes.{get_or-grown, same_write}
use Rattle.rp_stops.proofs.Cuts.{each_call}

-- each call has room in an image of this length, and changes of length are growths
abbrev pub Grows : ℕ → List Call → Type 0
Grows len [] = Unit {0}
Grows len (Write at bytes ∷ calls) = (at + length bytes ≤ len) × Grows len calls
Grows len (Sync ∷ calls) = Grows len calls
Grows len (SetLen n ∷ calls) = (len ≤ n) × Grows n calls

pub grows-inside : (len : ℕ) (calls : List Call) → Each (Inside len) calls → Grows len calls
grows-inside len [] inside = tt
grows-inside len (Write at bytes ∷ calls) inside = (inside.0, grows-inside len calls inside.1)
grows-inside len (Sync ∷ calls) inside = grows-inside len calls inside.1
grows-inside len (SetLen n ∷ calls) inside = absurd inside.0

pub grows-left : (len : ℕ) (xs ys : List Call) → Grows len (xs ++ ys) → Grows len xs
grows-left len [] ys grows = tt
grows-left len (Write at bytes ∷ xs) ys grows = (grows.0, grows-left len xs ys grows.1)
grows-left len (Sync ∷ xs) ys grows = grows-left len xs ys grows
grows-left len (SetLen n ∷ xs) ys grows = (grows.0, grows-left n xs ys grows.1)

-- what holds of ours and of theirs in an image that only grows
pub grows-events : (least len : ℕ) (events : List Event) → least ≤ len → Grows len (ours events) → Each (Inside least) (others events)
    → Grows len (calls_of events)
grows-events least len [] le grows inside = tt
grows-events least len (mine (Write at bytes) ∷ events) le grows inside = (grows.0, grows-events least len events le grows.1 inside)
grows-events least len (mine Sync ∷ events) le grows inside = grows-events least len events le grows inside
grows-events least len (mine (SetLen n) ∷ events) le grows inside = let more =
    grows.0 in (grows.0, grows-events least n events (omega arith) grows.1 inside)
grows-events least len (theirs at bytes ∷ events) le grows inside = let here =
    inside.0 in (omega arith, grows-events least len events le grows inside.1)

grows-before : (len : ℕ) (events : List Event) → Grows len (calls_of events) → Grows len (calls_of (before events))
grows-before len [] grows = tt
grows-before len (mine (Write at bytes) ∷ events) grows = by_sync (has_sync (calls_of events)) (grows-before len events grows.1) where
  by_sync : (b : Bool) → Grows len (calls_of (before events)) → Grows len (calls_of (cond b (mine (Write at bytes) ∷ before events) []))
  by_sync true rest = (grows.0, rest)
  by_sync false rest = tt
grows-before len (mine Sync ∷ events) grows = grows-before len events grows
grows-before len (mine (SetLen n) ∷ events) grows = by_sync (has_sync (calls_of events)) (grows-before n events grows.1) where
  by_sync : (b : Bool) → Grows n (calls_of (before events)) → Grows len (calls_of (cond b (mine (SetLen n) ∷ before events) []))
  by_sync true rest = (grows.0, rest)
  by_sync false rest = tt
grows-before len (theirs at bytes ∷ events) grows = by_sync (has_sync (calls_of events)) (grows-before len events grows.1) where
  by_sync : (b : Bool) → Grows len (calls_of (before events)) → Grows len (calls_of (cond b (theirs at bytes ∷ before events) []))
  by_sync true rest = (grows.0, rest)
  by_sync false rest = tt

grows-length : (calls : List Call) (image : List ℕ) (len : ℕ) → length image ≡ len → Grows len calls → len ≤ length (all_done image calls)
grows-length [] image len long grows = omega arith
grows-length (Write at bytes ∷ calls) image len long grows =
    let here = grows.0 in
    grows-length calls (overwritten image at bytes) len (length-overwritten image at bytes (omega arith) ∙ long) grows.1
grows-length (Sync ∷ calls) image len long grows = grows-length calls image len long grows
grows-length (SetLen n ∷ calls) image len long grows =
    let more = grows.0 in
    let rest = grows-length calls (resized image n) n (length-resized image n) grows.1 in
    omega arith

-- a byte that calls miss, in an image that only grows
pub grows_missed : (len : ℕ) (calls : List Call) (image : List ℕ) (k : ℕ) → length image ≡ len → Grows len calls → Each (Misses k) calls
    → get_or (all_done image calls) k 0 ≡ get_or image k 0
grows_missed len [] image k long grows misses = refl
grows_missed len (Write at bytes ∷ calls) image k long grows misses =
    let here = grows.0 in
    let fits : at + length bytes ≤ length image = omega arith in
    grows_missed len calls (overwritten image at bytes) k (length-overwritten image at bytes fits ∙ long) grows.1 misses.1
    ∙ get_or-overwritten image at bytes k fits misses.0
grows_missed len (Sync ∷ calls) image k long grows misses = grows_missed len calls image k long grows misses.1
grows_missed len (SetLen n ∷ calls) image k long grows misses =
    let more = grows.0 in
    grows_missed n calls (resized image n) k (length-resized image n) grows.1 misses.1 ∙ get_or-grown image n k (omega arith)

-- a byte that our calls leave alone: the writes of others alone make it
others_byte : (len least : ℕ) (events : List Event) (xs ys : List ℕ) (k : ℕ) → length xs ≡ len → length ys ≡ least → least ≤ len
    → Grows len (calls_of events) → Each (Inside least) (others events)
    → Each (Misses k) (ours events) → get_or xs k 0 ≡ get_or ys k 0
    → get_or (all_done xs (calls_of events)) k 0 ≡ get_or (all_done ys (others events)) k 0
others_byte len least [] xs ys k long long' le grows inside misses same = same
others_byte len least (mine (Write at bytes) ∷ events) xs ys k long long' le grows inside misses same =
    let here = grows.0 in
    let fits : at + length bytes ≤ length xs = omega arith in
    others_byte len least events (overwritten xs at bytes) ys k
    (length-overwritten xs at bytes fits ∙ long) long' le grows.1 inside misses.1
    (get_or-overwritten xs at bytes k fits misses.0 ∙ same)
others_byte len least (mine Sync ∷ events) xs ys k long long' le grows inside misses same =
    others_byte len least events xs ys k long long' le grows inside misses.1 same
others_byte len least (mine (SetLen n) ∷ events) xs ys k long long' le grows inside misses same =
    let more = grows.0 in
    others_byte n least events (resized xs n) ys k (length-resized xs n) long' (omega arith) grows.1 inside misses.1
    (get_or-grown xs n k (omega arith) ∙ same)
others_byte len least (theirs at bytes ∷ events) xs ys k long long' le grows inside misses same =
    let here = grows.0 in
    let there = inside.0 in
    let fits : at + length bytes ≤ length xs = omega arith in
    let fits' : at + length bytes ≤ length ys = omega arith in
    others_byte len least events (overwritten xs at bytes) (overwritten ys at bytes) k (length-overwritten xs at bytes fits ∙ long)
    (length-overwritten ys at bytes fits' ∙ long') le
    grows.1 inside.1 misses (same_write at bytes xs ys k fits fits' same)

-- the last sync of events and of their calls
settled-before : (events : List Event) (image : List ℕ) → settled image (calls_of events) ≡ all_done image (calls_of (before events))
settled-before [] image = refl
settled-before (mine call ∷ events) image = by_sync (has_sync (call ∷ calls_of events)) (settled-before events (done image call)) where
  by_sync : (b : Bool) → settled (done image call) (calls_of events) ≡ all_done (done image call) (calls_of (before events))
      → cond b (settled (done image call) (calls_of events)) image ≡ all_done image (calls_of (cond b (mine call ∷ before events) []))
  by_sync true rest = rest
  by_sync false rest = refl
settled-before (theirs at bytes ∷ events) image = by_sync (has_sync (calls_of events))
    (settled-before events (overwritten image at bytes)) where
      by_sync : (b : Bool) → settled (overwritten image at bytes) (calls_of events) ≡ all_done (overwritten image at bytes)
          (calls_of (before events))
          → cond b (settled (overwritten image at bytes) (calls_of events)) image ≡ all_done image
          (calls_of (cond b (theirs at bytes ∷ before events) []))
      by_sync true rest = rest
      by_sync false rest = refl

pending-behind : (events : List Event) → pending (calls_of events) ≡ calls_of (behind events)
pending-behind [] = refl
pending-behind (mine call ∷ events) = by_sync (has_sync (call ∷ calls_of events)) (pending-behind events) where
  by_sync : (b : Bool) → pending (calls_of events) ≡ calls_of (behind events)
      → cond b (pending (calls_of events)) (call ∷ calls_of events) ≡ calls_of (cond b (behind events) (mine call ∷ events))
  by_sync true rest = rest
  by_sync false rest = refl
pending-behind (theirs at bytes ∷ events) = by_sync (has_sync (calls_of events)) (pending-behind events) where
  by_sync : (b : Bool) → pending (calls_of events) ≡ calls_of (behind events)
      → cond b (pending (calls_of events)) (Write at bytes ∷ calls_of events) ≡ calls_of
      (cond b (behind events) (theirs at bytes ∷ events))
  by_sync true rest = rest
  by_sync false rest = refl

-- the two parts are the events
ours-parts : (P : Call → Type 0) (events : List Event) → Each P (ours events) → Each P (ours (before events))
    × Each P (ours (behind events))
ours-parts P [] each = (tt, tt)
ours-parts P (mine call ∷ events) each = by_sync (has_sync (call ∷ calls_of events)) (ours-parts P events each.1) where
  by_sync : (b : Bool) → Each P (ours (before events)) × Each P (ours (behind events))
      → Each P (ours (cond b (mine call ∷ before events) [])) × Each P (ours (cond b (behind events) (mine call ∷ events)))
  by_sync true rest = ((each.0, rest.0), rest.1)
  by_sync false rest = (tt, each)
ours-parts P (theirs at bytes ∷ events) each = by_sync (has_sync (calls_of events)) (ours-parts P events each) where
  by_sync : (b : Bool) → Each P (ours (before events)) × Each P (ours (behind events))
      → Each P (ours (cond b (theirs at bytes ∷ before events) [])) × Each P (ours (cond b (behind events) (theirs at bytes ∷ events)))
  by_sync true rest = rest
  by_sync false rest = (tt, each)

others-parts : (P : Call → Type 0) (events : List Event) → Each P (others events) → Each P (others (before events))
    × Each P (others (behind events))
others-parts P [] each = (tt, tt)
others-parts P (mine call ∷ events) each = by_sync (has_sync (call ∷ calls_of events)) (others-parts P events each) where
  by_sync : (b : Bool) → Each P (others (before events)) × Each P (others (behind events))
      → Each P (others (cond b (mine call ∷ before events) [])) × Each P (others (cond b (behind events) (mine call ∷ events)))
  by_sync true rest = rest
  by_sync false rest = (tt, each)
others-parts P (theirs at bytes ∷ events) each = by_sync (has_sync (calls_of events)) (others-parts P events each.1) where
  by_sync : (b : Bool) → Each P (others (before events)) × Each P (others (behind events))
      → Each P (others (cond b (theirs at bytes ∷ before events) []))
      × Each P (others (cond b (behind events) (theirs at bytes ∷ events)))
  by_sync true rest = ((each.0, rest.0), rest.1)
  by_sync false rest = (tt, each)

-- a byte that our calls miss is what the writes of others up to the last sync leave there, unless a later one covers it
pub others_kept : (old : List ℕ) (events : List Event) (new : List ℕ) (k : ℕ) → k < length old → k < length new
    → Grows (length old) (calls_of events)
    → Each (Inside (length old)) (others events) → Each (Misses k) (ours events) → Each (Misses k) (others (behind events))
    → Leaves old (calls_of events) new
    → get_or new k 0 ≡ get_or (all_done old (others (before events))) k 0
others_kept old events new k lt lt' grows inside misses later left =
    let P : List ℕ → Type 0 = λ s. Agrees s (calls_of (behind events)) new in
    let Q : List Call → Type 0 = λ l. Agrees (settled old (calls_of events)) l new in
    let agrees = subst P (settled-before events old) (subst Q (pending-behind events) left) in
    let first = grows-before (length old) events grows in
    let inside_parts = others-parts (Inside (length old)) events inside in
    let misses_parts = ours-parts (Misses k) events misses in
    let enough = grows-length (calls_of (before events)) old (length old) refl first in
    kept-missed (all_done old (calls_of (before events))) (calls_of (behind events)) new k agrees (omega arith) lt'
    (each_call (Misses k) (behind events) misses_parts.1 later)
    ∙ others_byte (length old) (length old) (before events) old old k refl refl (omega arith) first inside_parts.0 misses_parts.0 refl
