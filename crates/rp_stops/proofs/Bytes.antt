-- Bytes under our calls and under the writes of others.
use Rattle.std.proofs.Common.{◌≡◌, ℕ, ◌+◌, ◌-◌, ◌≤◌, List, [], ◌∷◌, ◌++◌, length, get_or, replicate, zero, suc, refl, sym, ap, ◌∙◌, inl, inr, arith}
use Rattle.std.proofs.lemmas.Bool.{cases_lt}
use Rattle.std.proofs.lemmas.List.{take_all}
use Rattle.rp_base.specs.Image.{bytes_at}
use Rattle.rp_disk.specs.declared.call.Call.{Call}
use Rattle.rp_disk.specs.declared.call.Call.TheVariants.{Write, Sync, SetLen}
use Rattle.rp_disk.specs.Calls.{all_done, overwritten, resized}
use Rattle.rp_disk.specs.Ranges.{Apart, Inside, Misses}
use Rattle.rp_disk.specs.Stops.{Each}
use Rattle.rp_disk.proofs.Agreeing.{length-overwritten, get_or-overwritten}
use Rattle.rp_disk.proofs.Blocks.{Each-imp}
use Rattle.rp_disk.proofs.Ranges.{bytes_at-overwritten, byte_of, misses-apart, same_bytes}
use Rattle.rp_stops.specs.Writers.{Event, mine, theirs, calls_of, ours, others}

zeros : (n k : ℕ) → ◌≡◌ {A = ℕ} (get_or (replicate n 0) k 0) 0
zeros zero k = refl
zeros (suc n) zero = refl
zeros (suc n) (suc k) = zeros n k

-- zeros behind an image change no byte
pub append_zeros : (xs : List ℕ) (n k : ℕ) → get_or (xs ++ replicate n 0) k 0 ≡ get_or xs k 0
append_zeros [] n k = zeros n k
append_zeros (x ∷ xs) n zero = refl
append_zeros (x ∷ xs) n (suc k) = append_zeros xs n k

pub get_or-grown : (image : List ℕ) (len k : ℕ) → length image ≤ len → get_or (resized image len) k 0 ≡ get_or image k 0
get_or-grown image len k le = ap (λ (xs : List ℕ). get_or (xs ++ replicate (len - length image) 0) k 0) (take_all len image le)
    ∙ append_zeros image (len - length image) k

-- a byte that calls inside an image miss
pub get_or-all_done : (len : ℕ) (calls : List Call) (image : List ℕ) (k : ℕ) → length image ≡ len → Each (Inside len) calls
    → Each (Misses k) calls
    → get_or (all_done image calls) k 0 ≡ get_or image k 0
get_or-all_done len [] image k long inside misses = refl
get_or-all_done len (Write at bytes ∷ calls) image k long inside misses =
    let fits : at + length bytes ≤ length image = let here = inside.0 in omega arith in
    get_or-all_done len calls (overwritten image at bytes) k (length-overwritten image at bytes fits ∙ long) inside.1 misses.1
    ∙ get_or-overwritten image at bytes k fits misses.0
get_or-all_done len (Sync ∷ calls) image k long inside misses = get_or-all_done len calls image k long inside.1 misses.1
get_or-all_done len (SetLen n ∷ calls) image k long inside misses = absurd inside.0

-- a byte that is the same in two images is the same after a write in both
pub same_write : (at : ℕ) (bytes xs ys : List ℕ) (k : ℕ) → at + length bytes ≤ length xs → at + length bytes ≤ length ys
    → get_or xs k 0 ≡ get_or ys k 0
    → get_or (overwritten xs at bytes) k 0 ≡ get_or (overwritten ys at bytes) k 0
same_write at bytes xs ys k fits fits' same =
    elim (cases_lt k at) [
      | inl low ↦ get_or-overwritten xs at bytes k fits (inl low) ∙ same ∙ sym (get_or-overwritten ys at bytes k fits' (inl low))
      | inr high ↦ elim (cases_lt k (at + length bytes)) [
        | inl within ↦
            byte_of at (length bytes) (overwritten xs at bytes) (overwritten ys at bytes)
            (bytes_at-overwritten at bytes xs fits ∙ sym (bytes_at-overwritten at bytes ys fits')) k high within
        | inr above ↦ get_or-overwritten xs at bytes k fits (inr above) ∙ same ∙ sym (get_or-overwritten ys at bytes k fits' (inr above))
      ]
    ]

-- a byte that others leave alone: our calls alone make it
pub ours_byte : (len : ℕ) (events : List Event) (xs ys : List ℕ) (k : ℕ) → length xs ≡ len → length ys ≡ len
    → Each (Inside len) (calls_of events) → Each (Misses k) (others events)
    → get_or xs k 0 ≡ get_or ys k 0 → get_or (all_done xs (calls_of events)) k 0 ≡ get_or (all_done ys (ours events)) k 0
ours_byte len [] xs ys k long long' inside misses same = same
ours_byte len (mine (Write at bytes) ∷ events) xs ys k long long' inside misses same =
    let here = inside.0 in
    let fits : at + length bytes ≤ length xs = omega arith in
    let fits' : at + length bytes ≤ length ys = omega arith in
    ours_byte len events (overwritten xs at bytes) (overwritten ys at bytes) k (length-overwritten xs at bytes fits ∙ long)
    (length-overwritten ys at bytes fits' ∙ long') inside.1 misses
    (same_write at bytes xs ys k fits fits' same)
ours_byte len (mine Sync ∷ events) xs ys k long long' inside misses same = ours_byte len events xs ys k long long' inside.1 misses same
ours_byte len (mine (SetLen n) ∷ events) xs ys k long long' inside misses same = absurd inside.0
ours_byte len (theirs at bytes ∷ events) xs ys k long long' inside misses same =
    let here = inside.0 in
    let fits : at + length bytes ≤ length xs = omega arith in
    ours_byte len events (overwritten xs at bytes) ys k (length-overwritten xs at bytes fits ∙ long) long' inside.1 misses.1
    (get_or-overwritten xs at bytes k fits misses.0 ∙ same)

-- the same of a range
pub ours_range : (len at n : ℕ) (events : List Event) (xs ys : List ℕ) → at + n ≤ len → length xs ≡ len → length ys ≡ len
    → length (all_done xs (calls_of events)) ≡ len → length (all_done ys (ours events)) ≡ len → Each (Inside len) (calls_of events)
    → Each (Apart at n) (others events)
    → bytes_at xs at n ≡ bytes_at ys at n → bytes_at (all_done xs (calls_of events)) at n ≡ bytes_at (all_done ys (ours events)) at n
ours_range len at n events xs ys fits long long' done_long done_long' inside apart same =
    same_bytes at n (all_done xs (calls_of events)) (all_done ys (ours events)) (omega arith) (omega arith)
    (λ k low high.
    ours_byte len events xs ys k long long' inside (Each-imp (Apart at n) (Misses k) (λ c a. misses-apart at n c k a low high)
    (others events) apart)
    (byte_of at n xs ys same k low high))
