-- What holds of lanes.
use Rattle.std.proofs.Common.{◌≡◌, ℕ, zero, suc, ◌<◌, ◌+◌, ◌-◌, ◌*◌, ◌/◌, ◌%◌, ◌^◌, List, [], ◌∷◌, length, map, slice_index, slice_index_or, slice_set, bit_or, arith, refl}
use Rattle.std.proofs.lemmas.List.{get_or-map, map-set}
use Rattle.std.specs.Int.{w32, rotate_right}
use Rattle.std.specs.Simd.Lanes.{zip2}
use Rattle.rp_lanes.specs.Lanes.{lane, window_lane}

-- what holds of each of four
pub below_four : (P : ℕ → Type 0) → P 0 → P 1 → P 2 → P 3 → (j : ℕ) → j < 4 → P j
below_four P p0 p1 p2 p3 zero h = p0
below_four P p0 p1 p2 p3 (suc zero) h = p1
below_four P p0 p1 p2 p3 (suc (suc zero)) h = p2
below_four P p0 p1 p2 p3 (suc (suc (suc zero))) h = p3
below_four P p0 p1 p2 p3 (suc (suc (suc (suc n)))) h = absurd (omega arith)

-- what holds of each list of four
pub of_four : {A : Type 0} → (P : List A → Type 0) → ((a b c d : A) → P (a ∷ b ∷ c ∷ d ∷ [])) → (xs : List A) → length xs ≡ 4 → P xs
of_four P p (a ∷ b ∷ c ∷ d ∷ []) h = p a b c d
of_four P p [] h = absurd (omega arith)
of_four P p (a ∷ []) h = absurd (omega arith)
of_four P p (a ∷ b ∷ []) h = absurd (omega arith)
of_four P p (a ∷ b ∷ c ∷ []) h = absurd (omega arith)
of_four P p (a ∷ b ∷ c ∷ d ∷ e ∷ xs) h = absurd (omega arith)

abbrev Rotates : ℕ → List ℕ → Type 0
Rotates k a = (j : ℕ) → j < 4
    → slice_index (zip2 bit_or
    (zip2 (λ x n. x / 2 ^ n) a (k ∷ k ∷ k ∷ k ∷ []))
    (zip2 (λ x n. x * 2 ^ n % 2 ^ 32) a ((32 - k) ∷ (32 - k) ∷ (32 - k) ∷ (32 - k) ∷ []))) j
    ≡ rotate_right w32 (slice_index a j) k

-- two shifts of each lane and an or are a rotation
pub shifts_rotate : (k : ℕ) → 0 < k → k < 32 → (a : List ℕ) → length a ≡ 4 → Rotates k a
shifts_rotate k low high =
    let right : k % 32 ≡ k = omega arith in
    let left : (32 - k) % 32 ≡ 32 - k = omega arith in
    of_four (Rotates k) (λ a0 a1 a2 a3.
    below_four _ (rw (right, left) refl) (rw (right, left) refl) (rw (right, left) refl) (rw (right, left) refl))

abbrev Shifts : ℕ → List ℕ → Type 0
Shifts k a = (j : ℕ) → j < 4 → slice_index (zip2 (λ x n. x / 2 ^ n) a (k ∷ k ∷ k ∷ k ∷ [])) j ≡ slice_index a j / 2 ^ k

pub shifts : (k : ℕ) → (a : List ℕ) → length a ≡ 4 → Shifts k a
shifts k = of_four (Shifts k) (λ a0 a1 a2 a3. below_four _ refl refl refl refl)

-- a word of a window in a lane
pub window_at : (w : List (List ℕ)) (j i : ℕ) → i < length w → slice_index (window_lane j w) i ≡ slice_index (slice_index_or w i []) j
window_at w j i h = get_or-map (λ v. slice_index v j) w i [] 0 h

-- a window in a lane, with a word set
pub window_set : (w : List (List ℕ)) (j i : ℕ) (x : List ℕ)
    → window_lane j (slice_set w i x) ≡ slice_set (window_lane j w) i (slice_index x j)
window_set w j i x = map-set (λ v. slice_index v j) w i x

-- a word of a state in a lane
pub lane_at : (state : List (List ℕ)) (j i : ℕ) → i < 8 → slice_index (lane j state) i ≡ slice_index (slice_index_or state i []) j
lane_at state j zero h = refl
lane_at state j (suc zero) h = refl
lane_at state j (suc (suc zero)) h = refl
lane_at state j (suc (suc (suc zero))) h = refl
lane_at state j (suc (suc (suc (suc i)))) h =
    below_four (λ k. slice_index (lane j state) (suc (suc (suc (suc k))))
    ≡ slice_index (slice_index_or state (suc (suc (suc (suc k)))) []) j)
    refl refl refl refl i (omega arith)

-- four values, each of its own element
pub map_four : {A B : Type 0} → (f : A → B) (d : A) (r0 r1 r2 r3 : B) (xs : List A) → length xs ≡ 4
    → r0 ≡ f (slice_index_or xs 0 d) → r1 ≡ f (slice_index_or xs 1 d) → r2 ≡ f (slice_index_or xs 2 d) → r3 ≡ f (slice_index_or xs 3 d)
    → r0 ∷ r1 ∷ r2 ∷ r3 ∷ [] ≡ map f xs
map_four f d r0 r1 r2 r3 =
    of_four (λ xs. r0 ≡ f (slice_index_or xs 0 d) → r1 ≡ f (slice_index_or xs 1 d)
    → r2 ≡ f (slice_index_or xs 2 d) → r3 ≡ f (slice_index_or xs 3 d)
    → r0 ∷ r1 ∷ r2 ∷ r3 ∷ [] ≡ map f xs)
    (λ x0 x1 x2 x3 e0 e1 e2 e3. rw (e0, e1, e2, e3) refl)
