-- Vectors as the words of four messages: a vector is the list of its lanes.
use Rattle.std.specs.Prelude.{ℕ, List, [], ◌∷◌, map, slice_index, slice_index_or}

-- the eight words of a state in a lane
abbrev pub lane : ℕ → List (List ℕ) → List ℕ
lane j state =
    slice_index (slice_index_or state 0 []) j ∷ slice_index (slice_index_or state 1 []) j ∷ slice_index (slice_index_or state 2 []) j
    ∷ slice_index (slice_index_or state 3 []) j ∷ slice_index (slice_index_or state 4 []) j ∷ slice_index (slice_index_or state 5 []) j
    ∷ slice_index (slice_index_or state 6 []) j ∷ slice_index (slice_index_or state 7 []) j ∷ []

-- the words of a window in a lane
abbrev pub window_lane : ℕ → List (List ℕ) → List ℕ
window_lane j w = map (λ v. slice_index v j) w

-- the message of a lane
abbrev pub pick : ℕ → List ℕ → List ℕ → List ℕ → List ℕ → List ℕ
pick j a b c d = slice_index_or (a ∷ b ∷ c ∷ d ∷ []) j []
