-- What a tree puts: blocks with their places.
use Rattle.std.specs.Prelude.{ℕ, ◌≡◌, List, [], ◌++◌, Option, Some, IfSome, map, take, slice_index_or}

-- the blocks of these places, each with its place
abbrev pub placed : List (List ℕ) → List ℕ → List (ℕ × List ℕ)
placed tree places = map (λ place. (place, slice_index_or tree place [])) places

-- of these puts some first ones were added, maybe all
abbrev pub AddedSome : List (ℕ × List ℕ) → List (ℕ × List ℕ) → Option (List (ℕ × List ℕ)) → Type 0
AddedSome before puts told = (count : ℕ) × (told ≡ Some (before ++ take count puts))

-- where an object tells what it took, these puts were added
abbrev pub Added : Option (List (ℕ × List ℕ)) → List (ℕ × List ℕ) → Option (List (ℕ × List ℕ)) → Type 0
Added told puts now = IfSome told (λ before. now ≡ Some (before ++ puts))

-- where it tells, some of these puts were added, the first ones
abbrev pub AddedPart : Option (List (ℕ × List ℕ)) → List (ℕ × List ℕ) → Option (List (ℕ × List ℕ)) → Type 0
AddedPart told puts now = IfSome told (λ before. AddedSome before puts now)
