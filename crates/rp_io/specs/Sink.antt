-- What a sink tells.
use Rattle.std.specs.Prelude.{ℕ, List, ◌++◌, ◌≡◌, take, Option, Some}

-- a first part of these bytes was appended to what it had taken
abbrev pub TookPart : List ℕ → List ℕ → Option (List ℕ) → Type 0
TookPart taken bytes now = (count : ℕ) × (now ≡ Some (taken ++ take count bytes))
