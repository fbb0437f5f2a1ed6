-- What a file gives to a reader, relative to what its type says of its bytes and its position.
use Rattle.std.specs.Prelude.{ℕ, List, drop, ◌≡◌, Option, Some}

-- what is left to read lies behind the position
abbrev pub ReadsAhead : {F : Type 0} → (F → Option (List ℕ)) → (F → Option ℕ) → (F → Option (List ℕ)) → Type 0
ReadsAhead {F} bytes position remaining =
    (f : F) (all : List ℕ) (at : ℕ) → bytes f ≡ Some all → position f ≡ Some at → remaining f ≡ Some (drop at all)
