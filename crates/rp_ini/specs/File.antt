-- How a file keeps its sections.
use Rattle.std.specs.Prelude.{ℕ, List, [], ◌∷◌, ◌≡◌, length, map, String, string_bytes, Vec}
use Rattle.std.specs.declared.alloc.Global.{Global}
use Rattle.rp_ini.specs.declared.assign.Assign.{Assign}
use Rattle.rp_ini.specs.Lines.{Section}

-- the sections with these names and assignments
abbrev pub sections_of : List (List ℕ) → List (Vec Assign Global) → List Section
sections_of [] lists = []
sections_of (name ∷ names) [] = []
sections_of (name ∷ names) (list ∷ lists) = record { name = name; assigns = list.items } ∷ sections_of names lists

-- the index has the names in order, and there is a list of assignments for each
pub record IsIndexed (keys : List (String Global)) (names : List (List ℕ)) (lists : List (Vec Assign Global)) : Type 0 where
  pub keyed : map string_bytes keys ≡ names
  pub paired : length names ≡ length lists
