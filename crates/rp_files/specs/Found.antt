-- What is found in the folders, as the code keeps it.
use Rattle.std.specs.Prelude.{ℕ, List, ◌≡◌, ◌++◌, filter, map, String, string_bytes, All, IsSome}
use Rattle.std.specs.declared.alloc.Global.{Global}
use Rattle.rp_files.specs.declared.found.Group.{Group as Kept}
use Rattle.rp_files.specs.Pieces.{Found, Group, in_order, found_in, is_candidate, candidates}
use Rattle.rp_io.specs.Files.{Tree, content}

-- an entry by its bytes
abbrev pub bytes_of : String Global × String Global → Found
bytes_of entry = (string_bytes entry.0, string_bytes entry.1)

abbrev pub found_of : List (String Global × String Global) → List Found
found_of entries = map bytes_of entries

-- where the entries so far are what was found earlier, in order, they are now so with these names of a folder
abbrev pub AddsNames : List ℕ → List (List ℕ) → List (String Global × String Global) → List (String Global × String Global) → Type 0
AddsNames folder names before now = (earlier : List Found) → found_of before ≡ in_order earlier
    → found_of now ≡ in_order (earlier ++ map (found_in folder) (filter is_candidate names))

-- the same with the candidates of a folder
abbrev pub AddsFolder : Tree → List ℕ → List (String Global × String Global) → List (String Global × String Global) → Type 0
AddsFolder tree folder before now = (earlier : List Found) → found_of before ≡ in_order earlier
    → found_of now ≡ in_order (earlier ++ map (found_in folder) (candidates tree folder))

abbrev pub group_of : Kept → Group
group_of kept = record { main = bytes_of kept.main; parts = found_of kept.parts.items }

-- each of these files is there
abbrev pub AreThere : Tree → List Found → Type 0
AreThere tree found = All (λ (file : Found). IsSome (content tree.files file.1)) found
