-- Files and folders: a finite map from paths to bytes, and the folders that are there.
use Rattle.std.specs.Prelude.{ℕ, List, [], ◌∷◌, ◌++◌, ◌≡◌, ◌+◌, ◌≤◌, Bool, true, false, ◌&&◌, not, if◌then◌else◌, ◌==◌, nat_le, nat_lt, ⊤, Option, Some, None, length, drop, find, fold, filter_map, option_map}
use Rattle.std.specs.List.{list_any}
use Rattle.std.specs.Str.{bytes_eq}
use Rattle.std.specs.List.Sorted.{IsPermutation}
use Rattle.rp_base.specs.Image.{bytes_at}
use Rattle.rp_io.specs.declared.stored.Stored.{Stored}
use Rattle.rp_io.specs.declared.folders.Content.{Content}
use Rattle.rp_io.specs.declared.folders.Content.TheVariants.{Whole, More}

-- the paths of the folders that are there, and the files with their paths
pub record Tree : Type 0 where
  pub folders : List (List ℕ)
  pub files : List Stored

-- the bytes at a path: of two files with the same path those of the first
abbrev pub content : List Stored → List ℕ → Option (List ℕ)
content files path = option_map (λ file. file.bytes) (find (λ file. bytes_eq file.path path) files)

-- whether a folder is there
abbrev pub has_folder : Tree → List ℕ → Bool
has_folder tree folder = list_any (λ each. bytes_eq each folder) tree.folders

-- a name isn't empty and has no slash
abbrev pub is_name : List ℕ → Bool
is_name name = not (bytes_eq name []) && not (list_any (λ byte. byte == 47) name)

-- the name of a path in a folder: what follows the folder's path and a slash, if it is a name
abbrev pub name_of : List ℕ → List ℕ → Option (List ℕ)
name_of folder path =
    let name = drop (length folder + 1) path in
    if bytes_eq path (folder ++ 47 ∷ name) && is_name name then Some name else None

-- the names with one more, if it isn't among them
abbrev pub with_name : List (List ℕ) → List ℕ → List (List ℕ)
with_name names name = if list_any (λ each. bytes_eq each name) names then names else names ++ name ∷ []

-- the names of the files in a folder, each once
abbrev pub names_in : List Stored → List ℕ → List (List ℕ)
names_in files folder = fold with_name [] (filter_map (λ file. name_of folder file.path) files)

-- the names of the files in a folder in some order, or none exactly where the folder isn't there
abbrev pub IsListing : Tree → List ℕ → Option (List (List ℕ)) → Type 0
IsListing tree folder None = has_folder tree folder ≡ false
IsListing tree folder (Some names) = (has_folder tree folder ≡ true) × IsPermutation (names_in tree.files folder) names

-- what a read with a limit gives of these bytes
abbrev pub limited : ℕ → List ℕ → Content
limited limit bytes = if nat_le (length bytes) limit then Whole bytes else More

-- a content that is whole has at most this many bytes
abbrev pub IsWithin : ℕ → Content → Type 0
IsWithin limit (Whole bytes) = length bytes ≤ limit
IsWithin limit More = ⊤

-- the file isn't there, or a range with this end passes its end
abbrev pub passes : Option (List ℕ) → ℕ → Bool
passes None end = true
passes (Some bytes) end = nat_lt (length bytes) end

-- what was read are the bytes in this range of the file
abbrev pub Reads : Option (List ℕ) → ℕ → ℕ → List ℕ → Type 0
Reads None at size read = ⊥
Reads (Some bytes) at size read = (at + size ≤ length bytes) × (read ≡ bytes_at bytes at size)
