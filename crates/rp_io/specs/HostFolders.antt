-- What folders of the host are, from outside, and what a read of a listing does.
use Rattle.std.specs.Prelude.{ℕ, List, ◌++◌, ◌≡◌, Bool, true, Option}
use Rattle.std.specs.Io.KnownBytes.{Consumes, IsAtEnd}
use Rattle.rp_io.specs.declared.host_folders.HostFolders.{HostFolders}

-- how many of its calls failed, over a runtime with its types of files and folders
abbrev pub failures : {R File Dir : Type 0} → HostFolders R File Dir → ℕ
failures folders = folders.faults

-- some bytes went from what a reader has left to the end of a listing; at the end none is left
abbrev pub Adds : Option (List ℕ) → Option (List ℕ) → List ℕ → List ℕ → Bool → Type 0
Adds left now listing more is_end = ((bytes : List ℕ) × (more ≡ listing ++ bytes) × Consumes left now bytes) × (is_end ≡ true → IsAtEnd now)
