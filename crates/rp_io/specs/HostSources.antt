-- What sources of the host are, from outside, and what is asked of their files.
use Rattle.std.specs.Prelude.{ℕ, List, ◌≡◌, Option, Some, drop}
use Rattle.rp_io.specs.declared.host_sources.HostSources.{HostSources}

-- how many of its calls failed, over a runtime with its types of files and folders
abbrev pub failures : {R File Dir : Type 0} → HostSources R File Dir → ℕ
failures sources = sources.faults

-- a file of known bytes, at a known place, gives those from this place on
abbrev pub PlacesRest : {F : Type 0} → (F → Option ℕ) → (F → Option (List ℕ)) → (F → Option (List ℕ)) → Type 0
PlacesRest {F} place bytes rest = (file : F) (all : List ℕ) (at : ℕ) → bytes file ≡ Some all → place file ≡ Some at
    → rest file ≡ Some (drop at all)
