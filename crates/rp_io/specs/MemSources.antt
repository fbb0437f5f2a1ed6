-- What sources in memory are, from outside.
use Rattle.std.specs.Prelude.{ℕ, List, Bool, true, false, ◌≡◌, ◌+◌, ◌-◌, ◌^◌, ◌⊎◌, min, Result, OnOk, OnErr, Contains}
use Rattle.rp_io.specs.declared.mem_sources.MemSources.{MemSources}
use Rattle.rp_io.specs.declared.stored.Stored.{Stored}

-- its files
abbrev pub files_of : MemSources → List Stored
files_of sources = sources.files

-- the numbers of the calls that are to fail
abbrev pub listed : MemSources → List ℕ
listed sources = sources.fail

-- how many calls it has answered
abbrev pub made : MemSources → ℕ
made sources = sources.made

-- how many of them failed
abbrev pub failures : MemSources → ℕ
failures sources = sources.faults

-- how many of them named a path that isn't there or passed a file's end
abbrev pub stray_calls : MemSources → ℕ
stray_calls sources = sources.strays

-- a call fails exactly where its number is listed and where it reaches for what isn't there
pub record FailsExactly {T E : Type 0} (old new : MemSources) (stray : Bool) (result : Result T E) : Type 0 where
  pub number : made new ≡ min (made old + 1) (2 ^ 64 - 1)
  pub same : listed new ≡ listed old
  pub ok : OnOk result ((Contains (listed old) (made new) → ⊥) × (stray ≡ false))
  pub err : OnErr result (Contains (listed old) (made new) ⊎ (stray ≡ true))
