-- What folders in memory are, from outside.
use Rattle.std.specs.Prelude.{ℕ, List, Bool, true, false, ◌≡◌, ◌+◌, ◌-◌, ◌^◌, ◌⊎◌, min, Result, Ok, Err, Contains}
use Rattle.rp_io.specs.declared.mem_folders.MemFolders.{MemFolders}
use Rattle.rp_io.specs.declared.fault.IoFault.{IoFault}
use Rattle.rp_io.specs.declared.fault.IoFault.TheVariants.{Failed, Memory}
use Rattle.rp_io.specs.Files.{Tree}

-- the files and folders that are there
abbrev pub tree : MemFolders → Tree
tree folders = record { folders = folders.dirs; files = folders.files }

-- the numbers of the calls that are to fail
abbrev pub listed : MemFolders → List ℕ
listed folders = folders.fail

-- how many calls it has answered
abbrev pub made : MemFolders → ℕ
made folders = folders.made

-- how many of them failed
abbrev pub failures : MemFolders → ℕ
failures folders = folders.faults

-- how many of them read a path that isn't there
abbrev pub stray_calls : MemFolders → ℕ
stray_calls folders = folders.strays

-- the answer is a failure exactly where the call is to fail or reaches for what isn't there
abbrev pub FailsFor : {T : Type 0} → Type 0 → Bool → Result T IoFault → Type 0
FailsFor chosen stray (Ok value) = (chosen → ⊥) × (stray ≡ false)
FailsFor chosen stray (Err Memory) = (chosen → ⊥) × (stray ≡ false)
FailsFor chosen stray (Err Failed) = chosen ⊎ (stray ≡ true)

-- a call fails exactly where its number is listed and where it reaches for what isn't there
pub record FailsExactly {T : Type 0} (old new : MemFolders) (stray : Bool) (result : Result T IoFault) : Type 0 where
  pub number : made new ≡ min (made old + 1) (2 ^ 64 - 1)
  pub same : listed new ≡ listed old
  pub answer : FailsFor (Contains (listed old) (made new)) stray result
