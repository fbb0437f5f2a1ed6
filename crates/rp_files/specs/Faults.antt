-- The causes of faults while definition files are read.
use Rattle.std.specs.Prelude.{ℕ, ◌≡◌, ◌≤◌, Result, Ok, Err, ⊤}
use Rattle.rp_base.specs.Faults.{Rose}
use Rattle.rp_files.specs.declared.fault.LoadFault.{LoadFault}
use Rattle.rp_files.specs.declared.fault.LoadFault.TheVariants.{FolderFault, TooMany, TooBig, Memory}

-- the count rose at a fault of the folders, and it stayed at any other answer
abbrev pub HasLoadCause : {T : Type 0} → ℕ → ℕ → Result T LoadFault → Type 0
HasLoadCause before now (Ok value) = now ≡ before
HasLoadCause before now (Err FolderFault) = (before ≤ now) × Rose before now
HasLoadCause before now (Err TooMany) = now ≡ before
HasLoadCause before now (Err (TooBig file part)) = now ≡ before
HasLoadCause before now (Err Memory) = now ≡ before

-- the call gives the answer of the definition, as it is seen, unless the folders failed or it found no memory
abbrev pub Loads : {S T : Type 0} → (S → T) → Result T LoadFault → Result S LoadFault → Type 0
Loads view answer (Ok value) = answer ≡ Ok (view value)
Loads view answer (Err FolderFault) = ⊤
Loads view answer (Err TooMany) = answer ≡ Err TooMany
Loads view answer (Err (TooBig file part)) = answer ≡ Err (TooBig file part)
Loads view answer (Err Memory) = ⊤

-- a fault of the folders or of memory, as a call passes it on
abbrev pub IsPassed : LoadFault → Type 0
IsPassed FolderFault = ⊤
IsPassed TooMany = ⊥
IsPassed (TooBig file part) = ⊥
IsPassed Memory = ⊤
