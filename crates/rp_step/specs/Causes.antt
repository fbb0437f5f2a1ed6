-- The causes of faults while a plan is carried out: own rules.
use Rattle.std.specs.Prelude.{ℕ, ◌≡◌, ◌≤◌, Result, Ok, Err}
use Rattle.rp_base.specs.Faults.{Rose}
use Rattle.rp_step.specs.declared.fault.ApplyFault.{ApplyFault}
use Rattle.rp_step.specs.declared.fault.ApplyFault.TheVariants.{DiskFault, SourceFault, SourceChanged}

-- the disk's count rose at a fault of the disk, and stayed at any other answer
abbrev pub HasDiskCause : {T : Type 0} → ℕ → ℕ → Result T ApplyFault → Type 0
HasDiskCause before now (Ok value) = now ≡ before
HasDiskCause before now (Err DiskFault) = (before ≤ now) × Rose before now
HasDiskCause before now (Err SourceFault) = now ≡ before
HasDiskCause before now (Err (SourceChanged planned copied)) = now ≡ before

-- the sources' count rose at a fault of theirs, and stayed at any other answer
abbrev pub HasSourceCause : {T : Type 0} → ℕ → ℕ → Result T ApplyFault → Type 0
HasSourceCause before now (Ok value) = now ≡ before
HasSourceCause before now (Err DiskFault) = now ≡ before
HasSourceCause before now (Err SourceFault) = (before ≤ now) × Rose before now
HasSourceCause before now (Err (SourceChanged planned copied)) = now ≡ before
