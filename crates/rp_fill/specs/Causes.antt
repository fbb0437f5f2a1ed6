-- The causes of faults while a source is copied.
use Rattle.std.specs.Prelude.{ℕ, ◌≡◌, ◌≤◌, Result, Ok, Err}
use Rattle.rp_base.specs.Faults.{Rose}
use Rattle.rp_fill.specs.declared.fault.FillFault.{FillFault}
use Rattle.rp_fill.specs.declared.fault.FillFault.TheVariants.{Disk, Source}

-- the disk's count rose at a fault of the disk, and stayed at any other answer
abbrev pub HasDiskCause : {T : Type 0} → ℕ → ℕ → Result T FillFault → Type 0
HasDiskCause before now (Ok value) = now ≡ before
HasDiskCause before now (Err Disk) = (before ≤ now) × Rose before now
HasDiskCause before now (Err Source) = now ≡ before

-- the sources' count rose at a fault of theirs, and stayed at any other answer
abbrev pub HasSourceCause : {T : Type 0} → ℕ → ℕ → Result T FillFault → Type 0
HasSourceCause before now (Ok value) = now ≡ before
HasSourceCause before now (Err Disk) = now ≡ before
HasSourceCause before now (Err Source) = (before ≤ now) × Rose before now
