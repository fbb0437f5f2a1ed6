-- The causes of faults of folders.
use Rattle.std.specs.Prelude.{ℕ, ◌≡◌, ◌≤◌, Result, Ok, Err}
use Rattle.rp_base.specs.Faults.{Rose}
use Rattle.rp_io.specs.declared.fault.IoFault.{IoFault}
use Rattle.rp_io.specs.declared.fault.IoFault.TheVariants.{Failed, Memory}

-- the count rose at a failure, and it stayed at any other answer
abbrev pub HasIoCause : {T : Type 0} → ℕ → ℕ → Result T IoFault → Type 0
HasIoCause before now (Ok value) = now ≡ before
HasIoCause before now (Err Memory) = now ≡ before
HasIoCause before now (Err Failed) = (before ≤ now) × Rose before now
