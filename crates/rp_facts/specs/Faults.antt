-- The causes of faults while sources are asked.
use Rattle.std.specs.Prelude.{ℕ, ◌≡◌, ◌≤◌, Result, Ok, Err}
use Rattle.rp_base.specs.Faults.{Rose}
use Rattle.rp_facts.specs.declared.fault.FactFault.{FactFault}
use Rattle.rp_facts.specs.declared.fault.FactFault.TheVariants.{SourceFault, Memory}

-- the count rose at a fault of the sources, and it stayed at any other answer
abbrev pub HasFactCause : {T : Type 0} → ℕ → ℕ → Result T FactFault → Type 0
HasFactCause before now (Ok value) = now ≡ before
HasFactCause before now (Err Memory) = now ≡ before
HasFactCause before now (Err SourceFault) = (before ≤ now) × Rose before now
