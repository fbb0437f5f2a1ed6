-- The answers of a step, for those of what it is made of: own rules.
use Rattle.std.specs.Prelude.{ℕ, List, Option, Some, None, Result, Ok, Err}
use Rattle.rp_base.specs.declared.faults.Failed.{Failed}
use Rattle.rp_fill.specs.declared.fault.FillFault.{FillFault}
use Rattle.rp_fill.specs.declared.fault.FillFault.TheVariants.{Disk, Source}
use Rattle.rp_step.specs.declared.fault.ApplyFault.{ApplyFault}
use Rattle.rp_step.specs.declared.fault.ApplyFault.TheVariants.{DiskFault, SourceFault, SourceChanged}

-- for the disk's
abbrev pub from_disk : {T : Type 0} → Result T Failed → Result T ApplyFault
from_disk (Ok value) = Ok value
from_disk (Err failed) = Err DiskFault

-- for that of copying
abbrev pub from_fill : {T : Type 0} → Result T FillFault → Result T ApplyFault
from_fill (Ok value) = Ok value
from_fill (Err Disk) = Err DiskFault
from_fill (Err Source) = Err SourceFault

-- for that of writing a tree that is planned with a root hash: one that is another tells of a source that has changed
abbrev pub from_tree : Result (Option (List ℕ)) Failed → List ℕ → Result (Unit {0}) ApplyFault
from_tree (Ok None) planned = Ok tt
from_tree (Ok (Some copied)) planned = Err (SourceChanged planned copied)
from_tree (Err failed) planned = Err DiskFault
