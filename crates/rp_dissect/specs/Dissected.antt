-- What a policy says of an image (systemd.image-policy(7)).
use Rattle.std.specs.Prelude.{ℕ, List, Result, Ok, Err}
use Rattle.rp_base.specs.declared.seen.Seen.{Seen}
use Rattle.rp_base.specs.declared.table.Row.{Row}
use Rattle.rp_gpt.specs.Shown.{accepted}
use Rattle.rp_gpt.specs.declared.table_fault.Empty.TheVariants.{Refuse}
use Rattle.rp_gpt.specs.declared.table_fault.TableFault.{TableFault}
use Rattle.rp_gpt.specs.declared.table_fault.TableFault.TheVariants as table
use Rattle.rp_policy.specs.declared.policy.Policy.{Policy}
use Rattle.rp_types.specs.declared.arch.Arch.{Arch}
use Rattle.rp_verdict.specs.Verdicts.{listed, whole}
use Rattle.rp_verdict.specs.declared.verdict.DissectFault.{DissectFault}
use Rattle.rp_verdict.specs.declared.verdict.DissectFault.TheVariants as faults
use Rattle.rp_verdict.specs.declared.verdict.Verdicts.{Verdicts}
use Rattle.rp_dissect.specs.Kinds.{found_of}

-- the verdicts on the rows of an image, or the first denial in the order of designators
unfoldable pub verdicts_on : List ℕ → Arch → Policy → List Row → Result Verdicts DissectFault
verdicts_on image arch policy rows = whole arch rows (listed policy arch rows (found_of image arch rows))

-- a fault of the table: a failure of the disk and want of memory stand for themselves
abbrev pub of_table : TableFault → DissectFault
of_table table.Disk = faults.Disk
of_table table.Memory = faults.Memory
of_table fault = faults.Table fault

-- the verdicts on what is seen of an image, or why it isn't accepted
abbrev pub of_seen : List ℕ → Arch → Policy → Result Seen TableFault → Result Verdicts DissectFault
of_seen image arch policy (Ok seen) = verdicts_on image arch policy seen.shown.rows
of_seen image arch policy (Err fault) = Err (of_table fault)

-- the verdicts on an image that is cut into sectors of so many bytes, or the first fault
unfoldable pub verdicts : ℕ → List ℕ → Arch → Policy → Result Verdicts DissectFault
verdicts sector image arch policy = of_seen image arch policy (accepted sector image Refuse)
