-- What `show` does.
use Rattle.std.specs.Prelude.{ℕ, ◌≡◌, ◌⊎◌, Bool, Result, Ok, Err, IsOkAnd, IsErrAnd}
use Rattle.rp_base.specs.Answers.{Gives}
use Rattle.rp_base.specs.Faults.{Rose}
use Rattle.rp_base.specs.declared.seen.Seen.{Seen}
use Rattle.rp_disk.specs.History.{held}
use Rattle.rp_gpt.specs.Shown.{accepted}
use Rattle.rp_gpt.specs.declared.table_fault.Empty.TheVariants.{Refuse}
use Rattle.rp_gpt.specs.declared.table_fault.TableFault.{TableFault}
use Rattle.rp_gpt.specs.declared.table_fault.TableFault.TheVariants as faults
use Rattle.rp_outcome.specs.Output.{Output, Finishes, Prints, PrintsAll, PrintsPart, Refuses}
use Rattle.rp_outcome.specs.Refusals.{disk_refusal, line_of, memory_refusal, table_refusal}
use Rattle.rp_outcome.specs.Statuses as exit
use Rattle.rp_report.specs.Reports.{show_report}
use Rattle.rp_outcome.specs.Causes.{HasCauses}
use Rattle.rp_outcome.specs.Device.{Device, IsOnlyRead, Known}

-- a disk was read alone, with this answer: what the image shows where the disk tells it, but for a failure of the disk,
-- which it counted, and want of memory
pub record Reads (sector : ℕ) (before now : Device) (answer : Result Seen TableFault) : Type 0 where
  pub only_read : IsOnlyRead before now
  pub accepted : Known before now (λ h. (answer ≡ Err faults.Disk) ⊎ Gives faults.Memory (accepted sector (held h) Refuse) answer)
  pub failed : answer ≡ Err faults.Disk → Rose before.faults now.faults
  pub kept : (answer ≡ Err faults.Disk) ⊎ (now.faults ≡ before.faults)

-- the answer is told: the table's text, unless there was no memory for it, or the refusal of the fault
abbrev pub Tells : Bool → Output → Output → ℕ → Result Seen TableFault → Type 0
Tells json before now status (Ok seen) = Finishes before now (show_report json seen) status ⊎ Refuses before now memory_refusal status
Tells json before now status (Err fault) = Refuses before now (table_refusal fault) status

-- the image is read, and what was read is told
abbrev pub Shows : ℕ → Bool → Device → Device → Output → Output → ℕ → Type 0
Shows sector json disk later out after status =
    (answer : Result Seen TableFault) × Reads sector disk later answer × Tells json out after status answer

-- what is known at each status, of the image where the disk tells it: 0, its table was printed; 9, a part, for the sink
-- failed; 4, the line of the reason why it isn't accepted; 7, that of a disk that failed
pub record ByStatus (sector : ℕ) (json : Bool) (disk later : Device) (out after : Output) (status : ℕ) : Type 0 where
  pub only_read : IsOnlyRead disk later
  pub causes : HasCauses disk later out after status
  pub one_of : (status ≡ exit.done) ⊎ (status ≡ exit.image) ⊎ (status ≡ exit.disk) ⊎ (status ≡ exit.sink) ⊎ (status ≡ exit.memory)
  pub done : status ≡ exit.done → Known disk later (λ h.
      IsOkAnd (accepted sector (held h) Refuse) (λ seen. PrintsAll out after (show_report json seen)))
  pub cut : status ≡ exit.sink → Known disk later (λ h.
      IsOkAnd (accepted sector (held h) Refuse) (λ seen. PrintsPart out after (show_report json seen)))
  pub refused : status ≡ exit.image → Known disk later (λ h.
      IsErrAnd (accepted sector (held h) Refuse) (λ fault. Prints out after (line_of (table_refusal fault))))
  pub disk_line : status ≡ exit.disk → Prints out after (line_of disk_refusal)
