-- What a run of `apply` answers where sources tell what they hold.
use Rattle.std.specs.Prelude.{ℕ, ◌≡◌, ◌⊎◌, List, Result, Ok, Err}
use Rattle.rp_base.specs.Faults.{Rose}
use Rattle.rp_defs.specs.declared.definition.Definitions.{Definitions}
use Rattle.rp_io.specs.Files.{Tree}
use Rattle.rp_io.specs.declared.stored.Stored.{Stored}
use Rattle.rp_outcome.specs.Device.{Device}
use Rattle.rp_outcome.specs.Output.{Output}
use Rattle.rp_outcome.specs.Refusals.{Refusal}
use Rattle.rp_outcome.specs.Statuses as exit
use Rattle.rp_outcome.specs.Store.{Store}
use Rattle.rp_planned.specs.declared.planned.Planned.{Planned}
use Rattle.rp_apply_command.specs.Ends.{IsBefore}

-- each status but 0, 3, 4, 5 and 10 comes with a call that failed: 7 with one of the disk, 8 with one of the folders or the sources, 9
-- with one of the sink; 11 doesn't come
abbrev pub HasReason : Store Tree → Store Tree → Device → Device → Store (List Stored) → Store (List Stored) → Output → Output → ℕ → Type 0
HasReason folders read disk later sources drained out after status =
    IsBefore status ⊎ (status ≡ exit.done)
    ⊎ ((status ≡ exit.disk) × Rose disk.faults later.faults)
    ⊎ ((status ≡ exit.files) × (Rose folders.faults read.faults ⊎ Rose sources.faults drained.faults))
    ⊎ ((status ≡ exit.sink) × Rose out.faults after.faults)

-- no call of folders, disk, sources and sink failed
pub record NoneFailed (folders read : Store Tree) (disk later : Device) (sources drained : Store (List Stored))
    (out after : Output) : Type 0 where
  pub by_folders : ¬ Rose folders.faults read.faults
  pub by_disk : ¬ Rose disk.faults later.faults
  pub by_sources : ¬ Rose sources.faults drained.faults
  pub by_sink : ¬ Rose out.faults after.faults

-- the answer to what is told: done where that is a plan, else the status of the refusal; or there was no memory
abbrev pub AnswersAsTold : ℕ → Result (Definitions × Planned) Refusal → Type 0
AnswersAsTold status (Ok told) = (status ≡ exit.done) ⊎ (status ≡ exit.memory)
AnswersAsTold status (Err refusal) = (status ≡ refusal.status) ⊎ (status ≡ exit.memory)
