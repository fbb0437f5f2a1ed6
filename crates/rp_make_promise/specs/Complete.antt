-- With what status a run of `make` ends on a disk that can have a past.
use Rattle.std.specs.Prelude.{ℕ, ◌≡◌, ◌⊎◌, List, Result, Ok, Err}
use Rattle.rp_base.specs.Faults.{Rose}
use Rattle.rp_defs.specs.declared.definition.Definitions.{Definitions}
use Rattle.rp_make_promise.specs.Leaves.{grown_image, planned_for}
use Rattle.rp_make_room.specs.Room.{room_in}
use Rattle.rp_outcome.specs.Device.{Device}
use Rattle.rp_outcome.specs.Output.{Output}
use Rattle.rp_outcome.specs.Refusals.{Refusal}
use Rattle.rp_outcome.specs.Statuses as exit
use Rattle.rp_planned.specs.declared.planned.Planned.{Planned}

-- statuses of a run in which no call has to have failed
abbrev pub IsOwn : ℕ → Type 0
IsOwn status =
    (status ≡ exit.done) ⊎ (status ≡ exit.image) ⊎ (status ≡ exit.demand) ⊎ (status ≡ exit.memory)

-- each other comes with a call that failed: 7 with one of the disk, 9 with one of the sink; and there is none but these
abbrev pub HasReason : Device → Device → Output → Output → ℕ → Type 0
HasReason disk later out after status =
    IsOwn status ⊎ ((status ≡ exit.disk) × Rose disk.faults later.faults) ⊎ ((status ≡ exit.sink) × Rose out.faults after.faults)

-- the answer to what is planned: it is done; else the status of the refusal. Or there was no memory
abbrev pub AnswersPlanned : ℕ → Result (Definitions × Planned) Refusal → Type 0
AnswersPlanned status (Ok told) = (status ≡ exit.done) ⊎ (status ≡ exit.memory)
AnswersPlanned status (Err refusal) = (status ≡ refusal.status) ⊎ (status ≡ exit.memory)

-- the answer to an image: that to what is planned for the grown one, where it may be grown; else the status of its refusal
abbrev pub AnswersRoom : ℕ → ℕ → List ℕ → Result ℕ Refusal → Type 0
AnswersRoom number status old (Ok len) = AnswersPlanned status (planned_for number (grown_image old))
AnswersRoom number status old (Err refusal) = (status ≡ refusal.status) ⊎ (status ≡ exit.memory)

abbrev pub AnswersImage : ℕ → ℕ → List ℕ → Type 0
AnswersImage number status old = AnswersRoom number status old (room_in old)
