-- What `make` makes of an image, and what a stop at any moment might have left of it.
use Rattle.std.specs.Prelude.{ℕ, ◌≡◌, ◌⊎◌, ◌++◌, List, [], ◌∷◌, Result, Ok, Err, length}
use Rattle.rp_apply_command.specs.Ends.{AtTheEnd, Given}
use Rattle.rp_defs.specs.declared.definition.Definitions.{Definitions}
use Rattle.rp_disk.specs.Calls.{resized}
use Rattle.rp_disk.specs.History.{held}
use Rattle.rp_disk.specs.Made.{Past, dones, history_of}
use Rattle.rp_disk.specs.Stops.{IsFrontOf, Leaves}
use Rattle.rp_disk.specs.declared.call.Call.{Call}
use Rattle.rp_disk.specs.declared.call.Call.TheVariants.{Sync}
use Rattle.rp_headline.specs.Left.{IsDoneWith, IsSafeIfHonest, IsSafeIfWhole}
use Rattle.rp_make_command.specs.Makes.{make_request}
use Rattle.rp_make_input.specs.MakeInput.{folders_of, seed_of, source_files, tree_for}
use Rattle.rp_make_room.specs.Room.{growth_calls, length_made, room_in}
use Rattle.rp_outcome.specs.Device.{Device}
use Rattle.rp_outcome.specs.Refusals.{Refusal}
use Rattle.rp_plan_command.specs.Statuses.{told_plan}
use Rattle.rp_planned.specs.declared.planned.Planned.{Planned}
use Rattle.rp_steps.specs.Calls.{calls as calls_for}
use Rattle.rp_steps.specs.Contents.{contents}
use Rattle.rp_stops.specs.Rows.{Contents, grown}

-- an image with zeros behind it, up to the length of one that is made
abbrev pub grown_image : List ℕ → List ℕ
grown_image old = resized old length_made

-- the definitions of a number and what is planned by them for an image, or the first refusal
abbrev pub planned_for : ℕ → List ℕ → Result (Definitions × Planned) Refusal
planned_for number image = told_plan (make_request (seed_of number)) folders_of (tree_for number) image (source_files number)

-- the calls of what is planned
abbrev pub calls_planned : ℕ → Result (Definitions × Planned) Refusal → List Call
calls_planned number (Ok told) = calls_for told.1.plan told.1.seen (Given told.0.list (source_files number))
calls_planned number (Err refusal) = []

-- the growth of an image of so many bytes, where it may be grown, and then what is planned for the grown one
abbrev pub calls_behind : ℕ → List ℕ → Result ℕ Refusal → List Call
calls_behind number old (Ok len) = growth_calls len ++ calls_planned number (planned_for number (grown_image old))
calls_behind number old (Err refusal) = []

-- all calls that make an image of a number: a sync, and those behind it
abbrev pub make_calls : ℕ → List ℕ → List Call
make_calls number old = Sync ∷ calls_behind number old (room_in old)

-- what new rows hold
abbrev pub contents_for : ℕ → List ℕ → Definitions → Planned → Contents
contents_for number image definitions planned =
    contents planned.plan (Given definitions.list (source_files number)) (grown image planned.plan)

-- a stop in the growth: no other call was made
abbrev pub IsInGrowth : List ℕ → List Call → List ℕ → Type 0
IsInGrowth old more image = IsFrontOf more (growth_calls (length old)) × Leaves old more image

-- a stop behind it, after these calls of the plan: the grown image shows no table or the goal, and where it shows the goal its rows hold
-- their contents. That is so where no torn header passes its checksum by chance, as none does where sectors are written whole or not at all
pub record IsBehindGrowth (number : ℕ) (old : List ℕ) (more : List Call) (image : List ℕ) : Type 0 where
  pub definitions : Definitions
  pub planned : Planned
  pub goal : planned_for number (grown_image old) ≡ Ok (definitions, planned)
  pub rest : List Call
  pub behind : more ≡ growth_calls (length old) ++ rest
  pub honest : IsSafeIfHonest 512 (grown_image old) planned.seen planned.plan
      (contents_for number (grown_image old) definitions planned) rest image
  pub whole : IsSafeIfWhole 512 (grown_image old) planned.seen planned.plan
      (contents_for number (grown_image old) definitions planned) rest image

-- what a stop behind the first sync leaves, after these calls
abbrev pub IsLeftInMaking : ℕ → List ℕ → List Call → List ℕ → Type 0
IsLeftInMaking number old more image = IsInGrowth old more image ⊎ IsBehindGrowth number old more image

-- an image is made: each call was done whole, and a stop leaves the goal of the grown image alone, with the contents of all its rows
pub record LeavesGoal (number : ℕ) (disk later : Device) (past : Past) : Type 0 where
  pub definitions : Definitions
  pub planned : Planned
  pub goal : planned_for number (grown_image (held (history_of past disk.calls))) ≡ Ok (definitions, planned)
  pub all : later.calls ≡ disk.calls ++ dones (make_calls number (held (history_of past disk.calls)))
  pub ends : AtTheEnd past later (IsDoneWith 512 (grown_image (held (history_of past disk.calls))) planned.seen definitions.list
      (seed_of number) planned.plan (contents_for number (grown_image (held (history_of past disk.calls))) definitions planned))
