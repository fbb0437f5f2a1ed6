-- What calls may do to the rows of a plan, and what the new rows hold: own rules.
use Rattle.std.specs.Prelude.{ℕ, ◌≡◌, ◌+◌, ◌*◌, ◌-◌, ◌≤◌, ◌<◌, List, ◌++◌, All, Any, length, replicate}
use Rattle.rp_base.specs.Image.{range_of}
use Rattle.rp_base.specs.Plan.{Noted, noted_of}
use Rattle.rp_base.specs.declared.plan.Change.TheVariants.{New}
use Rattle.rp_base.specs.declared.plan.Plan.{Plan}
use Rattle.rp_base.specs.declared.seen.Seen.{Seen}
use Rattle.rp_base.specs.declared.table.Row.{Row}
use Rattle.rp_disk.specs.declared.call.Call.{Call}
use Rattle.rp_disk.specs.declared.call.Call.TheVariants.{Write, Sync, SetLen}
use Rattle.rp_disk.specs.Calls.{all_done}

-- the old image with zeros behind, up to the target's length
abbrev pub grown : List ℕ → Plan → List ℕ
grown old plan = old ++ replicate (512 * plan.target - length old) 0

-- a write wholly inside the bytes of a row
abbrev pub IsInside : Row → Call → Type 0
IsInside row (Write at bytes) = (512 * row.start ≤ at) × (at + length bytes ≤ 512 * (row.start + row.size))
IsInside row Sync = ⊥
IsInside row (SetLen len) = ⊥

-- the byte is one of a row's
abbrev pub IsByteOf : Row → ℕ → Type 0
IsByteOf row k = (512 * row.start ≤ k) × (k < 512 * (row.start + row.size))

-- a write inside an old row
abbrev pub IsInOldRow : Seen → Call → Type 0
IsInOldRow seen call = Any (λ row. IsInside row call) seen.shown.rows

-- a write inside a new row
abbrev pub IsInNewRow : Plan → Call → Type 0
IsInNewRow plan call = Any (λ noted. (noted.1.change ≡ New) × IsInside noted.0 call) (noted_of plan)

-- the bytes that are planned for a row: of new rows alone
abbrev pub Contents : Type 0
Contents = Noted → List ℕ

-- each new row of an image holds its contents
abbrev pub HoldContents : Plan → Contents → List ℕ → Type 0
HoldContents plan contents image = All (λ noted. noted.1.change ≡ New → range_of image noted.0 ≡ contents noted) (noted_of plan)

-- these calls, done whole on the image grown to its target, give the contents
abbrev pub Fills : List ℕ → Plan → Contents → List Call → Type 0
Fills old plan contents calls = HoldContents plan contents (all_done (grown old plan) calls)
