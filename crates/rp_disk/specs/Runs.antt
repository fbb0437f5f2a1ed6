-- What functions that make calls on a disk say of them.
use Rattle.std.specs.Prelude.{List, [], ℕ, ◌∷◌, ◌++◌, ◌≡◌, ◌⊎◌, ◌<◌, length, Result, OnOk, OnErr}
use Rattle.rp_disk.specs.declared.call.Call.{Call}
use Rattle.rp_disk.specs.declared.call.Call.TheVariants.{Sync}
use Rattle.rp_disk.specs.Calls.{all_done}
use Rattle.rp_disk.specs.Stops.{Leaves, IsFrontOf}
use Rattle.rp_disk.specs.History.{History, Failed, IsSettled, MayLeave, LeftSince, held, moment, all_did, and_failed}
use Rattle.rp_disk.specs.Made.{Made, Done, Broke, Past, dones, count_done, history_of}

-- the first of the planned calls, each done whole but perhaps the last, which failed
abbrev pub AreFirst : List Made → List Call → Type 0
AreFirst [] plan = Unit {0}
AreFirst (made ∷ mades) [] = ⊥
AreFirst (Done call ∷ mades) (due ∷ plan) = (call ≡ due) × AreFirst mades plan
AreFirst (Broke call ∷ mades) (due ∷ plan) = (call ≡ due) × (mades ≡ [])

-- since the old calls the first of the planned ones were made
abbrev pub MadeFirst : List Made → List Call → List Made → Type 0
MadeFirst old plan new = (made : List Made) × AreFirst made plan × (new ≡ old ++ made)

-- the same, and not all of them were done whole
abbrev pub BrokeOff : List Made → List Call → List Made → Type 0
BrokeOff old plan new = (made : List Made) × AreFirst made plan × (count_done made < length plan) × (new ≡ old ++ made)

-- a run that is to make the planned calls: at Ok each was done whole, else it broke off before
pub record Runs {T E : Type 0} (old : List Made) (plan : List Call) (new : List Made) (result : Result T E) : Type 0 where
  pub ok : OnOk result (new ≡ old ++ dones plan)
  pub err : OnErr result (BrokeOff old plan new)

-- from the start on these calls were made, and each answered Ok but perhaps the last; where that is a sync it is none of them
abbrev pub Went : History → List Call → History → Type 0
Went start calls now = (now ≡ all_did start calls)
    ⊎ ((made : List Call) × (last : Call) × (after : List ℕ) × (calls ≡ and_failed made last)
    × (now ≡ Failed (all_did start made) last after))

-- whatever a disk held: from a start where nothing was pending, at any moment since, the calls made by then are the first
-- of the planned, and a stop leaves what it may leave of them on the bytes shown at the start
abbrev pub AtAnyMoment : List Made → List Call → List Made → Type 0
AtAnyMoment old plan new = (past : Past) → IsSettled (history_of past old)
    → (made : List Call) (image : List ℕ) → LeftSince (history_of past new) (moment (history_of past old)) made image
    → IsFrontOf made plan × Leaves (held (history_of past old)) made image

-- the same of a sync and then the planned, from any start: the image could have been left at the start already, or that
-- sync was done, and the calls behind it are the first of the planned
abbrev pub AtAnyMomentBehindSync : List Made → List Call → List Made → Type 0
AtAnyMomentBehindSync old plan new = (past : Past)
    (made : List Call) (image : List ℕ) → LeftSince (history_of past new) (moment (history_of past old)) made image
    → MayLeave (history_of past old) image
    ⊎ ((more : List Call) × (made ≡ Sync ∷ more) × IsFrontOf more plan × Leaves (held (history_of past old)) more image)

-- whatever it held: the bytes shown are those of all planned calls, and nothing is pending
abbrev pub EndsSettled : List Made → List Call → List Made → Type 0
EndsSettled old plan new = (past : Past) → IsSettled (history_of past new)
    × (held (history_of past new) ≡ all_done (held (history_of past old)) plan)
