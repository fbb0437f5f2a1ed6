-- What a run that carries out a plan leaves, at its end and at any moment on the way: own rules.
use Rattle.std.specs.Prelude.{ℕ, ◌≡◌, ◌≢◌, ◌⊎◌, List, [], ◌∷◌, Ok, Err}
use Rattle.rp_base.specs.declared.guid.Guid.{Guid}
use Rattle.rp_base.specs.declared.plan.Plan.{Plan}
use Rattle.rp_base.specs.declared.seen.Seen.{Seen}
use Rattle.rp_defs.specs.declared.definition.Definition.{Definition}
use Rattle.rp_disk.specs.History.{History, MayLeave, held}
use Rattle.rp_disk.specs.Stops.{Leaves}
use Rattle.rp_disk.specs.declared.call.Call.{Call}
use Rattle.rp_disk.specs.declared.call.Call.TheVariants.{Sync}
use Rattle.rp_gpt.specs.Shown.{accepted}
use Rattle.rp_gpt.specs.declared.table_fault.Empty.{Empty}
use Rattle.rp_gpt.specs.declared.table_fault.Empty.TheVariants.{Require}
use Rattle.rp_gpt.specs.declared.table_fault.TableFault.TheVariants.{NotEmpty}
use Rattle.rp_headline.specs.Kept.{KeepsPlaces}
use Rattle.rp_idle.specs.Idle.{IsIdle}
use Rattle.rp_stops.specs.After.{seen_after}
use Rattle.rp_stops.specs.Final.{IsFinal}
use Rattle.rp_stops.specs.Honest.{IsTornHonest}
use Rattle.rp_stops.specs.Plans.{StopsAlone}
use Rattle.rp_stops.specs.Rows.{Contents, HoldContents}
use Rattle.rp_stops.specs.Safe.{IsSafe, KeepsRows}
use Rattle.rp_stops.specs.Sectors.{HasWholeSectors}

-- the image's table is the goal: it is accepted as the goal, by its primary, with both copies exact; where it is required to
-- show none, it is refused
pub record ShowsGoal (sector : ℕ) (seen : Seen) (plan : Plan) (image : List ℕ) : Type 0 where
  pub taken : (empty : Empty) → empty ≢ Require → accepted sector image empty ≡ Ok (seen_after seen plan)
  pub refused : accepted sector image Require ≡ Err NotEmpty

-- what there is once a plan was carried out, whatever was written into new rows: the table is the goal, every old partition
-- keeps its place and bytes, and where none was dropped a second run has nothing to do
pub record HasGoal (sector : ℕ) (old : List ℕ) (seen : Seen) (defs : List Definition) (seed : Guid) (plan : Plan) (image : List ℕ)
    : Type 0 where
  pub table : ShowsGoal sector seen plan image
  pub places : KeepsPlaces seen defs plan
  pub bytes : KeepsRows old seen image
  pub again : plan.dropped ≡ [] → IsIdle sector image defs seed

-- and where these contents were written, the image is the final one, and new rows hold them
pub record IsDoneWith (sector : ℕ) (old : List ℕ) (seen : Seen) (defs : List Definition) (seed : Guid) (plan : Plan)
    (contents : Contents) (image : List ℕ) : Type 0 where
  pub goal : HasGoal sector old seen defs seed plan image
  pub final : IsFinal old seen plan contents image
  pub new_rows : HoldContents plan contents image

-- an image that a stop might have left since a moment, when these calls had been made: it could have been left at that
-- moment already, or the first call is a sync, and the calls behind it may leave it on what was shown then, and it has Safe by them
abbrev pub IsLeft : History → (List Call → List ℕ → Type 0) → List Call → List ℕ → Type 0
IsLeft start Safe made image = MayLeave start image
    ⊎ ((more : List Call) × (made ≡ Sync ∷ more) × Leaves (held start) more image × Safe more image)

-- where no torn header passes its checksum by chance, the image shows the old table or the goal, keeps the bytes of old rows,
-- and where it shows the goal and the old one doesn't, its new rows hold their contents
abbrev pub IsSafeIfHonest : ℕ → List ℕ → Seen → Plan → Contents → List Call → List ℕ → Type 0
IsSafeIfHonest sector old seen plan contents made image = IsTornHonest sector old made image → IsSafe sector old seen plan contents image

-- the same on a disk that writes each sector whole or not at all, which needs no premise on chance
abbrev pub IsSafeIfWhole : ℕ → List ℕ → Seen → Plan → Contents → List Call → List ℕ → Type 0
IsSafeIfWhole sector old seen plan contents made image = HasWholeSectors sector old made image → IsSafe sector old seen plan contents image

-- the same whatever is written into new rows: their contents are claimed where the calls give these
abbrev pub StopsIfHonest : ℕ → List ℕ → Seen → Plan → List Call → List Call → List ℕ → Type 0
StopsIfHonest sector old seen plan body made image = IsTornHonest sector old made image → StopsAlone sector old seen plan body image

-- only a sync was made, and the image is the one that was shown
abbrev pub IsUntouched : List ℕ → List Call → List ℕ → Type 0
IsUntouched old made image = (made ≡ []) × (image ≡ old)
