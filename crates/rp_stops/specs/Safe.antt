-- What an image is that a stop may leave of a plan's calls: own rules.
use Rattle.std.specs.Prelude.{ℕ, ◌≡◌, ◌≢◌, ◌⊎◌, ◌*◌, List, All, length}
use Rattle.rp_base.specs.Image.{range_of}
use Rattle.rp_base.specs.declared.plan.Plan.{Plan}
use Rattle.rp_base.specs.declared.seen.Seen.{Seen}
use Rattle.rp_gpt.specs.declared.table_fault.TableFault.{TableFault}
use Rattle.rp_gpt.specs.Shown.{refuses, shown, shows}
use Rattle.rp_stops.specs.Rows.{Contents, HoldContents}

-- the image has the old length or the target's, and shows what the old one shows, or the goal; it isn't refused
pub record ShowsEither (sector : ℕ) (old : List ℕ) (plan : Plan) (image : List ℕ) : Type 0 where
  pub len : (length image ≡ length old) ⊎ (length image ≡ 512 * plan.target)
  pub table : (shown sector image ≡ shown sector old) ⊎ (shown sector image ≡ shows plan.goal)
  pub accepted : (fault : TableFault) → shown sector image ≢ refuses fault

-- where the goal is shown, and the old image doesn't show it, each new row holds its contents
abbrev pub HoldsWhatItShows : ℕ → List ℕ → Plan → Contents → List ℕ → Type 0
HoldsWhatItShows sector old plan contents image =
    shown sector image ≡ shows plan.goal → shown sector old ≢ shows plan.goal → HoldContents plan contents image

-- each old row holds its old bytes
abbrev pub KeepsRows : List ℕ → Seen → List ℕ → Type 0
KeepsRows old seen image = All (λ row. range_of image row ≡ range_of old row) seen.shown.rows

-- an image is safe
pub record IsSafe (sector : ℕ) (old : List ℕ) (seen : Seen) (plan : Plan) (contents : Contents) (image : List ℕ) : Type 0 where
  pub shows : ShowsEither sector old plan image
  pub rows : KeepsRows old seen image
  pub holds : HoldsWhatItShows sector old plan contents image
