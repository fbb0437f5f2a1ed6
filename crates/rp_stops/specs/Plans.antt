-- A plan for an image, and what holds at each stop in its calls: own rules.
use Rattle.std.specs.Prelude.{ℕ, ◌≡◌, List, Ok}
use Rattle.rp_base.specs.Geometry.{IsSector}
use Rattle.rp_base.specs.Plan.{Fits}
use Rattle.rp_base.specs.Table.{TableFits}
use Rattle.rp_base.specs.declared.plan.Plan.{Plan}
use Rattle.rp_base.specs.declared.seen.Seen.{Seen}
use Rattle.rp_disk.specs.declared.call.Call.{Call}
use Rattle.rp_gpt.specs.declared.table_fault.Empty.{Empty}
use Rattle.rp_gpt.specs.Shown.{accepted}
use Rattle.rp_stops.specs.Rows.{Contents, Fills}
use Rattle.rp_stops.specs.Safe.{HoldsWhatItShows, IsSafe, KeepsRows, ShowsEither}
use Rattle.rp_stops.specs.Writers.{Event, Survive}

-- the plan fits what is seen of an image, which is accepted
pub record IsPlanFor (sector : ℕ) (old : List ℕ) (empty : Empty) (seen : Seen) (plan : Plan) : Type 0 where
  pub of_sector : IsSector sector
  pub seen_of : accepted sector old empty ≡ Ok seen
  pub fits : Fits seen plan
  pub table_fits : TableFits plan.goal

-- a stop while others write inside old rows: the old table or the goal is shown, the writes of others survive, and new rows
-- hold their contents where the goal is shown and the writes into them give these
pub record StopsWell (sector : ℕ) (old : List ℕ) (seen : Seen) (plan : Plan) (body : List Call) (events : List Event)
    (image : List ℕ) : Type 0 where
  pub shows : ShowsEither sector old plan image
  pub survive : Survive old seen events image
  pub holds : (contents : Contents) → Fills old plan contents body → HoldsWhatItShows sector old plan contents image

-- a stop where nobody else writes: the old table or the goal is shown, each old row holds its old bytes, and the image is safe
-- where the writes into new rows give their contents
pub record StopsAlone (sector : ℕ) (old : List ℕ) (seen : Seen) (plan : Plan) (body : List Call) (image : List ℕ) : Type 0 where
  pub shows : ShowsEither sector old plan image
  pub rows : KeepsRows old seen image
  pub holds : (contents : Contents) → Fills old plan contents body → IsSafe sector old seen plan contents image
