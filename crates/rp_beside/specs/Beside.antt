-- What a stop leaves while other programs write inside the old partitions of an image: own rules.
use Rattle.std.specs.Prelude.{ℕ, List}
use Rattle.rp_base.specs.declared.plan.Plan.{Plan}
use Rattle.rp_base.specs.declared.seen.Seen.{Seen}
use Rattle.rp_stops.specs.Rows.{Contents}
use Rattle.rp_stops.specs.Safe.{HoldsWhatItShows, ShowsEither}
use Rattle.rp_stops.specs.Writers.{Event, Survive}

-- the image shows the old table or the goal; what others wrote into old rows survives as far as it would without us; and where the
-- goal is shown, and the old image doesn't show it, new rows hold their contents
pub record IsSafeBeside (sector : ℕ) (old : List ℕ) (seen : Seen) (plan : Plan) (contents : Contents) (events : List Event)
    (image : List ℕ) : Type 0 where
  pub shows : ShowsEither sector old plan image
  pub survive : Survive old seen events image
  pub holds : HoldsWhatItShows sector old plan contents image
