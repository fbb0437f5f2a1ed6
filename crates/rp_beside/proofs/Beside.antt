-- A run beside other writers: the law of every stop, of the calls of steps.
use Rattle.std.proofs.Common.{◌≡◌, ◌++◌, ℕ, List}
use Rattle.rp_base.specs.declared.plan.Plan.{Plan}
use Rattle.rp_base.specs.declared.seen.Seen.{Seen}
use Rattle.rp_disk.specs.Stops.{Leaves}
use Rattle.rp_gpt.specs.declared.table_fault.Empty.{Empty}
use Rattle.rp_steps.specs.Calls.{calls, contents_calls}
use Rattle.rp_steps.specs.Contents.{NotesFit, Sources, contents}
use Rattle.rp_steps.proofs.Composed.{are_calls, fills}
use Rattle.rp_stops.specs.Honest.{IsTornHonest}
use Rattle.rp_stops.specs.Plans.{IsPlanFor, StopsWell}
use Rattle.rp_stops.specs.Rows.{grown}
use Rattle.rp_stops.specs.Writers.{Event, Interleaves, calls_of}
use Rattle.rp_stops.proofs.Accepting.{accepted-sized}
use Rattle.rp_stops.proofs.Carried.{stops}
use Rattle.rp_beside.specs.Beside.{IsSafeBeside}

pub safe_beside : (sector : ℕ) (old : List ℕ) (empty : Empty) (seen : Seen) (plan : Plan) (sources : Sources) (events front rest : List Event)
    (image : List ℕ) → IsPlanFor sector old empty seen plan → NotesFit plan → Interleaves seen (calls plan seen sources) events
    → front ++ rest ≡ events → Leaves old (calls_of front) image → IsTornHonest sector old (calls_of front) image
    → IsSafeBeside sector old seen plan (contents plan sources (grown old plan)) front image
safe_beside sector old empty seen plan sources events front rest image is fit live cut left honest =
    let well : StopsWell sector old seen plan (contents_calls plan sources) front image =
    stops sector old empty seen plan (contents_calls plan sources) (calls plan seen sources) events front rest image is
    (are_calls seen plan sources is.fits.well_formed fit) live cut left honest in
    record {
      shows = well.shows;
      survive = well.survive;
      holds = well.holds (contents plan sources (grown old plan))
          (fills seen plan sources old is.fits.well_formed fit (accepted-sized sector old empty seen is.of_sector is.seen_of).1.len);
    }
