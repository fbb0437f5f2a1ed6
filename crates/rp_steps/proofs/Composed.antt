-- The calls of a plan under the law of every stop.
use Rattle.std.proofs.Common.{◌≡◌, ℕ, ◌-◌, ◌*◌, List, length, replicate, arith}
use Rattle.std.proofs.lemmas.List.{length-append, length-replicate}
use Rattle.rp_base.specs.Plan.{IsWellFormed}
use Rattle.rp_base.specs.declared.plan.Plan.{Plan}
use Rattle.rp_base.specs.declared.seen.Seen.{Seen}
use Rattle.rp_stops.specs.Order.{AreCallsOf}
use Rattle.rp_stops.specs.Rows.{Fills, grown}
use Rattle.rp_steps.specs.Calls.{calls, calls_of_steps, contents_calls}
use Rattle.rp_steps.specs.Contents.{NotesFit, Sources, contents}
use Rattle.rp_steps.specs.Steps.{mbr_phases, written_copies}
use Rattle.std.specs.Prelude.{map}
use Rattle.rp_steps.proofs.Contented.{are_in_new_rows, contents_hold}
use Rattle.rp_steps.proofs.Made.{calls-flat, mbr_part, order_is}

pub are_calls : (seen : Seen) (plan : Plan) (sources : Sources) → IsWellFormed seen plan → NotesFit plan
    → AreCallsOf seen plan (contents_calls plan sources) (calls plan seen sources)
are_calls seen plan sources formed fit = record {
  order = written_copies plan seen;
  mbr = map (calls_of_steps plan sources) (mbr_phases plan seen);
  ordered = order_is seen plan;
  mbr_part = mbr_part plan sources seen;
  inside = are_in_new_rows plan sources seen formed fit (replicate (512 * plan.target) 0) (length-replicate {A = ℕ} (512 * plan.target) 0);
  are = calls-flat plan sources seen;
}

pub fills : (seen : Seen) (plan : Plan) (sources : Sources) (old : List ℕ) → IsWellFormed seen plan → NotesFit plan
    → length old ≡ 512 * seen.sectors
    → Fills old plan (contents plan sources (grown old plan)) (contents_calls plan sources)
fills seen plan sources old formed fit long =
    let zeros = 512 * plan.target - length old in
    let least = formed.target.least in
    let all : length (grown old plan) ≡ 512 * plan.target =
    omega (arith, length-append old (replicate zeros 0), length-replicate {A = ℕ} zeros 0) in
    contents_hold plan sources seen formed fit (grown old plan) all
