-- Calls that are those of a plan, but for the bytes of new rows, are calls of which the law of every stop speaks.
use Rattle.std.proofs.Common.{List, [], ◌∷◌, map, arith}
use Rattle.rp_base.specs.Plan.{IsWellFormed}
use Rattle.rp_base.specs.declared.plan.Plan.{Plan}
use Rattle.rp_base.specs.declared.seen.Seen.{Seen}
use Rattle.rp_base.specs.declared.table.Row.{Row}
use Rattle.rp_disk.specs.Stops.{Each}
use Rattle.rp_disk.specs.declared.call.Call.{Call}
use Rattle.rp_disk.specs.declared.call.Call.TheVariants.{Write, Sync, SetLen}
use Rattle.rp_steps.specs.Calls.{calls_of_steps, contents_calls}
use Rattle.rp_steps.specs.Contents.{NotesFit}
use Rattle.rp_steps.specs.Steps.{mbr_phases, written_copies}
use Rattle.rp_steps.proofs.Composed.{are_calls}
use Rattle.rp_steps.proofs.Made.{mbr_part, order_is}
use Rattle.rp_stops.specs.Order.{AreCallsOf}
use Rattle.rp_stops.specs.Rows.{IsInNewRow, IsInside}
use Rattle.rp_apply.specs.Called.{AreAlike, AreCallsFor, IsAlike, no_sources}

inside_alike : (row : Row) (call other : Call) → IsAlike call other → IsInside row other → IsInside row call
inside_alike row (Write at bytes) (Write place others) alike inside = (omega (arith, alike.0, inside.0), omega (arith, alike.0, alike.1, inside.1))
inside_alike row (Write at bytes) Sync alike inside = absurd alike
inside_alike row (Write at bytes) (SetLen len) alike inside = absurd alike
inside_alike row Sync (Write place others) alike inside = absurd alike
inside_alike row Sync Sync alike inside = absurd inside
inside_alike row Sync (SetLen len) alike inside = absurd alike
inside_alike row (SetLen len) (Write place others) alike inside = absurd alike
inside_alike row (SetLen len) Sync alike inside = absurd alike
inside_alike row (SetLen len) (SetLen other) alike inside = absurd inside

all_inside : (plan : Plan) (calls others : List Call) → AreAlike calls others → Each (IsInNewRow plan) others → Each (IsInNewRow plan) calls
all_inside plan [] [] alike inside = tt
all_inside plan [] (other ∷ others) alike inside = absurd alike
all_inside plan (call ∷ calls) [] alike inside = absurd alike
all_inside plan (call ∷ calls) (other ∷ others) alike inside =
    let at = inside.0 in (
      (at.0, at.1, at.2, at.3, (at.4.0, inside_alike at.1.0 call other alike.0 at.4.1)),
      all_inside plan calls others alike.1 inside.1,
    )

pub are_calls_for : (seen : Seen) (plan : Plan) (calls : List Call) → IsWellFormed seen plan → NotesFit plan → (are : AreCallsFor seen plan calls)
    → AreCallsOf seen plan are.body calls
are_calls_for seen plan calls formed fit are = record {
  order = written_copies plan seen;
  mbr = map (calls_of_steps plan no_sources) (mbr_phases plan seen);
  ordered = order_is seen plan;
  mbr_part = mbr_part plan no_sources seen;
  inside = all_inside plan are.body (contents_calls plan no_sources) are.alike (are_calls seen plan no_sources formed fit).inside;
  are = are.are;
}
