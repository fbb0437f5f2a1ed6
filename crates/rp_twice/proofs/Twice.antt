-- What the first run leaves is idle where it dropped none, and as long as was asked, so the second makes no call.
use Rattle.std.proofs.Common.{◌≡◌, ◌≤◌, ◌*◌, ◌/◌, ◌%◌, ◌^◌, ℕ, Bool, List, Some, Ok, length, ap, sym, subst, arith}
use Rattle.std.specs.Prelude.{IfSome, max}
use Rattle.rp_apply_command.proofs.Ended.{ends_idle, ends_so}
use Rattle.rp_apply_command.specs.Applies.{Applies, applied_report}
use Rattle.rp_apply_command.specs.Ends.{AreRead, AtTheEnd, CarriesAll, Ends, IsBefore, IsBehind, IsBetween, StopsSafely, before, behind, between, broken}
use Rattle.rp_base.specs.Geometry.{IsSector}
use Rattle.rp_base.specs.declared.guid.Guid.{Guid}
use Rattle.rp_base.specs.declared.plan.Plan.{Plan}
use Rattle.rp_base.specs.declared.seen.Seen.{Seen}
use Rattle.rp_defs.specs.declared.definition.Definition.{Definition}
use Rattle.rp_defs.specs.declared.definition.Definitions.{Definitions}
use Rattle.rp_disk.specs.Device.{CanHave}
use Rattle.rp_disk.specs.History.{held}
use Rattle.rp_disk.specs.Made.{Past, history_of}
use Rattle.rp_disk.specs.declared.call.Call.{Call}
use Rattle.rp_gpt.specs.declared.table_fault.Empty.TheVariants.{Allow}
use Rattle.rp_headline.specs.Left.{HasGoal}
use Rattle.rp_idle.specs.Idle.{IsIdle}
use Rattle.rp_io.specs.Files.{Tree}
use Rattle.rp_io.specs.declared.stored.Stored.{Stored}
use Rattle.rp_outcome.specs.Device.{Device}
use Rattle.rp_outcome.specs.Output.{Finishes, Output}
use Rattle.rp_outcome.specs.Store.{Store}
use Rattle.rp_plan.proofs.Parts.{made_of}
use Rattle.rp_plan.specs.Goal.{goal}
use Rattle.rp_planned.specs.Planning.{target_of}
use Rattle.rp_planned.specs.declared.planned.Planned.{Planned}
use Rattle.rp_planned.specs.declared.request.Request.{Request}
use Rattle.rp_reading.specs.Reading.{definitions_in}
use Rattle.rp_sizes.specs.declared.need.Fact.{Fact}
use Rattle.rp_stops.proofs.Accepting.{accepted-sized}
use Rattle.rp_stops.specs.After.{seen_after}
use Rattle.rp_twice.specs.Twice.{LeavesNothingToDo, MakesNoCall}

-- a status is no two of these
not_before : (status : ℕ) → IsBehind status → IsBefore status → ⊥
not_before status is other = grind arith

not_between : (status : ℕ) → IsBehind status → IsBetween status → ⊥
not_between status is other = grind arith

-- a plan has the target that it was planned for
target_kept : (seen : Seen) (target : ℕ) (defs : List Definition) (facts : List Fact) (seed : Guid) (plan : Plan)
    → goal seen target defs facts seed ≡ Ok plan → plan.target ≡ target
target_kept seen target defs facts seed plan is = ap (λ (p : Plan). p.target) (made_of seen target defs facts seed plan is).2.same

at_least : (size sectors : ℕ) → size % 4096 ≡ 0 → size ≤ 512 * max sectors (size / 512)
at_least size sectors whole = grind arith

module _ (request : Request) (json : Bool) (dirs : List (List ℕ)) (folders read : Store Tree) (disk later : Device)
    (sources drained : Store (List Stored)) (out after : Output) (status : ℕ) (of_sector : IsSector request.sector)
    (whole : request.size % 4096 ≡ 0) (most : request.size ≤ 2 ^ 44)
    (applies : Applies request json dirs folders read disk later sources drained out after status) (is : IsBehind status)
    (past : Past) (tree : Tree) (can : CanHave past later) (told : folders.told ≡ Some tree) where
  module _ (definitions : Definitions) (planned : Planned) (calls : List Call) (are : AreRead request dirs folders definitions)
      (all : CarriesAll request definitions.list disk later sources planned (Some past) calls)
      (finishes : Finishes out after (applied_report json definitions planned) status) where
    found : definitions_in request.arch tree dirs ≡ Ok definitions
    found = subst (λ o. IfSome o (λ tree. definitions_in request.arch tree dirs ≡ Ok definitions)) told are.told

    safe : StopsSafely request definitions.list disk later planned all.some.are.body past
    safe = all.some.stops

    abbrev Has : List ℕ → Type 0
    Has = HasGoal request.sector (held (history_of past disk.calls)) planned.seen definitions.list request.seed planned.plan

    has_goal : AtTheEnd past later Has
    has_goal = all.ends

    -- the image that is left is as long as was asked for
    long_enough : (image : List ℕ) → Has image → request.size ≤ length image
    long_enough image has =
        let len = (accepted-sized request.sector image Allow (seen_after planned.seen planned.plan) of_sector
        (has.table.taken Allow (λ e. cc))).1.len in
        let target : planned.plan.target ≡ target_of request.size planned.seen =
        target_kept planned.seen (target_of request.size planned.seen) definitions.list safe.goal.0 request.seed planned.plan
        safe.goal.1.goal_is in
        omega (arith, len, target, at_least request.size planned.seen.sectors whole)

    no_call : (image : List ℕ) → Has image → IsIdle request.sector image definitions.list request.seed → MakesNoCall request dirs tree image
    no_call image has idle empty form then gone start final files spent printed more ends other holds possible same again =
        ends_idle (record request { empty = empty }) form dirs then gone start final files spent printed more ends of_sector whole
        most again other tree definitions possible holds found
        (subst (λ i. IsIdle request.sector i definitions.list request.seed) (sym same) idle)
        (subst (λ (i : List ℕ). request.size ≤ length i) (sym same) (long_enough image has))

    nothing_left : LeavesNothingToDo request json dirs tree later out after status past
    nothing_left = record {
      definitions = definitions;
      planned = planned;
      read = found;
      told = finishes;
      idle = λ none image left. (has_goal image left).again none;
      again = λ none image left. no_call image (has_goal image left) ((has_goal image left).again none);
    }

  by_end : Ends request json dirs folders disk later sources out after status
      → LeavesNothingToDo request json dirs tree later out after status past
  by_end (before other leaves) = absurd (not_before status is other)
  by_end (broken other leaves) = absurd (not_between status is other)
  by_end (between other definitions planned are some refusal cause refuses) = absurd (not_between status is other)
  by_end (behind same definitions planned are all finishes) =
      let made = all (Some past) can in nothing_left definitions planned made.0 are made.1 finishes

  pub leaves_nothing : LeavesNothingToDo request json dirs tree later out after status past
  leaves_nothing = by_end (ends_so request json dirs folders read disk later sources drained out after status of_sector whole most applies)
