-- A run on an idle image makes no call but its sync.
use Rattle.std.proofs.Common.{◌≡◌, ◌∙◌, ℕ, ◌/◌, ◌≤◌, List, [], ◌∷◌, ◌++◌, Some, All, Ok, length, refl, sym, ap, subst, arith}
use Rattle.std.specs.Prelude.{IfSome, max}
use Rattle.rp_base.specs.declared.plan.Change.TheVariants.{Same}
use Rattle.rp_base.specs.declared.plan.Note.{Note}
use Rattle.rp_base.specs.declared.plan.Plan.{Plan}
use Rattle.rp_base.specs.declared.seen.Seen.{Seen}
use Rattle.rp_defs.specs.declared.definition.Definition.{Definition}
use Rattle.rp_disk.specs.Blocks.{flat}
use Rattle.rp_disk.specs.History.{held}
use Rattle.rp_disk.specs.Made.{Past, history_of}
use Rattle.rp_disk.specs.Runs.{MadeFirst}
use Rattle.rp_disk.specs.declared.call.Call.{Call}
use Rattle.rp_disk.specs.declared.call.Call.TheVariants.{Sync}
use Rattle.rp_idle.specs.Idle.{IsIdle}
use Rattle.rp_idle.proofs.Public.{no_calls, nothing_left}
use Rattle.rp_io.specs.declared.stored.Stored.{Stored}
use Rattle.rp_outcome.specs.Device.{Device}
use Rattle.rp_outcome.specs.Store.{Store}
use Rattle.rp_plan.specs.Goal.{goal}
use Rattle.rp_planned.specs.Planning.{target_of}
use Rattle.rp_planned.specs.declared.planned.Planned.{Planned}
use Rattle.rp_planned.specs.declared.request.Request.{Request}
use Rattle.rp_steps.specs.Calls.{contents_calls, calls as calls_for}
use Rattle.rp_steps.specs.Steps.{steps}
use Rattle.rp_steps.proofs.Made.{calls-flat}
use Rattle.rp_stops.specs.Order.{contents_blocks, growth}
use Rattle.rp_stops.proofs.Accepting.{accepted-sized}
use Rattle.rp_apply.specs.Called.{AreAlike, AreCallsFor, calls_around, no_sources}
use Rattle.rp_apply_command.specs.Ends.{CarriesSome, StopsSafely}

none_of : {X : Type 0} (xs ys : List X) → xs ++ ys ≡ [] → (xs ≡ []) × (ys ≡ [])
none_of [] ys e = (refl, e)
none_of (x ∷ xs) ys e = absurd (cc)

no_blocks : (blocks : List (List Call)) → flat blocks ≡ [] → blocks ≡ []
no_blocks [] e = refl
no_blocks (block ∷ blocks) e = absurd (let f : Sync ∷ flat blocks ≡ [] = (none_of block (Sync ∷ flat blocks) e).1 in cc)

no_contents : (calls : List Call) → contents_blocks calls ≡ [] → calls ≡ []
no_contents [] e = refl
no_contents (call ∷ calls) e = absurd (cc)

no_others : (calls : List Call) → AreAlike calls [] → calls ≡ []
no_others [] alike = refl
no_others (call ∷ calls) alike = absurd alike

-- where a plan has no calls, none carry it out
pub none_alike : (seen : Seen) (plan : Plan) (calls : List Call) → calls_for plan seen no_sources ≡ [] → AreCallsFor seen plan calls → calls ≡ []
none_alike seen plan calls none are =
    let flat_is = calls-flat plan no_sources seen in
    let blocks = no_blocks _ (sym flat_is ∙ none) in
    let inner = (none_of (growth seen plan) _ blocks).1 in
    let writes : contents_calls plan no_sources ≡ [] = no_contents (contents_calls plan no_sources)
    (none_of (contents_blocks (contents_calls plan no_sources)) _ inner).0 in
    let body : are.body ≡ [] = no_others are.body (subst (AreAlike are.body) writes are.alike) in
    are.are ∙ ap (calls_around plan seen) (body ∙ sym writes) ∙ sym flat_is ∙ none

greatest : (a b : ℕ) → b ≤ a → max a b ≡ a
greatest a b le = grind arith

-- a run on an idle image whose length isn't to grow
module _ (request : Request) (list : List Definition) (disk later : Device) (sources : Store (List Stored)) (planned : Planned)
    (past : Past) (calls : List Call) (some : CarriesSome request list disk later sources planned (Some past) calls)
    (idle : IsIdle request.sector (held (history_of past disk.calls)) list request.seed)
    (long : request.size ≤ length (held (history_of past disk.calls))) where
  abbrev safe : StopsSafely request list disk later planned some.are.body past
  safe = some.stops

  own_length : goal planned.seen planned.seen.sectors list safe.goal.0 request.seed ≡ Ok planned.plan
  own_length =
      let known = safe.goal.1 in
      let len = (accepted-sized request.sector (held (history_of past disk.calls)) request.empty planned.seen known.of_sector known.seen_of).1.len in
      let target : target_of request.size planned.seen ≡ planned.seen.sectors = greatest planned.seen.sectors (request.size / 512) (omega (arith, len, long)) in
      subst (λ t. goal planned.seen t list safe.goal.0 request.seed ≡ Ok planned.plan) target known.goal_is

  -- its plan has no steps, and each row is noted as the same
  pub none_to_do : (steps planned.plan planned.seen ≡ []) × All (λ (note : Note). note.change ≡ Same) planned.plan.notes
  none_to_do = nothing_left request.sector (held (history_of past disk.calls)) list request.seed request.empty planned.seen safe.goal.0
      planned.plan idle safe.goal.1.seen_of safe.goal.1.known own_length

  pub no_more : calls ≡ []
  no_more = none_alike planned.seen planned.plan calls
      (no_calls request.sector (held (history_of past disk.calls)) list request.seed request.empty planned.seen safe.goal.0 planned.plan
      no_sources idle safe.goal.1.seen_of safe.goal.1.known own_length) some.are

  pub made_no_more : MadeFirst disk.calls (Sync ∷ []) later.calls
  made_no_more = subst (λ l. MadeFirst disk.calls (Sync ∷ l) later.calls) no_more some.made
