-- What is planned for an image can be carried out.
use Rattle.std.proofs.Common.{◌≡◌, ◌≤◌, ℕ, ◌+◌, ◌*◌, ◌/◌, Bool, true, false, List, [], ◌∷◌, ◌++◌, length, Option, Some, None, Result, Ok, Err, refl, sym, ap, ◌∙◌, subst, inl, inr, arith, All, map}
use Rattle.std.specs.Prelude.{◌==◌, cond, IfSome, IsSome, find, slice_get}
use Rattle.std.specs.List.{enumerate_from}
use Rattle.std.specs.Option.{option_map}
use Rattle.std.proofs.lemmas.Bool.{eqb-true}
use Rattle.std.proofs.lemmas.List.Elements.{All-append, All-cons, All-head, All-nil, All-tail}
use Rattle.rp_base.specs.Geometry.{IsSector}
use Rattle.rp_base.specs.Plan.{IsWellFormed as IsPlan}
use Rattle.rp_base.specs.declared.guid.Guid.{Guid}
use Rattle.rp_base.specs.declared.plan.Note.{Note}
use Rattle.rp_base.specs.declared.plan.Plan.{Plan}
use Rattle.rp_base.specs.declared.seen.Seen.{Seen}
use Rattle.rp_base.specs.declared.table.Row.{Row}
use Rattle.rp_defs.specs.declared.definition.Definition.{Definition}
use Rattle.rp_disk.specs.History.{held}
use Rattle.rp_disk.specs.Made.{history_of}
use Rattle.rp_facts.specs.Sourced.{IsSourced}
use Rattle.rp_facts.proofs.Wanted.{wanted_sourced}
use Rattle.rp_gpt.specs.Shown.{accepted}
use Rattle.rp_io.specs.declared.stored.Stored.{Stored}
use Rattle.rp_outcome.specs.Device.{Device}
use Rattle.rp_outcome.specs.Refusals.{Refusal, disk_refusal, repair_refusal}
use Rattle.rp_outcome.specs.Store.{Store}
use Rattle.rp_plan.specs.Goal.{goal, notes_of}
use Rattle.rp_plan.specs.Kept.{first_free, kept_files, kept_of}
use Rattle.rp_plan.specs.Notes.{new_note, old_note}
use Rattle.rp_plan.proofs.Parts.{made_of}
use Rattle.rp_planned.specs.Planning.{AsksSources, PlansBy, PlansImage, PlansSeen, PlansUnless, ReadsImage, must_repair, seen_of, target_of}
use Rattle.rp_planned.specs.declared.planned.Planned.{Planned}
use Rattle.rp_planned.specs.declared.request.Request.{Request}
use Rattle.rp_reading.specs.Stages.{Settles}
use Rattle.rp_sizes.specs.Needs.{AreFactsOn, fact_of, matched_of, wanted_of}
use Rattle.rp_sizes.specs.declared.need.Fact.{Fact}
use Rattle.rp_sizes.specs.declared.need.Need.{Need}
use Rattle.rp_stops.specs.Order.{target_sectors}
use Rattle.rp_stops.proofs.Accepting.{accepted-sized}
use Rattle.rp_apply.specs.Sourced.{NamesSource}
use Rattle.rp_apply_command.specs.Carrying.{CanPrepare, HasSeenLength}
use Rattle.rp_apply_command.proofs.Goals.{accepted_of, goal_by, settled_ok}

-- a definition at a place has a source
abbrev HasSource : List Definition → ℕ → Type 0
HasSource defs file = (definition : Definition) × (slice_get defs file ≡ Some definition) × IsSome definition.source

-- a fact is one on the source of a definition
sourced_by : (defs : List Definition) (facts : List Fact) (needs : List Need) (file : ℕ) (fact : Fact)
    → map (λ (f : Fact). f.file) facts ≡ map (λ (n : Need). n.file) needs → All (IsSourced defs) needs → fact_of facts file ≡ Some fact
    → HasSource defs file
sourced_by defs [] needs file fact same each found = absurd (cc)
sourced_by defs (f ∷ facts) [] file fact same each found = absurd (cc)
sourced_by defs (f ∷ facts) (need ∷ needs) file fact same each found =
    by (f.file == file) refl found
    (λ e. sourced_by defs facts needs file fact tail_is (All-tail (IsSourced defs) need needs each) e) where
      head_is : f.file ≡ need.file
      head_is = cc

      tail_is : map (λ (f : Fact). f.file) facts ≡ map (λ (n : Need). n.file) needs
      tail_is = cc

      by : (b : Bool) → (f.file == file) ≡ b → cond b (Some f) (fact_of facts file) ≡ Some fact
          → (fact_of facts file ≡ Some fact → HasSource defs file) → HasSource defs file
      by true is e later = subst (HasSource defs) (sym head_is ∙ eqb-true f.file file is) (All-head (IsSourced defs) need needs each)
      by false is e later = later e

module _ (seen : Seen) (defs : List Definition) (facts : List Fact) (seed : Guid) (are : AreFactsOn (wanted_of seen.shown defs) facts) where
  old_named : (goal : List Row) (rows : List (ℕ × Row)) → All (NamesSource defs) (map (old_note (matched_of seen.shown defs) goal) rows)
  old_named goal [] = All-nil (NamesSource defs)
  old_named goal (row ∷ rows) = All-cons (NamesSource defs) _ _ tt (old_named goal rows)

  named_by : (file : ℕ) (o : Option Fact) → fact_of facts file ≡ o
      → IfSome (option_map (λ (f : Fact). f.len) o) (λ bytes. IfSome (Some file) (HasSource defs))
  named_by file None is = tt
  named_by file (Some fact) is = sourced_by defs facts (wanted_of seen.shown defs) file fact are.files (wanted_sourced seen.shown defs) is

  new_named : (free : ℕ) (kept : List ℕ) (taken : List (ℕ × (ℕ × Definition)))
      → All (NamesSource defs) (map (new_note seed defs facts free kept) taken)
  new_named free kept [] = All-nil (NamesSource defs)
  new_named free kept (one ∷ taken) =
      All-cons (NamesSource defs) _ _ (named_by one.1.0 (fact_of facts one.1.0) refl) (new_named free kept taken)

  -- each source of a goal is that of a definition
  goal_named : (target : ℕ) (plan : Plan) → goal seen target defs facts seed ≡ Ok plan → All (NamesSource defs) plan.notes
  unfolding notes_of
  goal_named target plan is =
      let made = made_of seen target defs facts seed plan is in
      let matched = matched_of seen.shown defs in
      let kept = kept_files matched made.1.threshold defs in
      let notes = ap (λ (p : Plan). p.notes) made.2.same in
      subst (All (NamesSource defs)) (sym notes)
      (All-append (NamesSource defs) _ _ (old_named plan.goal.rows (enumerate_from 0 seen.shown.rows))
      (new_named (first_free seen.shown.rows) kept (enumerate_from (first_free seen.shown.rows) (kept_of matched made.1.threshold defs))))

module _ (request : Request) (list : List Definition) (disk later : Device) (sources drained : Store (List Stored)) (planned : Planned)
    (of_sector : IsSector request.sector) where
  -- what was seen and known
  record Known : Type 0 where
    seen : Seen
    facts : List Fact
    reads : ReadsImage request.sector request.empty disk later (Ok seen)
    are : AreFactsOn (wanted_of seen.shown list) facts
    same : planned.seen ≡ seen
    is : goal seen (target_of request.size seen) list facts request.seed ≡ Ok planned.plan

  by_facts : (seen : Seen) (known : Result (List Fact) Refusal) → ReadsImage request.sector request.empty disk later (Ok seen)
      → AsksSources request.seed seen.shown list sources drained known → PlansBy request list seen known (Ok planned) → Known
  by_facts seen (Err refusal) reads asks e = absurd (cc)
  by_facts seen (Ok facts) reads asks (inl e) =
      let is = goal_by request list seen facts planned (goal seen (target_of request.size seen) list facts request.seed) (sym e) in
      record { seen = seen; facts = facts; reads = reads; are = asks.each; same = is.1; is = is.0 }
  by_facts seen (Ok facts) reads asks (inr e) = absurd (cc)

  by_repair : (seen : Seen) (b : Bool) → ReadsImage request.sector request.empty disk later (Ok seen)
      → PlansUnless b request list seen sources drained (Ok planned) → Known
  by_repair seen true reads e = absurd (let f : ◌≡◌ {A = Result Planned Refusal} (Ok planned) (Err repair_refusal) = e.0 in cc)
  by_repair seen false reads plans = by_facts seen plans.0 reads plans.1 plans.2

  known : PlansImage request list disk later sources drained (Ok planned) → Known
  known plans = by_seen plans.0 plans.1 plans.2 where
    by_seen : (answer : Result Seen Refusal) → ReadsImage request.sector request.empty disk later answer
        → PlansSeen request list answer sources drained (Ok planned) → Known
    by_seen (Err refusal) reads e = absurd (let f : ◌≡◌ {A = Result Planned Refusal} (Ok planned) (Err refusal) = e.0 in cc)
    by_seen (Ok seen) reads plans = by_repair seen (must_repair request.size seen) reads plans

  pub can_prepare : PlansImage request list disk later sources drained (Ok planned) → IsPlan planned.seen planned.plan → CanPrepare list planned
  can_prepare plans formed =
      let k = known plans in
      record {
        formed = formed;
        named = goal_named k.seen list k.facts request.seed k.are (target_of request.size k.seen) planned.plan k.is;
      }

  -- the disk has the bytes that were seen
  pub seen_length : PlansImage request list disk later sources drained (Ok planned) → HasSeenLength planned later
  seen_length plans = λ past can.
      let k = known plans in
      let image = held (history_of past disk.calls) in
      let is = accepted_of (accepted request.sector image request.empty) k.seen
      (settled_ok disk_refusal (seen_of request.sector request.empty image) k.seen (k.reads.settled past can)) in
      subst (λ l. length (held (history_of past l)) ≡ 512 * planned.seen.sectors) (sym k.reads.only_read.calls)
      ((accepted-sized request.sector image request.empty k.seen of_sector is).1.len ∙ ap (λ (s : Seen). 512 * s.sectors) (sym k.same))
