-- What is asked of sources that are made: no call strays.
use Rattle.std.proofs.Common.{◌≡◌, ◌⊎◌, ◌∙◌, ℕ, ◌%◌, ◌^◌, ◌≤◌, Bool, true, false, List, Option, Some, None, Result, Ok, Err, sym, ap, subst, inl, inr, All, IfSome}
use Rattle.std.specs.Option.{option_and_then}
use Rattle.std.specs.Prelude.{Any, IsSome, codes, slice_get}
use Rattle.std.proofs.lemmas.Option.{get_or_from_slice_get, slice_get_within}
use Rattle.rp_apply.specs.Sourced.{paths_of}
use Rattle.rp_apply_command.proofs.Allowed.{can_prepare}
use Rattle.rp_apply_command.proofs.Goals.{goal_by, settled_ok}
use Rattle.rp_base.specs.Geometry.{IsSector}
use Rattle.rp_base.specs.Plan.{IsWellFormed as IsPlan}
use Rattle.rp_base.specs.declared.seen.Seen.{Seen}
use Rattle.rp_base.specs.declared.table.Table.{Table}
use Rattle.rp_defs.specs.WellFormed.{IsWellFormed}
use Rattle.rp_defs.specs.declared.definition.Definition.{Definition}
use Rattle.rp_facts.specs.Sourced.{IsMissing, IsSourced, bytes_of}
use Rattle.rp_facts.proofs.Wanted.{wanted_sourced}
use Rattle.rp_gpt.specs.Accepted.{IsSeen}
use Rattle.rp_io.specs.Files.{content}
use Rattle.rp_io.specs.declared.stored.Stored.{Stored}
use Rattle.rp_outcome.specs.Device.{Device}
use Rattle.rp_outcome.specs.Refusals.{Refusal, repair_refusal, source_refusal}
use Rattle.rp_outcome.specs.Store.{Store}
use Rattle.rp_plan.specs.Goal.{goal}
use Rattle.rp_plan.proofs.Whole.{goal_well_formed}
use Rattle.rp_planned.specs.Planning.{AsksSources, PlansBy, PlansImage, PlansSeen, PlansUnless, ReadsImage, must_repair, target_of}
use Rattle.rp_planned.specs.declared.planned.Planned.{Planned}
use Rattle.rp_planned.specs.declared.request.Request.{Request}
use Rattle.rp_planned.proofs.Target.{is_plannable, target_of_seen}
use Rattle.rp_reading.specs.Stages.{Settles}
use Rattle.rp_roots.proofs.Public.{facts_are_on, goal_is_whole}
use Rattle.rp_sizes.specs.Facts.{facts}
use Rattle.rp_sizes.specs.Needs.{wanted_of}
use Rattle.rp_sizes.specs.declared.need.Fact.{Fact}
use Rattle.rp_sizes.specs.declared.need.Need.{Need}
use Rattle.rp_step.specs.Found.{HasFile}
use Rattle.rp_steps.specs.Steps.{steps}
use Rattle.rp_make_definitions.specs.Made.{IsMade}
use Rattle.rp_make_command.proofs.Copied.{have_files}

-- a definition with the source that is made has its bytes
has_bytes : (files : List Stored) (raw : List ℕ) → content files (codes "make.raw") ≡ Some raw → (o : Option (List ℕ)) → IsSome o
    → IfSome o (λ path. path ≡ codes "make.raw") → option_and_then (content files) o ≡ Some raw
has_bytes files raw there None is made = absurd (cc)
has_bytes files raw there (Some path) is made = ap (content files) made ∙ there

same_ok : (a b : List Fact) → ◌≡◌ {A = Result (List Fact) Refusal} (Ok a) (Ok b) → a ≡ b
same_ok a b e = cc

module _ (request : Request) (list : List Definition) (files : List Stored) (each : All IsMade list) (raw : List ℕ)
    (there : content files (codes "make.raw") ≡ Some raw) (disk later : Device) (sources drained : Store (List Stored))
    (told : sources.told ≡ Some files) where
  not_missing : (need : Need) → IsSourced list need → IsMissing files list need → ⊥
  not_missing need (definition, at, has) missing =
      let made : IsMade definition = subst IsMade (get_or_from_slice_get list need.file definition definition at)
      (each need.file definition (slice_get_within list need.file definition at)) in
      let found : option_and_then (bytes_of files) (slice_get list need.file) ≡ Some raw =
      ap (option_and_then (bytes_of files)) at ∙ has_bytes files raw there definition.source has made.source in
      absurd (cc)

  none_missing : (table : Table) → Any (IsMissing files list) (wanted_of table list) → ⊥
  none_missing table (k, need, below, at, missing) =
      not_missing need (subst (IsSourced list) at (wanted_sourced table list k need below)) missing

  by_asks : (table : Table) (known : Result (List Fact) Refusal) → AsksSources request.seed table list sources drained known
      → drained.strays ≡ sources.strays
  by_asks table known asks = go (subst (λ (o : Option (List Stored)). IfSome o (λ files. (drained.strays ≡ sources.strays)
      ⊎ ((known ≡ Err source_refusal) × Any (IsMissing files list) (wanted_of table list)))) told asks.strays) where
        go : (drained.strays ≡ sources.strays) ⊎ ((known ≡ Err source_refusal) × Any (IsMissing files list) (wanted_of table list))
            → drained.strays ≡ sources.strays
        go (inl same) = same
        go (inr (failed, missing)) = absurd (none_missing table missing)

  unless : (b : Bool) (seen : Seen) (answer : Result Planned Refusal) → PlansUnless b request list seen sources drained answer
      → drained.strays ≡ sources.strays
  unless true seen answer (e, same) = ap (λ (s : Store (List Stored)). s.strays) same
  unless false seen answer (known, asks, plans) = by_asks seen.shown known asks

  -- no call strays while it is planned
  pub stays_asked : (answer : Result Planned Refusal) → PlansImage request list disk later sources drained answer → drained.strays ≡ sources.strays
  stays_asked answer (seen, reads, plans) = by_seen seen plans where
    by_seen : (seen : Result Seen Refusal) → PlansSeen request list seen sources drained answer → drained.strays ≡ sources.strays
    by_seen (Err refusal) (e, same) = ap (λ (s : Store (List Stored)). s.strays) same
    by_seen (Ok seen) plans = unless (must_repair request.size seen) seen answer plans

  module _ (planned : Planned) (of_sector : IsSector request.sector) (whole : request.size % 4096 ≡ 0) (most : request.size ≤ 2 ^ 44)
      (wf : IsWellFormed list) where
    abbrev Known : Type 0
    Known = (seen : Seen) × (planned.seen ≡ seen) × IsSeen request.sector seen
        × (goal seen (target_of request.size seen) list (facts request.seed files seen.shown list) request.seed ≡ Ok planned.plan)

    by_facts : (seen : Seen) (known : Result (List Fact) Refusal) → IsSeen request.sector seen
        → AsksSources request.seed seen.shown list sources drained known → PlansBy request list seen known (Ok planned) → Known
    by_facts seen (Err refusal) is asks e = absurd (cc)
    by_facts seen (Ok known) is asks (inr e) = absurd (cc)
    by_facts seen (Ok known) is asks (inl e) =
        let told_so : Settles source_refusal (Ok (facts request.seed files seen.shown list)) (Ok known) =
        subst (λ (o : Option (List Stored)). IfSome o (λ files. Settles source_refusal (Ok (facts request.seed files seen.shown list)) (Ok known)))
        told asks.settled in
        let same : facts request.seed files seen.shown list ≡ known =
        same_ok (facts request.seed files seen.shown list) known (settled_ok source_refusal (Ok (facts request.seed files seen.shown list)) known told_so) in
        let by = goal_by request list seen known planned (goal seen (target_of request.size seen) list known request.seed) (sym e) in
        (seen, by.1, is, subst (λ (l : List Fact). goal seen (target_of request.size seen) list l request.seed ≡ Ok planned.plan) (sym same) by.0)

    by_repair : (b : Bool) (seen : Seen) → IsSeen request.sector seen → PlansUnless b request list seen sources drained (Ok planned) → Known
    by_repair true seen is e = absurd (let f : ◌≡◌ {A = Result Planned Refusal} (Ok planned) (Err repair_refusal) = e.0 in cc)
    by_repair false seen is plans = by_facts seen plans.0 is plans.1 plans.2

    known_of : PlansImage request list disk later sources drained (Ok planned) → Known
    known_of (seen, reads, plans) = by_seen seen reads plans where
      by_seen : (answer : Result Seen Refusal) → ReadsImage request.sector request.empty disk later answer
          → PlansSeen request list answer sources drained (Ok planned) → Known
      by_seen (Err refusal) reads e = absurd (let f : ◌≡◌ {A = Result Planned Refusal} (Ok planned) (Err refusal) = e.0 in cc)
      by_seen (Ok seen) reads plans = by_repair (must_repair request.size seen) seen reads.seen plans

    -- each copy of what is planned has its file
    pub files_there : PlansImage request list disk later sources drained (Ok planned)
        → All (HasFile files (paths_of list)) (steps planned.plan planned.seen)
    files_there plans =
        let k = known_of plans in
        let can = is_plannable request.sector k.0 k.2 in
        let aim = target_of_seen request.sector request.size k.0 k.2 of_sector whole most in
        let rows = goal_is_whole k.0 (target_of request.size k.0) list files request.seed planned.plan can aim wf k.3 in
        let formed = goal_well_formed k.0 (target_of request.size k.0) list (facts request.seed files k.0.shown list) request.seed planned.plan
        can aim wf (facts_are_on k.0 list files request.seed) k.3 in
        let here : IsPlan planned.seen planned.plan = subst (λ (s : Seen). IsPlan s planned.plan) (sym k.1) formed in
        have_files list files each raw there planned.seen planned.plan
        (can_prepare request list disk later sources drained planned of_sector plans here).named rows
