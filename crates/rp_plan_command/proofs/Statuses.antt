-- What `plan` promises, by its exit status.
use Rattle.std.proofs.Common.{ℕ, ◌≡◌, ◌⊎◌, ◌≤◌, List, Bool, true, false, Option, Some, None, Result, Ok, Err, IfSome, refl, sym, ◌∙◌, ap, subst, inl, inr, arith}
use Rattle.rp_base.specs.Faults.{Rose}
use Rattle.rp_base.specs.declared.plan.Plan.{Plan}
use Rattle.rp_base.specs.declared.seen.Seen.{Seen}
use Rattle.rp_defs.specs.declared.definition.Definition.{Definition}
use Rattle.rp_defs.specs.declared.definition.Definitions.{Definitions}
use Rattle.rp_demand.specs.declared.demand.Demand.{Demand}
use Rattle.rp_demand.specs.declared.demand.Demand.TheVariants as demands
use Rattle.rp_disk.specs.History.{held}
use Rattle.rp_io.specs.Files.{Tree}
use Rattle.rp_io.specs.declared.stored.Stored.{Stored}
use Rattle.rp_outcome.specs.Demands.{demand_refusal}
use Rattle.rp_outcome.specs.Device.{Device, IsOnlyRead, Known}
use Rattle.rp_disk.specs.Made.{Past, history_of, history_told}
use Rattle.rp_disk.proofs.Noting.{earlier_same, known_told}
use Rattle.rp_outcome.specs.Output.{Output, Prints, Refuses}
use Rattle.rp_outcome.specs.Refusals.{Refusal, disk_refusal, folder_refusal, line_of, memory_refusal, repair_refusal, source_refusal}
use Rattle.rp_outcome.specs.Store.{Store}
use Rattle.rp_plan.specs.Goal.{goal}
use Rattle.rp_plan_command.proofs.Ended.{Told, by_disk, by_files, by_finish, by_memory, by_refusal, not_refused}
use Rattle.rp_plan_command.specs.Plans.{Plans, PlansBehind, Tells}
use Rattle.rp_plan_command.specs.Statuses.{ByStatus, IsRefused, told_plan}
use Rattle.rp_planned.specs.Planning.{AsksSources, IsImageRefusal, PlansBy, PlansSeen, PlansUnless, ReadsImage, must_repair, planned_by, planned_of, planned_unless, seen_of, target_of, with_seen}
use Rattle.rp_planned.specs.declared.planned.Planned.{Planned}
use Rattle.rp_planned.specs.declared.request.Request.{Request}
use Rattle.rp_reading.specs.Reading.{IsReadingRefusal, ReadsDefinitions, definitions_in}
use Rattle.rp_reading.specs.Stages.{HasStageCause, Settles, and_then, refused}
use Rattle.rp_sizes.specs.Facts.{facts}
use Rattle.rp_sizes.specs.declared.need.Fact.{Fact}

same_err : {T : Type 0} (a b : Refusal) → ◌≡◌ {A = Result T Refusal} (Err a) (Err b) → a ≡ b
same_err a b e = cc

-- a stage that answered did so by the definition
settled_ok : {T : Type 0} (failure : Refusal) (ideal : Result T Refusal) (value : T) → Settles failure ideal (Ok value) → ideal ≡ Ok value
settled_ok failure ideal value (inl same) = sym same
settled_ok failure ideal value (inr (inl e)) = absurd (cc)
settled_ok failure ideal value (inr (inr e)) = absurd (cc)

-- so did one that refused with another status than those of failures and of want of memory
settled_err : {T : Type 0} (failure refusal : Refusal) (ideal : Result T Refusal) → Settles failure ideal (Err refusal) → IsRefused refusal.status
    → 6 ≤ failure.status → ideal ≡ Err refusal
settled_err failure refusal ideal (inl same) is far = sym same
settled_err failure refusal ideal (inr (inl e)) is far =
    not_refused refusal.status failure.status is (ap (λ (r : Refusal). r.status) (same_err refusal failure e)) far
settled_err failure refusal ideal (inr (inr e)) is far =
    not_refused refusal.status 10 is (ap (λ (r : Refusal). r.status) (same_err refusal memory_refusal e)) (omega arith)

-- what follows from what each of three tells
where_each : {A B C : Type 0} (o : Option A) (p : Option B) (q : Option C) (F : A → Type 0) (G : B → Type 0) (H : C → Type 0) (P : A → B → C → Type 0)
    → ((a : A) (b : B) (c : C) → F a → G b → H c → P a b c) → IfSome o F → IfSome p G → IfSome q H
    → IfSome o (λ a. IfSome p (λ b. IfSome q (λ c. P a b c)))
where_each None p q F G H P all f g h = tt
where_each (Some a) None q F G H P all f g h = tt
where_each (Some a) (Some b) None F G H P all f g h = tt
where_each (Some a) (Some b) (Some c) F G H P all f g h = all a b c f g h

where_one : {A : Type 0} (o : Option A) (F G : A → Type 0) → ((a : A) → F a → G a) → IfSome o F → IfSome o G
where_one None F G more f = tt
where_one (Some a) F G more f = more a f

-- of another nothing is asked
where_any : {A : Type 0} (o : Option A) → IfSome o (λ _. Unit {0})
where_any None = tt
where_any (Some a) = tt

-- no failed call was passed over
kept_ok : {T : Type 0} (failure : Refusal) (before now : ℕ) (value : T) → HasStageCause failure before now (Ok value) → now ≡ before
kept_ok failure before now value cause = go cause.kept where
  go : {T : Type 0} {value : T} → (◌≡◌ {A = Result T Refusal} (Ok value) (Err failure)) ⊎ (now ≡ before) → now ≡ before
  go (inl e) = absurd (cc)
  go (inr same) = same

kept_err : {T : Type 0} (failure refusal : Refusal) (before now : ℕ) → HasStageCause {T = T} failure before now (Err refusal)
    → (refusal.status ≡ failure.status → ⊥) → now ≡ before
kept_err {T = T} failure refusal before now cause apart = go cause.kept where
  go : (◌≡◌ {A = Result T Refusal} (Err refusal) (Err failure)) ⊎ (now ≡ before) → now ≡ before
  go (inl e) = absurd (apart (ap (λ (r : Refusal). r.status) (same_err refusal failure e)))
  go (inr same) = same

failed_err : {T : Type 0} (failure refusal : Refusal) (before now : ℕ) → HasStageCause {T = T} failure before now (Err refusal) → refusal ≡ failure → Rose before now
failed_err failure refusal before now cause is = cause.failed (ap Err is)

-- the line of a refusal that is another
printed_as : (out after : Output) (refusal other : Refusal) (status : ℕ) → Refuses out after refusal status → refusal ≡ other
    → Prints out after (line_of other)
printed_as out after refusal other status refuses same = subst (λ (r : Refusal). Prints out after (line_of r)) same refuses.printed

-- the refusal of a demand, or of want of memory
demand_status : (list : List Definition) (demand : Demand) → ((demand_refusal list demand).status ≡ 5) ⊎ (demand_refusal list demand ≡ memory_refusal)
demand_status list (demands.ResetMix file) = inl refl
demand_status list (demands.VerityHalf file) = inl refl
demand_status list (demands.SourceTooLarge file need max) = inl refl
demand_status list (demands.Existing file need have) = inl refl
demand_status list (demands.Room file need largest) = inl refl
demand_status list (demands.Slot file) = inl refl
demand_status list (demands.TakenIdentifier file) = inl refl
demand_status list (demands.NoIdentifier file) = inl refl
demand_status list demands.Memory = inr refl

-- a disk that wasn't asked was read alone
not_asked : (disk later : Device) → later ≡ disk → IsOnlyRead disk later
not_asked disk later same = subst (IsOnlyRead disk) (sym same) (record { calls = refl; earlier = earlier_same disk; inside = λ past can. refl })

-- what is told of all, by what is told of the definitions and of the image
plan_told : (request : Request) (dirs : List (List ℕ)) (tree : Tree) (image : List ℕ) (files : List Stored) (definitions : Definitions) (answer : Result Planned Refusal)
    → definitions_in request.arch tree dirs ≡ Ok definitions → planned_of request definitions.list image files ≡ answer
    → told_plan request dirs tree image files ≡ and_then answer (λ planned. Ok (definitions, planned))
plan_told request dirs tree image files definitions answer told planned =
    ap (λ (d : Result Definitions Refusal). and_then d (λ definitions.
    and_then (planned_of request definitions.list image files) (λ planned. Ok (definitions, planned)))) told
    ∙ ap (λ (p : Result Planned Refusal). and_then p (λ planned. Ok (definitions, planned))) planned

image_told : (request : Request) (list : List Definition) (image : List ℕ) (files : List Stored) (seen : Result Seen Refusal)
    → seen_of request.sector request.empty image ≡ seen
    → planned_of request list image files ≡ and_then seen (λ seen. planned_unless (must_repair request.size seen) request list files seen)
image_told request list image files seen told =
    ap (λ (s : Result Seen Refusal). and_then s (λ seen. planned_unless (must_repair request.size seen) request list files seen)) told

module _ (request : Request) (json : Bool) (dirs : List (List ℕ)) (folders read : Store Tree) (disk later : Device)
    (sources drained : Store (List Stored)) (out after : Output) (status : ℕ) where
  -- the definitions are refused, and nothing else was asked
  by_definitions : (refusal : Refusal) → ReadsDefinitions request.arch dirs folders read (Err refusal) → IsReadingRefusal refusal
      → later ≡ disk → Refuses out after refusal status
      → ByStatus request json dirs folders read disk later sources drained out after status
  by_definitions refusal reads (inl is) same refuses =
      by_refusal request json dirs folders read disk later sources drained out after status refusal (not_asked disk later same)
      (ap (λ (d : Device). d.faults) same) (inl is)
      (λ o can. where_each folders.told (history_told o disk.calls) sources.told
      (λ tree. Settles folder_refusal (definitions_in request.arch tree dirs) (Err refusal)) (λ _. Unit {0}) (λ _. Unit {0})
      (λ tree h files. told_plan request dirs tree (held h) files ≡ Err refusal)
      (λ tree h files settles image none.
      ap (λ (d : Result Definitions Refusal). and_then d (λ definitions.
      and_then (planned_of request definitions.list (held h) files) (λ planned. Ok (definitions, planned))))
      (settled_err folder_refusal refusal (definitions_in request.arch tree dirs) settles (inl is) (omega arith)))
      reads.settled (where_any (history_told o disk.calls)) (where_any sources.told))
      refuses
  by_definitions refusal reads (inr (inl failed)) same refuses =
      by_files request json dirs folders read disk later sources drained out after status (not_asked disk later same)
      (ap (λ (d : Device). d.faults) same)
      (inl (failed_err folder_refusal refusal folders.faults read.faults reads.cause failed, printed_as out after refusal folder_refusal status refuses failed))
      (refuses.answers ∙ ap (λ (r : Refusal). r.status) failed)
  by_definitions refusal reads (inr (inr want)) same refuses =
      by_memory request json dirs folders read disk later sources drained out after status (not_asked disk later same)
      (ap (λ (d : Device). d.faults) same) (refuses.answers ∙ ap (λ (r : Refusal). r.status) want)

  module _ (definitions : Definitions) (reads : ReadsDefinitions request.arch dirs folders read (Ok definitions)) where
    -- what the folders tell
    listed : IfSome folders.told (λ tree. definitions_in request.arch tree dirs ≡ Ok definitions)
    listed = where_one folders.told (λ tree. Settles folder_refusal (definitions_in request.arch tree dirs) (Ok definitions))
        (λ tree. definitions_in request.arch tree dirs ≡ Ok definitions)
        (λ tree settles. settled_ok folder_refusal (definitions_in request.arch tree dirs) definitions settles) reads.settled

    -- the image is refused, and the sources weren't asked
    by_image : (refusal : Refusal) → ReadsImage request.sector request.empty disk later (Err refusal) → IsImageRefusal refusal
        → Refuses out after refusal status → ByStatus request json dirs folders read disk later sources drained out after status
    by_image refusal image (inl is) refuses =
        by_refusal request json dirs folders read disk later sources drained out after status refusal image.only_read
        (kept_err disk_refusal refusal disk.faults later.faults image.cause (λ e. not_refused refusal.status 7 (inr (inl is)) e (omega arith)))
        (inr (inl is))
        (λ o can. where_each folders.told (history_told o disk.calls) sources.told (λ tree. definitions_in request.arch tree dirs ≡ Ok definitions)
        (λ h. Settles disk_refusal (seen_of request.sector request.empty (held h)) (Err refusal)) (λ _. Unit {0})
        (λ tree h files. told_plan request dirs tree (held h) files ≡ Err refusal)
        (λ tree h files told settles none. plan_told request dirs tree (held h) files definitions (Err refusal) told
        (image_told request definitions.list (held h) files (Err refusal)
        (settled_err disk_refusal refusal (seen_of request.sector request.empty (held h)) settles (inr (inl is)) (omega arith))))
        listed (known_told o disk later _ image.settled can) (where_any sources.told))
        refuses
    by_image refusal image (inr (inl failed)) refuses =
        by_disk request json dirs folders read disk later sources drained out after status image.only_read
        (failed_err disk_refusal refusal disk.faults later.faults image.cause failed) (refuses.answers ∙ ap (λ (r : Refusal). r.status) failed)
        (printed_as out after refusal disk_refusal status refuses failed)
    by_image refusal image (inr (inr want)) refuses =
        let e : refusal.status ≡ 10 = ap (λ (r : Refusal). r.status) want in
        by_memory request json dirs folders read disk later sources drained out after status image.only_read
        (kept_err disk_refusal refusal disk.faults later.faults image.cause (λ f. absurd (omega (arith, e, f)))) (refuses.answers ∙ e)

    module _ (seen : Seen) (image : ReadsImage request.sector request.empty disk later (Ok seen)) where
      kept : later.faults ≡ disk.faults
      kept = kept_ok disk_refusal disk.faults later.faults seen image.cause

      -- what the image shows
      sighted : Known disk later (λ h. seen_of request.sector request.empty (held h) ≡ Ok seen)
      sighted = λ past can. settled_ok disk_refusal (seen_of request.sector request.empty (held (history_of past disk.calls))) seen (image.settled past can)

      -- what is told of all, by what is told of the sources
      all_told : (b : Bool) → must_repair request.size seen ≡ b → (F : List Stored → Type 0) (answer : Result Planned Refusal)
          → ((files : List Stored) → F files → planned_unless b request definitions.list files seen ≡ answer) → IfSome sources.told F
          → Told request json dirs folders read disk later sources drained out after status (and_then answer (λ planned. Ok (definitions, planned)))
      all_told b repair F answer planned by_files =
          λ o can. where_each folders.told (history_told o disk.calls) sources.told (λ tree. definitions_in request.arch tree dirs ≡ Ok definitions)
          (λ h. seen_of request.sector request.empty (held h) ≡ Ok seen) F
          (λ tree h files. told_plan request dirs tree (held h) files ≡ and_then answer (λ planned. Ok (definitions, planned)))
          (λ tree h files told is f. plan_told request dirs tree (held h) files definitions answer told
          (image_told request definitions.list (held h) files (Ok seen) is
          ∙ ap (λ (b : Bool). planned_unless b request definitions.list files seen) repair ∙ planned files f))
          listed (known_told o disk later _ sighted can) by_files

      -- the image has to be repaired first
      by_repair : must_repair request.size seen ≡ true → Refuses out after repair_refusal status
          → ByStatus request json dirs folders read disk later sources drained out after status
      by_repair repair refuses =
          by_refusal request json dirs folders read disk later sources drained out after status repair_refusal image.only_read kept (inr (inl refl))
          (all_told true repair (λ _. Unit {0}) (Err repair_refusal) (λ files none. refl) (where_any sources.told)) refuses

      -- the sources failed, or there was no memory for what they tell
      by_sources : (refusal : Refusal) → AsksSources request.seed seen.shown definitions.list sources drained (Err refusal)
          → (refusal ≡ source_refusal) ⊎ (refusal ≡ memory_refusal) → Refuses out after refusal status
          → ByStatus request json dirs folders read disk later sources drained out after status
      by_sources refusal asks (inl failed) refuses =
          by_files request json dirs folders read disk later sources drained out after status image.only_read kept
          (inr (
            failed_err source_refusal refusal sources.faults drained.faults asks.cause failed,
            printed_as out after refusal source_refusal status refuses failed,
          ))
          (refuses.answers ∙ ap (λ (r : Refusal). r.status) failed)
      by_sources refusal asks (inr want) refuses =
          by_memory request json dirs folders read disk later sources drained out after status image.only_read kept
          (refuses.answers ∙ ap (λ (r : Refusal). r.status) want)

      module _ (known : List Fact) (repair : must_repair request.size seen ≡ false)
          (asks : AsksSources request.seed seen.shown definitions.list sources drained (Ok known)) where
        -- what the sources tell
        goal_told : (result : Result Plan Demand) → goal seen (target_of request.size seen) definitions.list known request.seed ≡ result
            → Told request json dirs folders read disk later sources drained out after status
            (and_then (and_then (refused (demand_refusal definitions.list) result) (λ plan. Ok (with_seen seen plan))) (λ planned. Ok (definitions, planned)))
        goal_told result is =
            all_told false repair (λ files. Settles source_refusal (Ok (facts request.seed files seen.shown definitions.list)) (Ok known))
            (and_then (refused (demand_refusal definitions.list) result) (λ plan. Ok (with_seen seen plan)))
            (λ files settles.
            ap (planned_by request definitions.list seen)
            (same_ok (facts request.seed files seen.shown definitions.list) known
            (settled_ok source_refusal (Ok (facts request.seed files seen.shown definitions.list)) known settles))
            ∙ ap (λ (r : Result Plan Demand). and_then (refused (demand_refusal definitions.list) r) (λ plan. Ok (with_seen seen plan))) is)
            asks.settled where
              same_ok : (a b : List Fact) → ◌≡◌ {A = Result (List Fact) Refusal} (Ok a) (Ok b) → a ≡ b
              same_ok a b e = cc

        -- a demand
        by_demand : (demand : Demand) → goal seen (target_of request.size seen) definitions.list known request.seed ≡ Err demand
            → Refuses out after (demand_refusal definitions.list demand) status
            → ByStatus request json dirs folders read disk later sources drained out after status
        by_demand demand is refuses = elim (demand_status definitions.list demand) [
          | inl five ↦
              by_refusal request json dirs folders read disk later sources drained out after status (demand_refusal definitions.list demand)
              image.only_read kept (inr (inr five)) (goal_told (Err demand) is) refuses
          | inr want ↦
              by_memory request json dirs folders read disk later sources drained out after status image.only_read kept
              (refuses.answers ∙ ap (λ (r : Refusal). r.status) want)
        ]

        -- a plan is told, unless there was no memory for its text
        by_plan : (plan : Plan) → goal seen (target_of request.size seen) definitions.list known request.seed ≡ Ok plan
            → Tells json definitions out after status (Ok (with_seen seen plan))
            → ByStatus request json dirs folders read disk later sources drained out after status
        by_plan plan is (inl finishes) =
            by_finish request json dirs folders read disk later sources drained out after status definitions (with_seen seen plan) image.only_read kept
            (kept_ok folder_refusal folders.faults read.faults definitions reads.cause)
            (kept_ok source_refusal sources.faults drained.faults known asks.cause) (goal_told (Ok plan) is) finishes
        by_plan plan is (inr refuses) =
            by_memory request json dirs folders read disk later sources drained out after status image.only_read kept refuses.answers

        by_goal : (result : Result Plan Demand) → goal seen (target_of request.size seen) definitions.list known request.seed ≡ result
            → Tells json definitions out after status (and_then (refused (demand_refusal definitions.list) result) (λ plan. Ok (with_seen seen plan)))
            → ByStatus request json dirs folders read disk later sources drained out after status
        by_goal (Ok plan) is tells = by_plan plan is tells
        by_goal (Err demand) is tells = by_demand demand is tells

      -- by what the sources told
      by_known : (known : Result (List Fact) Refusal) (answer : Result Planned Refusal) → must_repair request.size seen ≡ false
          → AsksSources request.seed seen.shown definitions.list sources drained known → PlansBy request definitions.list seen known answer
          → Tells json definitions out after status answer → ByStatus request json dirs folders read disk later sources drained out after status
      by_known (Err refusal) answer repair asks is tells =
          by_sources refusal asks asks.refusal (subst (Tells json definitions out after status) is tells)
      by_known (Ok known) answer repair asks (inl is) tells =
          by_goal known repair asks (goal seen (target_of request.size seen) definitions.list known request.seed) refl
          (subst (Tells json definitions out after status) is tells)
      by_known (Ok known) answer repair asks (inr want) tells =
          let refuses : Refuses out after memory_refusal status = subst (Tells json definitions out after status) want tells in
          by_memory request json dirs folders read disk later sources drained out after status image.only_read kept refuses.answers

      by_repaired : (b : Bool) (answer : Result Planned Refusal) → must_repair request.size seen ≡ b
          → PlansUnless b request definitions.list seen sources drained answer → Tells json definitions out after status answer
          → ByStatus request json dirs folders read disk later sources drained out after status
      by_repaired true answer repair plans tells = by_repair repair (subst (Tells json definitions out after status) plans.0 tells)
      by_repaired false answer repair (known, asks, by) tells = by_known known answer repair asks by tells

    -- by what the image shows
    by_seen : (seen : Result Seen Refusal) (answer : Result Planned Refusal) → ReadsImage request.sector request.empty disk later seen
        → PlansSeen request definitions.list seen sources drained answer → Tells json definitions out after status answer
        → ByStatus request json dirs folders read disk later sources drained out after status
    by_seen (Err refusal) answer image plans tells =
        by_image refusal image image.refusal (subst (Tells json definitions out after status) plans.0 tells)
    by_seen (Ok seen) answer image plans tells = by_repaired seen image (must_repair request.size seen) answer refl plans tells

  -- by the definitions
  by_behind : (definitions : Result Definitions Refusal) → ReadsDefinitions request.arch dirs folders read definitions
      → PlansBehind request json definitions disk later sources drained out after status
      → ByStatus request json dirs folders read disk later sources drained out after status
  by_behind (Err refusal) reads behind = by_definitions refusal reads reads.refusal behind.0 behind.2
  by_behind (Ok definitions) reads (answer, (seen, image, plans), tells) = by_seen definitions reads seen answer image plans tells

pub by_status : (request : Request) (json : Bool) (dirs : List (List ℕ)) (folders read : Store Tree) (disk later : Device)
    (sources drained : Store (List Stored)) (out after : Output) (status : ℕ)
    → Plans request json dirs folders read disk later sources drained out after status
    → ByStatus request json dirs folders read disk later sources drained out after status
by_status request json dirs folders read disk later sources drained out after status (definitions, reads, behind) =
    by_behind request json dirs folders read disk later sources drained out after status definitions reads behind
