-- How a run of `apply` ends on the disk.
use Rattle.std.proofs.Common.{◌≡◌, ◌∙◌, ℕ, ◌%◌, ◌^◌, ◌≤◌, List, [], ◌∷◌, ◌++◌, Bool, true, None, Result, Ok, Err, refl, sym, ap, subst, inl, inr, arith}
use Rattle.std.specs.Prelude.{All, IfOk, IfSome, Option, Some, None, length}
use Rattle.rp_idle.specs.Idle.{IsIdle}
use Rattle.rp_base.specs.Geometry.{IsSector}
use Rattle.rp_base.specs.declared.plan.Change.TheVariants.{Same}
use Rattle.rp_base.specs.declared.plan.Note.{Note}
use Rattle.rp_defs.specs.declared.definition.Definitions.{Definitions}
use Rattle.rp_disk.specs.Device.{CanHave}
use Rattle.rp_disk.specs.History.{held}
use Rattle.rp_disk.specs.Made.{Past, dones, history_of}
use Rattle.rp_disk.specs.Runs.{MadeFirst}
use Rattle.rp_disk.specs.declared.call.Call.TheVariants.{Sync}
use Rattle.rp_disk.proofs.Runs.{made_first}
use Rattle.rp_io.specs.Files.{Tree}
use Rattle.rp_io.specs.declared.stored.Stored.{Stored}
use Rattle.rp_outcome.specs.Device.{Device}
use Rattle.rp_outcome.specs.Output.{Output, Finishes, PrintsAll, Refuses}
use Rattle.rp_outcome.specs.Refusals.{Refusal, folder_refusal, memory_refusal}
use Rattle.rp_outcome.specs.Statuses as exit
use Rattle.rp_outcome.specs.Store.{Store}
use Rattle.rp_planned.specs.Planning.{PlansImage}
use Rattle.rp_planned.specs.declared.planned.Planned.{Planned}
use Rattle.rp_planned.specs.declared.request.Request.{Request}
use Rattle.rp_reading.specs.Reading.{IsReadingRefusal, ReadsDefinitions, definitions_in}
use Rattle.rp_reading.specs.Stages.{Settles}
use Rattle.rp_report.specs.Reports.{plan_report}
use Rattle.rp_steps.specs.Steps.{steps}
use Rattle.rp_steps.specs.Writes.{writes}
use Rattle.rp_steps.specs.declared.step.Step.{Step}
use Rattle.rp_apply_command.specs.Applies.{Applies, AppliesBehind, AppliesOpened, AppliesPlanned, CarriesOut, EndsHere, IsCommitRefusal, Opens, Outcome, PlanFits, Tells, applied_report}
use Rattle.rp_apply_command.specs.Ends.{AreRead, Ends, IsBefore, IsBehind, IsBetween, LeavesAll, TellsUnchanged}
use Rattle.rp_apply_command.specs.Ends.Ends.{before, behind, broken, between}
use Rattle.rp_apply_command.proofs.Again.{made_no_more, none_to_do}
use Rattle.rp_apply_command.proofs.Goals.{IsRefused, none_planned, settled_ok}
use Rattle.rp_apply_command.proofs.Moments.{carries_all, carries_some, leaves_all}
use Rattle.rp_apply_command.proofs.Runs.{made_none, made_sync}

is_reading : (refusal : Refusal) → IsReadingRefusal refusal → IsRefused refusal
is_reading refusal (inl three) = inl (inl three)
is_reading refusal (inr (inl failed)) = inr (inr (inl (ap (λ (r : Refusal). r.status) failed)))
is_reading refusal (inr (inr want)) = inl (inr (inr (inr (ap (λ (r : Refusal). r.status) want))))

pub is_commit : (planned : Planned) (refusal : Refusal) → IsCommitRefusal planned refusal → IsBetween refusal.status
is_commit planned refusal (inl failed) = inl (ap (λ (r : Refusal). r.status) failed)
is_commit planned refusal (inr (inl failed)) = inr (inl (ap (λ (r : Refusal). r.status) failed))
is_commit planned refusal (inr (inr changed)) = inr (inr (ap (λ (r : Refusal). r.status) changed.2))

-- no status of a refusal is that of a run that is done
pub not_before : {P : Type 0} (n : ℕ) → IsBefore n → n ≡ 0 → P
not_before n (inl a) b = absurd (omega (arith, a, b))
not_before n (inr (inl a)) b = absurd (omega (arith, a, b))
not_before n (inr (inr (inl a))) b = absurd (omega (arith, a, b))
not_before n (inr (inr (inr a))) b = absurd (omega (arith, a, b))

pub not_between : {P : Type 0} (n : ℕ) → IsBetween n → n ≡ 0 → P
not_between n (inl a) b = absurd (omega (arith, a, b))
not_between n (inr (inl a)) b = absurd (omega (arith, a, b))
not_between n (inr (inr a)) b = absurd (omega (arith, a, b))

pub finished : (out after : Output) (text : List ℕ) (status : ℕ) → Finishes out after text status → IsBehind status
finished out after text status (inl done) = inl done.0
finished out after text status (inr cut) = inr cut.0

module _ (request : Request) (json : Bool) (dirs : List (List ℕ)) (folders : Store Tree) (disk later : Device)
    (sources : Store (List Stored)) (out after : Output) (status : ℕ) (of_sector : IsSector request.sector) (whole : request.size % 4096 ≡ 0) (most : request.size ≤ 2 ^ 44) where
  abbrev End : Type 0
  End = Ends request json dirs folders disk later sources out after status

  -- a refusal before anything was carried out
  refused_so : (refusal : Refusal) → IsRefused refusal → Refuses out after refusal status → LeavesAll disk later
      → End
  refused_so refusal (inl is) refuses leaves = before (subst IsBefore (sym refuses.answers) is) leaves
  refused_so refusal (inr is) refuses leaves = broken (subst IsBetween (sym refuses.answers) is) leaves

  ended_at : (mid : Device) (left drained : Store (List Stored)) (refusal : Refusal)
      → MadeFirst disk.calls (Sync ∷ []) mid.calls → IsRefused refusal
      → EndsHere mid later left drained out after status refusal → End
  ended_at mid left drained refusal made is here =
      refused_so refusal is here.2 (leaves_all disk later
      (subst (λ (d : Device). MadeFirst disk.calls (Sync ∷ []) d.calls) (sym here.0) made))

  module _ (definitions : Definitions) (are : AreRead request dirs folders definitions) (opened : Device)
      (synced : opened.calls ≡ disk.calls ++ dones (Sync ∷ [])) (drained : Store (List Stored)) where
    committed : (read : Device) (asked : Store (List Stored)) (planned : Planned)
        → PlansImage request definitions.list opened read sources asked (Ok planned) → PlanFits planned → (answer : Outcome)
        → CarriesOut definitions planned read later asked drained answer
        → Tells json definitions planned out after status answer → End
    committed read asked planned plans fits (Ok done) carries tells =
        behind (finished out after (applied_report json definitions planned) status tells) definitions planned are
        (carries_all request definitions disk opened read later sources asked drained planned of_sector whole most are.formed fits synced
        plans carries) tells
    committed read asked planned plans fits (Err refusal) carries tells =
        between (subst IsBetween (sym tells.answers) (is_commit planned refusal carries.refusal)) definitions planned are
        (carries_some request definitions disk opened read later sources asked drained planned (Err refusal) of_sector whole most
        are.formed fits synced plans carries) refusal carries.refusal tells

    made_by : (read : Device) (asked : Store (List Stored)) (answer : Result Planned Refusal)
        → PlansImage request definitions.list opened read sources asked answer → MadeFirst disk.calls (Sync ∷ []) read.calls
    made_by read asked answer plans =
        made_sync disk.calls read.calls (plans.1.only_read.calls ∙ synced)

    by_plan : (read : Device) (asked : Store (List Stored)) (answer : Result Planned Refusal)
        → PlansImage request definitions.list opened read sources asked answer → IfOk answer PlanFits
        → AppliesPlanned json definitions read later asked drained out after status answer → End
    by_plan read asked (Err refusal) plans fits here =
        ended_at read asked drained refusal (made_by read asked (Err refusal) plans)
        (none_planned request definitions.list opened read sources asked refusal plans) here
    by_plan read asked (Ok planned) plans fits (inl here) =
        ended_at read asked drained memory_refusal (made_by read asked (Ok planned) plans) (inl (inr (inr (inr refl)))) here
    by_plan read asked (Ok planned) plans fits (inr commits) = committed read asked planned plans fits commits.0 commits.1 commits.2

  by_opening : (definitions : Definitions) → AreRead request dirs folders definitions → (opened : Device) (drained : Store (List Stored))
      (answer : Outcome) → Opens disk opened answer
      → AppliesOpened request json definitions opened later sources drained out after status answer → End
  by_opening definitions are opened drained (Err refusal) opens here =
      ended_at opened sources drained refusal (made_first {T = Unit {0}} {E = Refusal} (Err refusal) disk.calls opened.calls (Sync ∷ []) opens.ran)
      (inr (inl (ap (λ (r : Refusal). r.status) opens.refusal))) here
  by_opening definitions are opened drained (Ok done) opens plans =
      by_plan definitions are opened opens.ran.ok drained plans.0 plans.1 plans.2 plans.3 plans.4 plans.5

  -- the definitions were read
  read_so : (definitions : Definitions) (read : Store Tree) → ReadsDefinitions request.arch dirs folders read (Ok definitions)
      → AreRead request dirs folders definitions
  read_so definitions read reads = record { formed = reads.well_formed; told = by_told folders.told reads.settled } where
    by_told : (o : Option Tree) → IfSome o (λ tree. Settles folder_refusal (definitions_in request.arch tree dirs) (Ok definitions))
        → IfSome o (λ tree. definitions_in request.arch tree dirs ≡ Ok definitions)
    by_told None settles = tt
    by_told (Some tree) settles = settled_ok folder_refusal (definitions_in request.arch tree dirs) definitions settles

  by_definitions : (read : Store Tree) (drained : Store (List Stored))
      (answer : Result Definitions Refusal) → ReadsDefinitions request.arch dirs folders read answer
      → AppliesBehind request json disk later sources drained out after status answer → End
  by_definitions read drained (Err refusal) reads here =
      ended_at disk sources drained refusal (made_none disk.calls (Sync ∷ [])) (is_reading refusal reads.refusal) here
  by_definitions read drained (Ok definitions) reads opens =
      by_opening definitions (read_so definitions read reads) opens.0 drained opens.1 opens.2 opens.3

-- how it ends
pub ends_so : (request : Request) (json : Bool) (dirs : List (List ℕ)) (folders read : Store Tree) (disk later : Device)
    (sources drained : Store (List Stored)) (out after : Output) (status : ℕ)
    → IsSector request.sector → request.size % 4096 ≡ 0 → request.size ≤ 2 ^ 44
    → Applies request json dirs folders read disk later sources drained out after status
    → Ends request json dirs folders disk later sources out after status
ends_so request json dirs folders read disk later sources drained out after status of_sector whole most applies =
    by_definitions request json dirs folders disk later sources out after status of_sector whole most read drained applies.0
    applies.1 applies.2

-- on an idle image
module _ (request : Request) (json : Bool) (dirs : List (List ℕ)) (folders read : Store Tree) (disk later : Device)
    (sources drained : Store (List Stored)) (out after : Output) (status : ℕ) (of_sector : IsSector request.sector)
    (whole : request.size % 4096 ≡ 0) (most : request.size ≤ 2 ^ 44)
    (applies : Applies request json dirs folders read disk later sources drained out after status) (past : Past) (tree : Tree)
    (definitions : Definitions) (can : CanHave past later) (told : folders.told ≡ Some tree)
    (are : definitions_in request.arch tree dirs ≡ Ok definitions)
    (idle : IsIdle request.sector (held (history_of past disk.calls)) definitions.list request.seed)
    (long : request.size ≤ length (held (history_of past disk.calls))) where
  same_ok : (a b : Definitions) → ◌≡◌ {A = Result Definitions Refusal} (Ok a) (Ok b) → a ≡ b
  same_ok a b e = cc

  same_read : (others : Definitions) → AreRead request dirs folders others → definitions ≡ others
  same_read others read_so =
      let found : definitions_in request.arch tree dirs ≡ Ok others =
      subst (λ o. IfSome o (λ tree. definitions_in request.arch tree dirs ≡ Ok others)) told read_so.told in
      same_ok definitions others (sym are ∙ found)

  idle_for : (others : Definitions) → AreRead request dirs folders others
      → IsIdle request.sector (held (history_of past disk.calls)) others.list request.seed
  idle_for others read_so = subst (λ (d : Definitions). IsIdle request.sector (held (history_of past disk.calls)) d.list request.seed)
      (same_read others read_so) idle

  -- at every status no call was made but the sync
  pub ends_idle : MadeFirst disk.calls (Sync ∷ []) later.calls
  ends_idle = by_end (ends_so request json dirs folders read disk later sources drained out after status of_sector whole most applies) where
    by_end : Ends request json dirs folders disk later sources out after status → MadeFirst disk.calls (Sync ∷ []) later.calls
    by_end (before is leaves) = leaves.made
    by_end (broken is leaves) = leaves.made
    by_end (behind is others planned read_so all finishes) =
        let made = all (Some past) can in
        made_no_more request others.list disk later sources planned past made.0 made.1.some (idle_for others read_so) long
    by_end (between is others planned read_so some refusal cause refuses) =
        let made = some (Some past) can in
        made_no_more request others.list disk later sources planned past made.0 made.1 (idle_for others read_so) long

  -- where it is done, it tells no step and no change
  pub tells_idle : status ≡ exit.done → TellsUnchanged json definitions out after
  tells_idle done = by_end (ends_so request json dirs folders read disk later sources drained out after status of_sector whole most applies) where
    by_end : Ends request json dirs folders disk later sources out after status → TellsUnchanged json definitions out after
    by_end (before is leaves) = not_before status is done
    by_end (broken is leaves) = not_between status is done
    by_end (between is others planned read_so some refusal cause refuses) = not_between status is done
    by_end (behind is others planned read_so all finishes) = by_text finishes where
      none : (steps planned.plan planned.seen ≡ []) × All (λ (note : Note). note.change ≡ Same) planned.plan.notes
      none = none_to_do request others.list disk later sources planned past (all (Some past) can).0 (all (Some past) can).1.some
          (idle_for others read_so) long

      text : applied_report json others planned ≡ plan_report json planned.plan definitions 0 0 true None
      text = ap (λ (ss : List Step). plan_report json planned.plan others (length ss) (writes ss) true None) none.0
          ∙ ap (λ (d : Definitions). plan_report json planned.plan d 0 0 true None) (sym (same_read others read_so))

      by_text : Finishes out after (applied_report json others planned) status → TellsUnchanged json definitions out after
      by_text (inl (e, printed)) = (planned.plan, none.1, subst (PrintsAll out after) text printed)
      by_text (inr (e, printed)) = absurd (omega (arith, e, done))
