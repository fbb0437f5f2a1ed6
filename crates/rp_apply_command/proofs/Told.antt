-- What is refused before anything is carried out, is refused as by the command that only plans.
use Rattle.std.proofs.Common.{◌≡◌, ◌∙◌, ℕ, List, [], ◌∷◌, ◌++◌, Bool, Option, Some, None, Result, Ok, Err, sym, ap, subst, inl, inr, arith}
use Rattle.std.specs.Prelude.{IfErr, IfSome, IsErrAnd}
use Rattle.rp_defs.specs.declared.definition.Definitions.{Definitions}
use Rattle.rp_disk.specs.History.{held}
use Rattle.rp_disk.specs.Made.{Past, dones, history_told}
use Rattle.rp_disk.specs.declared.call.Call.TheVariants.{Sync}
use Rattle.rp_io.specs.Files.{Tree}
use Rattle.rp_io.specs.declared.stored.Stored.{Stored}
use Rattle.rp_outcome.specs.Device.{Device}
use Rattle.rp_outcome.specs.Output.{Output, Prints}
use Rattle.rp_outcome.specs.Refusals.{Refusal, line_of}
use Rattle.rp_outcome.specs.Store.{Store}
use Rattle.rp_plan_command.specs.Statuses.{IsRefused, WhereTold, told_plan}
use Rattle.rp_plan_command.proofs.Statuses.{by_status}
use Rattle.rp_planned.specs.Planning.{PlansImage}
use Rattle.rp_planned.specs.declared.planned.Planned.{Planned}
use Rattle.rp_planned.specs.declared.request.Request.{Request}
use Rattle.rp_reading.specs.Reading.{ReadsDefinitions}
use Rattle.rp_apply_command.specs.Applies.{Applies, AppliesBehind, AppliesOpened, AppliesPlanned, IsCommitRefusal, Opens, Outcome, Tells, applied_report}
use Rattle.rp_apply_command.specs.Ends.{IsBehind, IsBetween}
use Rattle.rp_apply_command.proofs.Ended.{finished, is_commit}
use Rattle.rp_apply_command.proofs.Runs.{same_shown}

not_between : {P : Type 0} (n : ℕ) → IsRefused n → IsBetween n → P
not_between n (inl a) (inl b) = absurd (omega (arith, a, b))
not_between n (inl a) (inr (inl b)) = absurd (omega (arith, a, b))
not_between n (inl a) (inr (inr b)) = absurd (omega (arith, a, b))
not_between n (inr (inl a)) (inl b) = absurd (omega (arith, a, b))
not_between n (inr (inl a)) (inr (inl b)) = absurd (omega (arith, a, b))
not_between n (inr (inl a)) (inr (inr b)) = absurd (omega (arith, a, b))
not_between n (inr (inr a)) (inl b) = absurd (omega (arith, a, b))
not_between n (inr (inr a)) (inr (inl b)) = absurd (omega (arith, a, b))
not_between n (inr (inr a)) (inr (inr b)) = absurd (omega (arith, a, b))

not_behind : {P : Type 0} (n : ℕ) → IsRefused n → IsBehind n → P
not_behind n (inl a) (inl b) = absurd (omega (arith, a, b))
not_behind n (inl a) (inr b) = absurd (omega (arith, a, b))
not_behind n (inr (inl a)) (inl b) = absurd (omega (arith, a, b))
not_behind n (inr (inl a)) (inr b) = absurd (omega (arith, a, b))
not_behind n (inr (inr a)) (inl b) = absurd (omega (arith, a, b))
not_behind n (inr (inr a)) (inr b) = absurd (omega (arith, a, b))

not_memory : {P : Type 0} (n : ℕ) → IsRefused n → n ≡ 10 → P
not_memory n (inl a) b = absurd (omega (arith, a, b))
not_memory n (inr (inl a)) b = absurd (omega (arith, a, b))
not_memory n (inr (inr a)) b = absurd (omega (arith, a, b))

-- a sync changes nothing of what is shown
where_synced : (folders : Store Tree) (disk opened later : Device) (sources : Store (List Stored)) (P : Tree → List ℕ → List Stored → Type 0)
    → opened.calls ≡ disk.calls ++ dones (Sync ∷ []) → WhereTold folders opened later sources P → WhereTold folders disk later sources P
where_synced folders disk opened later sources P synced holds o can =
    by_both folders.told o
    (subst (λ calls. IfSome folders.told (λ tree. IfSome (history_told o calls) (λ h. IfSome sources.told (P tree (held h))))) synced (holds o can))
  where
    by_both : (t : Option Tree) (o : Option Past)
        → IfSome t (λ tree. IfSome (history_told o (disk.calls ++ dones (Sync ∷ []))) (λ h. IfSome sources.told (P tree (held h))))
        → IfSome t (λ tree. IfSome (history_told o disk.calls) (λ h. IfSome sources.told (P tree (held h))))
    by_both None o told = tt
    by_both (Some tree) None told = tt
    by_both (Some tree) (Some past) told = subst (λ image. IfSome sources.told (P tree image)) (same_shown past disk.calls) told

module _ (request : Request) (json : Bool) (dirs : List (List ℕ)) (folders gone : Store Tree) (disk : Device)
    (sources : Store (List Stored)) (out after : Output) (status : ℕ) (is : IsRefused status) where
  abbrev IsLine : Tree → List ℕ → List Stored → Type 0
  IsLine tree image files = IsErrAnd (told_plan request dirs tree image files)
      (λ refusal. (refusal.status ≡ status) × Prints out after (line_of refusal))

  abbrev Refused : Device → Device → Type 0
  Refused device later = WhereTold folders device later sources IsLine

  by_opening : (definitions : Definitions) → ReadsDefinitions request.arch dirs folders gone (Ok definitions) → (opened later : Device)
      (drained : Store (List Stored)) (answer : Outcome) → Opens disk opened answer
      → AppliesOpened request json definitions opened later sources drained out after status answer → Refused disk later
  by_opening definitions reads opened later drained (Err refusal) opens here =
      not_between status is (inl (here.2.answers ∙ ap (λ (r : Refusal). r.status) opens.refusal))
  by_opening definitions reads opened later drained (Ok done) opens plans = by_plan plans.0 plans.1 plans.2 plans.3 plans.5 where
    by_plan : (seen : Device) (asked : Store (List Stored)) (answer : Result Planned Refusal)
        → PlansImage request definitions.list opened seen sources asked answer
        → AppliesPlanned json definitions seen later asked drained out after status answer → Refused disk later
    by_plan seen asked (Err refusal) planned here =
        subst (Refused disk) (sym here.0) (where_synced folders disk opened seen sources IsLine opens.ran.ok
        ((by_status request json dirs folders gone opened seen sources asked out after status
        (Ok definitions, reads, (Err refusal, planned, here.2))).refused is))
    by_plan seen asked (Ok planned) carries (inl here) = not_memory status is here.2.answers
    by_plan seen asked (Ok planned) carries (inr commits) = by_commit commits.0 commits.1.refusal commits.2 where
      by_commit : (answer : Outcome) → IfErr answer (IsCommitRefusal planned)
          → Tells json definitions planned out after status answer → Refused disk later
      by_commit (Ok done) cause finishes = not_behind status is (finished out after (applied_report json definitions planned) status finishes)
      by_commit (Err refusal) cause refuses = not_between status is (subst IsBetween (sym refuses.answers) (is_commit planned refusal cause))

-- the first refusal of what is told
pub refuses_so : (request : Request) (json : Bool) (dirs : List (List ℕ)) (folders gone : Store Tree) (disk later : Device)
    (sources drained : Store (List Stored)) (out after : Output) (status : ℕ)
    → Applies request json dirs folders gone disk later sources drained out after status → IsRefused status
    → WhereTold folders disk later sources (λ tree image files. IsErrAnd (told_plan request dirs tree image files)
    (λ refusal. (refusal.status ≡ status) × Prints out after (line_of refusal)))
refuses_so request json dirs folders gone disk later sources drained out after status applies is =
    by_definitions applies.0 applies.1 applies.2 where
      by_definitions : (answer : Result Definitions Refusal) → ReadsDefinitions request.arch dirs folders gone answer
          → AppliesBehind request json disk later sources drained out after status answer
          → WhereTold folders disk later sources (λ tree image files. IsErrAnd (told_plan request dirs tree image files)
          (λ refusal. (refusal.status ≡ status) × Prints out after (line_of refusal)))
      by_definitions (Err refusal) reads here =
          (by_status request json dirs folders gone disk later sources drained out after status (Err refusal, reads, here)).refused is
      by_definitions (Ok definitions) reads opens =
          by_opening request json dirs folders gone disk sources out after status is definitions reads opens.0 later drained opens.1
          opens.2 opens.3
