-- What `plan` promises at each status, by how it ended.
use Rattle.std.proofs.Common.{ℕ, ◌≡◌, ◌≤◌, List, Bool, Option, Some, None, Result, Ok, Err, IfSome, sym, ◌∙◌, subst, inl, inr, arith}
use Rattle.std.specs.Prelude.{IsOkAnd, IsErrAnd}
use Rattle.rp_base.specs.Faults.{Rose}
use Rattle.rp_defs.specs.declared.definition.Definitions.{Definitions}
use Rattle.rp_io.specs.Files.{Tree}
use Rattle.rp_io.specs.declared.stored.Stored.{Stored}
use Rattle.rp_outcome.specs.Device.{Device, IsOnlyRead}
use Rattle.rp_disk.specs.Made.{history_told}
use Rattle.rp_outcome.specs.Output.{Output, Finishes, Prints, PrintsAll, PrintsPart, Refuses}
use Rattle.rp_outcome.specs.Refusals.{Refusal, disk_refusal, line_of}
use Rattle.rp_outcome.specs.Store.{Store}
use Rattle.rp_plan_command.specs.Plans.{planned_report}
use Rattle.rp_plan_command.specs.Statuses.{ByStatus, IsRefused, WhereTold, told_plan}
use Rattle.rp_planned.specs.Files.{TellsFailure}
use Rattle.rp_planned.specs.declared.planned.Planned.{Planned}
use Rattle.rp_planned.specs.declared.request.Request.{Request}

-- two numbers that differ are no one status
clash : {P : Type 0} (status a b : ℕ) → status ≡ a → status ≡ b → (a ≡ b → ⊥) → P
clash status a b e f differ = absurd (differ (sym e ∙ f))

-- a refusal's status is none from 6 up, and isn't 0
pub not_refused : {P : Type 0} (n m : ℕ) → IsRefused n → n ≡ m → 6 ≤ m → P
not_refused n m (inl e) same far = absurd (omega arith)
not_refused n m (inr (inl e)) same far = absurd (omega arith)
not_refused n m (inr (inr e)) same far = absurd (omega arith)

not_done : {P : Type 0} (n : ℕ) → IsRefused n → n ≡ 0 → P
not_done n (inl e) same = absurd (omega arith)
not_done n (inr (inl e)) same = absurd (omega arith)
not_done n (inr (inr e)) same = absurd (omega arith)

-- what follows where all three tell
where_more : {A B C : Type 0} (o : Option A) (p : Option B) (q : Option C) (P Q : A → B → C → Type 0) → ((a : A) (b : B) (c : C) → P a b c → Q a b c)
    → IfSome o (λ a. IfSome p (λ b. IfSome q (λ c. P a b c))) → IfSome o (λ a. IfSome p (λ b. IfSome q (λ c. Q a b c)))
where_more None p q P Q more holds = tt
where_more (Some a) None q P Q more holds = tt
where_more (Some a) (Some b) None P Q more holds = tt
where_more (Some a) (Some b) (Some c) P Q more holds = more a b c holds

module _ (request : Request) (json : Bool) (dirs : List (List ℕ)) (folders read : Store Tree) (disk later : Device)
    (sources drained : Store (List Stored)) (out after : Output) (status : ℕ) where
  -- this is told of the folders, the image and the sources
  abbrev pub Told : Result (Definitions × Planned) Refusal → Type 0
  Told answer = WhereTold folders disk later sources (λ tree image files. told_plan request dirs tree image files ≡ answer)

  -- a refusal of what folders, image and sources tell
  pub by_refusal : (refusal : Refusal) → IsOnlyRead disk later → later.faults ≡ disk.faults → IsRefused refusal.status → Told (Err refusal)
      → Refuses out after refusal status → ByStatus request json dirs folders read disk later sources drained out after status
  by_refusal refusal only_read kept is told refuses = let e : refusal.status ≡ status = sym refuses.answers in record {
    only_read = only_read;
    causes = record {
      disk_failed = λ f. not_refused refusal.status 7 is (e ∙ f) (omega arith);
      disk_kept = inr kept;
      sink_failed = λ f. not_refused refusal.status 9 is (e ∙ f) (omega arith);
      sink_kept = λ f. not_done refusal.status is (e ∙ f);
    };
    files = record { failed = λ f. not_refused refusal.status 8 is (e ∙ f) (omega arith); kept = λ f. not_done refusal.status is (e ∙ f) };
    one_of = inl (subst IsRefused e is);
    done = λ f. not_done refusal.status is (e ∙ f);
    cut = λ f. not_refused refusal.status 9 is (e ∙ f) (omega arith);
    refused = λ f. λ o can.
        where_more folders.told (history_told o disk.calls) sources.told _ _
        (λ tree h files told. subst (λ (answer : Result (Definitions × Planned) Refusal).
        IsErrAnd answer (λ refusal. (refusal.status ≡ status) × Prints out after (line_of refusal))) (sym told) (e, refuses.printed)) (told o can);
    disk_line = λ f. not_refused refusal.status 7 is (e ∙ f) (omega arith);
  }

  -- the disk failed
  pub by_disk : IsOnlyRead disk later → Rose disk.faults later.faults → status ≡ 7 → Prints out after (line_of disk_refusal)
      → ByStatus request json dirs folders read disk later sources drained out after status
  by_disk only_read rose e printed = record {
    only_read = only_read;
    causes = record {
      disk_failed = λ f. rose;
      disk_kept = inl e;
      sink_failed = λ f. clash status 7 9 e f (λ h. omega arith);
      sink_kept = λ f. clash status 7 0 e f (λ h. omega arith);
    };
    files = record { failed = λ f. clash status 7 8 e f (λ h. omega arith); kept = λ f. clash status 7 0 e f (λ h. omega arith) };
    one_of = inr (inr (inl e));
    done = λ f. clash status 7 0 e f (λ h. omega arith);
    cut = λ f. clash status 7 9 e f (λ h. omega arith);
    refused = λ f. not_refused status 7 f e (omega arith);
    disk_line = λ f. printed;
  }

  -- the folders or the sources failed
  pub by_files : IsOnlyRead disk later → later.faults ≡ disk.faults → TellsFailure folders read sources drained out after → status ≡ 8
      → ByStatus request json dirs folders read disk later sources drained out after status
  by_files only_read kept rose e = record {
    only_read = only_read;
    causes = record {
      disk_failed = λ f. clash status 8 7 e f (λ h. omega arith);
      disk_kept = inr kept;
      sink_failed = λ f. clash status 8 9 e f (λ h. omega arith);
      sink_kept = λ f. clash status 8 0 e f (λ h. omega arith);
    };
    files = record { failed = λ f. rose; kept = λ f. clash status 8 0 e f (λ h. omega arith) };
    one_of = inr (inr (inr (inl e)));
    done = λ f. clash status 8 0 e f (λ h. omega arith);
    cut = λ f. clash status 8 9 e f (λ h. omega arith);
    refused = λ f. not_refused status 8 f e (omega arith);
    disk_line = λ f. clash status 8 7 e f (λ h. omega arith);
  }

  -- there was no memory
  pub by_memory : IsOnlyRead disk later → later.faults ≡ disk.faults → status ≡ 10
      → ByStatus request json dirs folders read disk later sources drained out after status
  by_memory only_read kept e = record {
    only_read = only_read;
    causes = record {
      disk_failed = λ f. clash status 10 7 e f (λ h. omega arith);
      disk_kept = inr kept;
      sink_failed = λ f. clash status 10 9 e f (λ h. omega arith);
      sink_kept = λ f. clash status 10 0 e f (λ h. omega arith);
    };
    files = record { failed = λ f. clash status 10 8 e f (λ h. omega arith); kept = λ f. clash status 10 0 e f (λ h. omega arith) };
    one_of = inr (inr (inr (inr (inr e))));
    done = λ f. clash status 10 0 e f (λ h. omega arith);
    cut = λ f. clash status 10 9 e f (λ h. omega arith);
    refused = λ f. not_refused status 10 f e (omega arith);
    disk_line = λ f. clash status 10 7 e f (λ h. omega arith);
  }

  -- the plan was printed, whole or in part
  pub by_finish : (definitions : Definitions) (planned : Planned) → IsOnlyRead disk later → later.faults ≡ disk.faults
      → read.faults ≡ folders.faults → drained.faults ≡ sources.faults → Told (Ok (definitions, planned))
      → Finishes out after (planned_report json definitions planned) status
      → ByStatus request json dirs folders read disk later sources drained out after status
  by_finish definitions planned only_read kept files_kept sources_kept told (inl (e, printed)) = record {
    only_read = only_read;
    causes = record {
      disk_failed = λ f. clash status 0 7 e f (λ h. omega arith);
      disk_kept = inr kept;
      sink_failed = λ f. clash status 0 9 e f (λ h. omega arith);
      sink_kept = λ f. printed.kept;
    };
    files = record { failed = λ f. clash status 0 8 e f (λ h. omega arith); kept = λ f. (files_kept, sources_kept) };
    one_of = inr (inl e);
    done = λ f. λ o can.
        where_more folders.told (history_told o disk.calls) sources.told _ _
        (λ tree h files told. subst (λ (answer : Result (Definitions × Planned) Refusal).
        IsOkAnd answer (λ told. PrintsAll out after (planned_report json told.0 told.1))) (sym told) printed) (told o can);
    cut = λ f. clash status 0 9 e f (λ h. omega arith);
    refused = λ f. not_done status f e;
    disk_line = λ f. clash status 0 7 e f (λ h. omega arith);
  }
  by_finish definitions planned only_read kept files_kept sources_kept told (inr (e, printed)) = record {
    only_read = only_read;
    causes = record {
      disk_failed = λ f. clash status 9 7 e f (λ h. omega arith);
      disk_kept = inr kept;
      sink_failed = λ f. printed.rose;
      sink_kept = λ f. clash status 9 0 e f (λ h. omega arith);
    };
    files = record { failed = λ f. clash status 9 8 e f (λ h. omega arith); kept = λ f. clash status 9 0 e f (λ h. omega arith) };
    one_of = inr (inr (inr (inr (inl e))));
    done = λ f. clash status 9 0 e f (λ h. omega arith);
    cut = λ f. λ o can.
        where_more folders.told (history_told o disk.calls) sources.told _ _
        (λ tree h files told. subst (λ (answer : Result (Definitions × Planned) Refusal).
        IsOkAnd answer (λ told. PrintsPart out after (planned_report json told.0 told.1))) (sym told) printed) (told o can);
    refused = λ f. not_refused status 9 f e (omega arith);
    disk_line = λ f. clash status 9 7 e f (λ h. omega arith);
  }
