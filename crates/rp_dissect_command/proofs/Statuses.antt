-- What `dissect` promises, by its exit status.
use Rattle.std.proofs.Common.{ℕ, ◌≡◌, ◌⊎◌, List, [], Bool, Result, Ok, Err, refl, sym, ◌∙◌, ap, subst, inl, inr, arith, true≢false}
use Rattle.rp_base.specs.Answers.{Gives}
use Rattle.rp_denial.specs.Denials.{Denies}
use Rattle.rp_disk.specs.History.{held}
use Rattle.rp_disk.specs.Made.{history_of}
use Rattle.rp_disk.proofs.Noting.{earlier_same}
use Rattle.rp_dissect.specs.Dissected.{verdicts}
use Rattle.rp_dissect_command.specs.Dissects.{DissectsRead, Reads, Tells}
use Rattle.rp_dissect_command.specs.Statuses.{DissectByStatus}
use Rattle.rp_gpt.specs.declared.table_fault.TableFault.{TableFault}
use Rattle.rp_gpt.specs.declared.table_fault.TableFault.TheVariants as table
use Rattle.rp_outcome.specs.Device.{Device, IsOnlyRead, Known}
use Rattle.rp_outcome.specs.Output.{Output, Finishes, Prints, Refuses}
use Rattle.rp_outcome.specs.Refusals.{disk_refusal, line_of, memory_refusal, table_refusal}
use Rattle.rp_policy.specs.declared.judging.Rule.{Rule}
use Rattle.rp_policy.specs.declared.policy.Policy.{Policy}
use Rattle.rp_policy.specs.declared.policy.PolicyFault.{PolicyFault}
use Rattle.rp_types.specs.declared.arch.Arch.{Arch}
use Rattle.rp_types.specs.declared.arch.Designator.{Designator}
use Rattle.rp_verdict.specs.declared.verdict.DissectFault.{DissectFault}
use Rattle.rp_verdict.specs.declared.verdict.DissectFault.TheVariants as faults
use Rattle.rp_verdict.specs.declared.verdict.Verdicts.{Verdicts}
use Rattle.rp_verdict_text.specs.Reports.{verdict_report}

abbrev Answer : Type 0
Answer = Result Verdicts DissectFault

-- two numbers that differ are no one status
clash : {P : Type 0} (status a b : ℕ) → status ≡ a → status ≡ b → (a ≡ b → ⊥) → P
clash status a b e f differ = absurd (differ (sym e ∙ f))

-- the status of a fault of the table: the image's, unless the disk failed or there was no memory
fault_status : (fault : TableFault) → ((table_refusal fault).status ≡ 4) ⊎ ((fault ≡ table.Disk) ⊎ (fault ≡ table.Memory))
fault_status table.Disk = inr (inl refl)
fault_status (table.TooLong len) = inl refl
fault_status (table.TooShort len) = inl refl
fault_status table.ArrayPlace = inl refl
fault_status (table.EntryCount count size) = inl refl
fault_status (table.OtherTable kind) = inl refl
fault_status table.NoTable = inl refl
fault_status table.NotEmpty = inl refl
fault_status (table.Bounds first last) = inl refl
fault_status (table.RowRange slot) = inl refl
fault_status (table.Overlap a b) = inl refl
fault_status table.Memory = inr (inr refl)

-- the answer of a read that told no failure of the disk and no want of memory is what the policy says of the image
says : (before now : Device) (sector : ℕ) (arch : Arch) (policy : Policy) (answer : Answer) → (answer ≡ Err faults.Disk → ⊥)
    → (answer ≡ Err faults.Memory → ⊥)
    → Known before now (λ h. (answer ≡ Err faults.Disk) ⊎ Gives faults.Memory (verdicts sector (held h) arch policy) answer)
    → Known before now (λ h. verdicts sector (held h) arch policy ≡ answer)
says before now sector arch policy answer disk memory given = λ past can. of_image (held (history_of past before.calls)) (given past can) where
  of_image : (image : List ℕ) → (answer ≡ Err faults.Disk) ⊎ Gives faults.Memory (verdicts sector image arch policy) answer
      → verdicts sector image arch policy ≡ answer
  of_image image (inl e) = absurd (disk e)
  of_image image (inr (inl e)) = sym e
  of_image image (inr (inr e)) = absurd (memory e)

-- want of memory prints nothing
nothing_printed : (out after : Output) (status : ℕ) → Refuses out after memory_refusal status → Prints out after []
unfolding line_of
nothing_printed out after status refuses = refuses.printed

-- the count is as before, unless the disk failed
kept_of : (answer : Answer) (before now : ℕ) → (answer ≡ Err faults.Disk → ⊥) → (answer ≡ Err faults.Disk) ⊎ (now ≡ before) → now ≡ before
kept_of answer before now other (inl e) = absurd (other e)
kept_of answer before now other (inr kept) = kept

module _ (arch : Arch) (sector : ℕ) (json : Bool) (disk later : Device) (out after : Output) (status : ℕ) where
  by_finish : (p : Policy) (v : Verdicts) → Reads p arch sector disk later (Ok v) → Finishes out after (verdict_report json v) status
      → DissectByStatus (Ok p) arch sector json disk later out after status
  by_finish p v reads (inl (e, printed)) = record {
    only_read = reads.only_read;
    causes = record {
      disk_failed = λ f. clash status 0 7 e f (λ h. omega arith);
      disk_kept = inr (kept_of (Ok v) disk.faults later.faults (λ f. cc) reads.kept);
      sink_failed = λ f. clash status 0 9 e f (λ h. omega arith);
      sink_kept = λ f. printed.kept;
    };
    one_of = inl e;
    done = λ f. (v, reads.verdicts, says disk later sector arch p (Ok v) (λ f. cc) (λ f. cc) reads.verdicts_are, printed);
    cut = λ f. clash status 0 9 e f (λ h. omega arith);
    refused = λ f. clash status 0 4 e f (λ h. omega arith);
    denied = λ f. clash status 0 6 e f (λ h. omega arith);
    disk_line = λ f. clash status 0 7 e f (λ h. omega arith);
    nothing = λ f. clash status 0 10 e f (λ h. omega arith);
    is_refused = λ f. absurd (true≢false (sym f));
    untouched = λ f. absurd (true≢false (sym f));
  }
  by_finish p v reads (inr (e, printed)) = record {
    only_read = reads.only_read;
    causes = record {
      disk_failed = λ f. clash status 9 7 e f (λ h. omega arith);
      disk_kept = inr (kept_of (Ok v) disk.faults later.faults (λ f. cc) reads.kept);
      sink_failed = λ f. printed.rose;
      sink_kept = λ f. clash status 9 0 e f (λ h. omega arith);
    };
    one_of = inr (inr (inr (inr (inl e))));
    done = λ f. clash status 9 0 e f (λ h. omega arith);
    cut = λ f. (v, reads.verdicts, says disk later sector arch p (Ok v) (λ f. cc) (λ f. cc) reads.verdicts_are, printed);
    refused = λ f. clash status 9 4 e f (λ h. omega arith);
    denied = λ f. clash status 9 6 e f (λ h. omega arith);
    disk_line = λ f. clash status 9 7 e f (λ h. omega arith);
    nothing = λ f. clash status 9 10 e f (λ h. omega arith);
    is_refused = λ f. absurd (true≢false (sym f));
    untouched = λ f. absurd (true≢false (sym f));
  }

  by_memory : (p : Policy) → IsOnlyRead disk later → later.faults ≡ disk.faults → Refuses out after memory_refusal status
      → DissectByStatus (Ok p) arch sector json disk later out after status
  by_memory p only_read kept refuses = let e : status ≡ 10 = refuses.answers in record {
    only_read = only_read;
    causes = record {
      disk_failed = λ f. clash status 10 7 e f (λ h. omega arith);
      disk_kept = inr kept;
      sink_failed = λ f. clash status 10 9 e f (λ h. omega arith);
      sink_kept = λ f. clash status 10 0 e f (λ h. omega arith);
    };
    one_of = inr (inr (inr (inr (inr e))));
    done = λ f. clash status 10 0 e f (λ h. omega arith);
    cut = λ f. clash status 10 9 e f (λ h. omega arith);
    refused = λ f. clash status 10 4 e f (λ h. omega arith);
    denied = λ f. clash status 10 6 e f (λ h. omega arith);
    disk_line = λ f. clash status 10 7 e f (λ h. omega arith);
    nothing = λ f. nothing_printed out after status refuses;
    is_refused = λ f. absurd (true≢false (sym f));
    untouched = λ f. absurd (true≢false (sym f));
  }

  by_disk : (p : Policy) → Reads p arch sector disk later (Err faults.Disk) → Refuses out after disk_refusal status
      → DissectByStatus (Ok p) arch sector json disk later out after status
  by_disk p reads refuses = let e : status ≡ 7 = refuses.answers in record {
    only_read = reads.only_read;
    causes = record {
      disk_failed = λ f. reads.failed refl;
      disk_kept = inl e;
      sink_failed = λ f. clash status 7 9 e f (λ h. omega arith);
      sink_kept = λ f. clash status 7 0 e f (λ h. omega arith);
    };
    one_of = inr (inr (inr (inl e)));
    done = λ f. clash status 7 0 e f (λ h. omega arith);
    cut = λ f. clash status 7 9 e f (λ h. omega arith);
    refused = λ f. clash status 7 4 e f (λ h. omega arith);
    denied = λ f. clash status 7 6 e f (λ h. omega arith);
    disk_line = λ f. refuses.printed;
    nothing = λ f. clash status 7 10 e f (λ h. omega arith);
    is_refused = λ f. absurd (true≢false (sym f));
    untouched = λ f. absurd (true≢false (sym f));
  }

  by_table : (p : Policy) (fault : TableFault) → Reads p arch sector disk later (Err (faults.Table fault)) → (table_refusal fault).status ≡ 4
      → Refuses out after (table_refusal fault) status → DissectByStatus (Ok p) arch sector json disk later out after status
  by_table p fault reads image refuses = let e : status ≡ 4 = refuses.answers ∙ image in record {
    only_read = reads.only_read;
    causes = record {
      disk_failed = λ f. clash status 4 7 e f (λ h. omega arith);
      disk_kept = inr (kept_of (Err (faults.Table fault)) disk.faults later.faults (λ f. cc) reads.kept);
      sink_failed = λ f. clash status 4 9 e f (λ h. omega arith);
      sink_kept = λ f. clash status 4 0 e f (λ h. omega arith);
    };
    one_of = inr (inl e);
    done = λ f. clash status 4 0 e f (λ h. omega arith);
    cut = λ f. clash status 4 9 e f (λ h. omega arith);
    refused = λ f.
        let is = says disk later sector arch p (Err (faults.Table fault)) (λ f. cc) (λ f. cc) reads.verdicts_are in
        (fault, image, is, refuses.printed);
    denied = λ f. clash status 4 6 e f (λ h. omega arith);
    disk_line = λ f. clash status 4 7 e f (λ h. omega arith);
    nothing = λ f. clash status 4 10 e f (λ h. omega arith);
    is_refused = λ f. absurd (true≢false (sym f));
    untouched = λ f. absurd (true≢false (sym f));
  }

  by_denial : (p : Policy) (d : Designator) (rule : Rule) → Reads p arch sector disk later (Err (faults.Denied d rule))
      → Denies out after d rule status → DissectByStatus (Ok p) arch sector json disk later out after status
  by_denial p d rule reads denies = let e : status ≡ 6 = denies.answers in record {
    only_read = reads.only_read;
    causes = record {
      disk_failed = λ f. clash status 6 7 e f (λ h. omega arith);
      disk_kept = inr (kept_of (Err (faults.Denied d rule)) disk.faults later.faults (λ f. cc) reads.kept);
      sink_failed = λ f. clash status 6 9 e f (λ h. omega arith);
      sink_kept = λ f. clash status 6 0 e f (λ h. omega arith);
    };
    one_of = inr (inr (inl e));
    done = λ f. clash status 6 0 e f (λ h. omega arith);
    cut = λ f. clash status 6 9 e f (λ h. omega arith);
    refused = λ f. clash status 6 4 e f (λ h. omega arith);
    denied = λ f.
        let is = says disk later sector arch p (Err (faults.Denied d rule)) (λ f. cc) (λ f. cc) reads.verdicts_are in
        inr (d, (rule, is, denies.printed));
    disk_line = λ f. clash status 6 7 e f (λ h. omega arith);
    nothing = λ f. clash status 6 10 e f (λ h. omega arith);
    is_refused = λ f. e;
    untouched = λ f. absurd (true≢false (sym f));
  }

  by_answer : (p : Policy) (answer : Answer) → Reads p arch sector disk later answer → Tells json out after status answer
      → DissectByStatus (Ok p) arch sector json disk later out after status
  by_answer p (Ok v) reads (inl finishes) = by_finish p v reads finishes
  by_answer p (Ok v) reads (inr refuses) =
      by_memory p reads.only_read (kept_of (Ok v) disk.faults later.faults (λ f. cc) reads.kept) refuses
  by_answer p (Err faults.Disk) reads refuses = by_disk p reads refuses
  by_answer p (Err faults.Memory) reads refuses =
      by_memory p reads.only_read (kept_of (Err faults.Memory) disk.faults later.faults (λ f. cc) reads.kept) refuses
  by_answer p (Err (faults.Denied d rule)) reads denies = by_denial p d rule reads denies
  by_answer p (Err (faults.Table fault)) reads refuses = elim (fault_status fault) [
    | inl image ↦ by_table p fault reads image refuses
    | inr (inl e) ↦ absurd (reads.own.disk (ap faults.Table e))
    | inr (inr e) ↦ absurd (reads.own.memory (ap faults.Table e))
  ]

  pub by_status : (read : Result Policy PolicyFault) → DissectsRead arch sector json disk later out after status read
      → DissectByStatus read arch sector json disk later out after status
  by_status (Ok p) (answer, reads, tells) = by_answer p answer reads tells
  by_status (Err fault) (same, refuses) = let e : status ≡ 6 = refuses.answers in record {
    only_read = subst (IsOnlyRead disk) (sym same) (record { calls = refl; earlier = earlier_same disk; inside = λ past can. refl });
    causes = record {
      disk_failed = λ f. clash status 6 7 e f (λ h. omega arith);
      disk_kept = inr (ap (λ (d : Device). d.faults) same);
      sink_failed = λ f. clash status 6 9 e f (λ h. omega arith);
      sink_kept = λ f. clash status 6 0 e f (λ h. omega arith);
    };
    one_of = inr (inr (inl e));
    done = λ f. clash status 6 0 e f (λ h. omega arith);
    cut = λ f. clash status 6 9 e f (λ h. omega arith);
    refused = λ f. clash status 6 4 e f (λ h. omega arith);
    denied = λ f. inl refuses.printed;
    disk_line = λ f. clash status 6 7 e f (λ h. omega arith);
    nothing = λ f. clash status 6 10 e f (λ h. omega arith);
    is_refused = λ f. e;
    untouched = λ f. same;
  }
