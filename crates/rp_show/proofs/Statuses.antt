-- What `show` promises, by its exit status.
use Rattle.std.proofs.Common.{ℕ, ◌≡◌, ◌⊎◌, Bool, Result, Ok, Err, refl, sym, ◌∙◌, ap, subst, inl, inr, arith}
use Rattle.std.specs.Prelude.{IsOkAnd, IsErrAnd}
use Rattle.rp_base.specs.Answers.{Gives}
use Rattle.rp_base.specs.declared.seen.Seen.{Seen}
use Rattle.rp_disk.specs.History.{History, held}
use Rattle.rp_disk.specs.Made.{history_of}
use Rattle.rp_gpt.specs.Shown.{accepted}
use Rattle.rp_gpt.specs.declared.table_fault.Empty.TheVariants.{Refuse}
use Rattle.rp_gpt.specs.declared.table_fault.TableFault.{TableFault}
use Rattle.rp_gpt.specs.declared.table_fault.TableFault.TheVariants as faults
use Rattle.rp_outcome.specs.Output.{Output, Finishes, Refuses}
use Rattle.rp_outcome.specs.Refusals.{disk_refusal, table_refusal}
use Rattle.rp_report.specs.Reports.{show_report}
use Rattle.rp_outcome.specs.Device.{Device, IsOnlyRead, Known}
use Rattle.rp_show.specs.Shows.{ByStatus, Reads, Shows, Tells}

-- the answer is the definition's, but for a failure of the disk and want of memory
abbrev IsAnswer : ℕ → Result Seen TableFault → History → Type 0
IsAnswer sector answer h = (answer ≡ Err faults.Disk) ⊎ Gives faults.Memory (accepted sector (held h) Refuse) answer

-- the disk failed, or its count is as before
abbrev FailedOrKept : Device → Device → Result Seen TableFault → Type 0
FailedOrKept disk later answer = (answer ≡ Err faults.Disk) ⊎ (later.faults ≡ disk.faults)

-- the status of a fault: the image's, unless the disk failed or there was no memory
fault_status : (fault : TableFault) → ((table_refusal fault).status ≡ 4) ⊎ ((fault ≡ faults.Disk) ⊎ (fault ≡ faults.Memory))
fault_status faults.Disk = inr (inl refl)
fault_status (faults.TooLong len) = inl refl
fault_status (faults.TooShort len) = inl refl
fault_status faults.ArrayPlace = inl refl
fault_status (faults.EntryCount count size) = inl refl
fault_status (faults.OtherTable kind) = inl refl
fault_status faults.NoTable = inl refl
fault_status faults.NotEmpty = inl refl
fault_status (faults.Bounds first last) = inl refl
fault_status (faults.RowRange slot) = inl refl
fault_status (faults.Overlap a b) = inl refl
fault_status faults.Memory = inr (inr refl)

-- an image whose table was read is accepted so
accepted_ok : (disk later : Device) (sector : ℕ) (seen : Seen) (P : Seen → Type 0) → Known disk later (IsAnswer sector (Ok seen))
    → P seen → Known disk later (λ h. IsOkAnd (accepted sector (held h) Refuse) P)
accepted_ok disk later sector seen P answer p = λ past can. of_one (history_of past disk.calls) (answer past can) where
  of_one : (h : History) → IsAnswer sector (Ok seen) h → IsOkAnd (accepted sector (held h) Refuse) P
  of_one h (inl e) = absurd (cc)
  of_one h (inr (inl e)) = subst (λ (answer : Result Seen TableFault). IsOkAnd answer P) e p
  of_one h (inr (inr e)) = absurd (cc)

same : (a b : TableFault) → ◌≡◌ {A = Result Seen TableFault} (Err a) (Err b) → a ≡ b
same a b e = cc

-- an image that was refused isn't accepted, for that reason
accepted_err : (disk later : Device) (sector : ℕ) (fault : TableFault) (P : TableFault → Type 0) → (table_refusal fault).status ≡ 4
    → Known disk later (IsAnswer sector (Err fault))
    → P fault → Known disk later (λ h. IsErrAnd (accepted sector (held h) Refuse) P)
accepted_err disk later sector fault P status answer p = λ past can. of_one (history_of past disk.calls) (answer past can) where
  other : (that : TableFault) (number : ℕ) → (table_refusal that).status ≡ number → (number ≡ 4 → ⊥) → fault ≡ that → ⊥
  other that number is differ e = differ (sym is ∙ sym (ap (λ fault. (table_refusal fault).status) e) ∙ status)

  of_one : (h : History) → IsAnswer sector (Err fault) h → IsErrAnd (accepted sector (held h) Refuse) P
  of_one h (inl e) = absurd (other faults.Disk 7 refl (λ f. omega arith) (same fault faults.Disk e))
  of_one h (inr (inl e)) = subst (λ (answer : Result Seen TableFault). IsErrAnd answer P) e p
  of_one h (inr (inr e)) = absurd (other faults.Memory 10 refl (λ f. omega arith) (same fault faults.Memory e))

-- two numbers that differ are no one status
clash : {P : Type 0} (status a b : ℕ) → status ≡ a → status ≡ b → (a ≡ b → ⊥) → P
clash status a b e f differ = absurd (differ (sym e ∙ f))

kept_of : (disk later : Device) (seen : Seen) → FailedOrKept disk later (Ok seen) → later.faults ≡ disk.faults
kept_of disk later seen (inl e) = absurd (cc)
kept_of disk later seen (inr kept) = kept

kept_of_memory : (disk later : Device) → FailedOrKept disk later (Err faults.Memory) → later.faults ≡ disk.faults
kept_of_memory disk later (inl e) = absurd (cc)
kept_of_memory disk later (inr kept) = kept

kept_ok : (status : ℕ) (disk later : Device) (seen : Seen) → FailedOrKept disk later (Ok seen)
    → (status ≡ 7) ⊎ (later.faults ≡ disk.faults)
kept_ok status disk later seen kept = inr (kept_of disk later seen kept)

kept_err : (status : ℕ) (disk later : Device) (fault : TableFault) → (fault ≡ faults.Disk → ⊥)
    → FailedOrKept disk later (Err fault) → (status ≡ 7) ⊎ (later.faults ≡ disk.faults)
kept_err status disk later fault other (inl e) = absurd (other (same fault faults.Disk e)) where
  same : (a b : TableFault) → ◌≡◌ {A = Result Seen TableFault} (Err a) (Err b) → a ≡ b
  same a b e = cc
kept_err status disk later fault other (inr kept) = inr kept

-- the table's text was printed, whole or in part
by_finish : (sector : ℕ) (json : Bool) (disk later : Device) (out after : Output) (status : ℕ) (seen : Seen)
    → Reads sector disk later (Ok seen) → Finishes out after (show_report json seen) status
    → ByStatus sector json disk later out after status
by_finish sector json disk later out after status seen reads (inl (e, printed)) = record {
  only_read = reads.only_read;
  causes = record {
    disk_failed = λ f. clash status 0 7 e f (λ h. omega arith);
    disk_kept = kept_ok status disk later seen reads.kept;
    sink_failed = λ f. clash status 0 9 e f (λ h. omega arith);
    sink_kept = λ f. printed.kept;
  };
  one_of = inl e;
  done = λ f. accepted_ok disk later sector seen _ reads.accepted printed;
  cut = λ f. clash status 0 9 e f (λ h. omega arith);
  refused = λ f. clash status 0 4 e f (λ h. omega arith);
  disk_line = λ f. clash status 0 7 e f (λ h. omega arith);
}
by_finish sector json disk later out after status seen reads (inr (e, printed)) = record {
  only_read = reads.only_read;
  causes = record {
    disk_failed = λ f. clash status 9 7 e f (λ h. omega arith);
    disk_kept = kept_ok status disk later seen reads.kept;
    sink_failed = λ f. printed.rose;
    sink_kept = λ f. clash status 9 0 e f (λ h. omega arith);
  };
  one_of = inr (inr (inr (inl e)));
  done = λ f. clash status 9 0 e f (λ h. omega arith);
  cut = λ f. accepted_ok disk later sector seen _ reads.accepted printed;
  refused = λ f. clash status 9 4 e f (λ h. omega arith);
  disk_line = λ f. clash status 9 7 e f (λ h. omega arith);
}

-- there was no memory
by_memory : (sector : ℕ) (json : Bool) (disk later : Device) (out after : Output) (status : ℕ)
    → IsOnlyRead disk later → later.faults ≡ disk.faults → status ≡ 10 → ByStatus sector json disk later out after status
by_memory sector json disk later out after status only_read kept e = record {
  only_read = only_read;
  causes = record {
    disk_failed = λ f. clash status 10 7 e f (λ h. omega arith);
    disk_kept = inr kept;
    sink_failed = λ f. clash status 10 9 e f (λ h. omega arith);
    sink_kept = λ f. clash status 10 0 e f (λ h. omega arith);
  };
  one_of = inr (inr (inr (inr e)));
  done = λ f. clash status 10 0 e f (λ h. omega arith);
  cut = λ f. clash status 10 9 e f (λ h. omega arith);
  refused = λ f. clash status 10 4 e f (λ h. omega arith);
  disk_line = λ f. clash status 10 7 e f (λ h. omega arith);
}

-- the image isn't accepted
by_image : (sector : ℕ) (json : Bool) (disk later : Device) (out after : Output) (status : ℕ) (fault : TableFault)
    → (table_refusal fault).status ≡ 4 → Reads sector disk later (Err fault) → Refuses out after (table_refusal fault) status
    → ByStatus sector json disk later out after status
by_image sector json disk later out after status fault image reads refuses = let e : status ≡ 4 = refuses.answers ∙ image in record {
  only_read = reads.only_read;
  causes = record {
    disk_failed = λ f. clash status 4 7 e f (λ h. omega arith);
    disk_kept =
        kept_err status disk later fault
        (λ f. clash status 4 7 e (refuses.answers ∙ ap (λ fault. (table_refusal fault).status) f) (λ h. omega arith))
        reads.kept;
    sink_failed = λ f. clash status 4 9 e f (λ h. omega arith);
    sink_kept = λ f. clash status 4 0 e f (λ h. omega arith);
  };
  one_of = inr (inl e);
  done = λ f. clash status 4 0 e f (λ h. omega arith);
  cut = λ f. clash status 4 9 e f (λ h. omega arith);
  refused = λ f. accepted_err disk later sector fault _ image reads.accepted refuses.printed;
  disk_line = λ f. clash status 4 7 e f (λ h. omega arith);
}

-- the disk failed
by_disk : (sector : ℕ) (json : Bool) (disk later : Device) (out after : Output) (status : ℕ) → Reads sector disk later (Err faults.Disk)
    → Refuses out after disk_refusal status → ByStatus sector json disk later out after status
by_disk sector json disk later out after status reads refuses = let e : status ≡ 7 = refuses.answers in record {
  only_read = reads.only_read;
  causes = record {
    disk_failed = λ f. reads.failed refl;
    disk_kept = inl e;
    sink_failed = λ f. clash status 7 9 e f (λ h. omega arith);
    sink_kept = λ f. clash status 7 0 e f (λ h. omega arith);
  };
  one_of = inr (inr (inl e));
  done = λ f. clash status 7 0 e f (λ h. omega arith);
  cut = λ f. clash status 7 9 e f (λ h. omega arith);
  refused = λ f. clash status 7 4 e f (λ h. omega arith);
  disk_line = λ f. refuses.printed;
}

by_answer : (sector : ℕ) (json : Bool) (disk later : Device) (out after : Output) (status : ℕ) (answer : Result Seen TableFault)
    → Reads sector disk later answer → Tells json out after status answer → ByStatus sector json disk later out after status
by_answer sector json disk later out after status (Ok seen) reads (inl finishes) =
    by_finish sector json disk later out after status seen reads finishes
by_answer sector json disk later out after status (Ok seen) reads (inr refuses) =
    by_memory sector json disk later out after status reads.only_read (kept_of disk later seen reads.kept) refuses.answers
by_answer sector json disk later out after status (Err fault) reads refuses = elim (fault_status fault) [
  | inl image ↦ by_image sector json disk later out after status fault image reads refuses
  | inr (inl e) ↦
      by_disk sector json disk later out after status (subst (λ (fault : TableFault). Reads sector disk later (Err fault)) e reads)
      (subst (λ (fault : TableFault). Refuses out after (table_refusal fault) status) e refuses)
  | inr (inr e) ↦
      by_memory sector json disk later out after status reads.only_read
      (kept_of_memory disk later (subst (λ (fault : TableFault). FailedOrKept disk later (Err fault)) e reads.kept))
      (refuses.answers ∙ ap (λ fault. (table_refusal fault).status) e)
]

pub by_status : (sector : ℕ) (json : Bool) (disk later : Device) (out after : Output) (status : ℕ)
    → Shows sector json disk later out after status → ByStatus sector json disk later out after status
by_status sector json disk later out after status (answer, reads, tells) =
    by_answer sector json disk later out after status answer reads tells
