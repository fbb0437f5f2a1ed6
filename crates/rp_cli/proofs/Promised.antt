-- What holds of every command, by what each does.
use Rattle.std.proofs.Common.{ℕ, ◌≡◌, ◌⊎◌, List, Bool, Option, Some, None, IfSome, refl, sym, ◌∙◌, ap, subst, inl, inr, arith}
use Rattle.rp_base.specs.declared.guid.Guid.{Guid}
use Rattle.rp_check_command.proofs.Statuses.{by_status as check_by_status}
use Rattle.rp_cli.specs.Asked.{ChecksAsked, PlansAsked}
use Rattle.rp_disk.proofs.Noting.{earlier_same}
use Rattle.rp_io.specs.Files.{Tree}
use Rattle.rp_io.specs.declared.stored.Stored.{Stored}
use Rattle.rp_outcome.specs.Causes.{HasCauses}
use Rattle.rp_outcome.specs.Device.{Device, IsOnlyRead}
use Rattle.rp_outcome.specs.Output.{Output, Refuses}
use Rattle.rp_outcome.specs.Refusals.{words_refusal}
use Rattle.rp_outcome.specs.Store.{Store}
use Rattle.rp_plan_command.proofs.Statuses.{by_status as plan_by_status}
use Rattle.rp_planned.specs.Files.{HasFileCauses}
use Rattle.rp_planned.specs.declared.request.Request.{Request}
use Rattle.rp_show.proofs.Statuses.{by_status as show_by_status}
use Rattle.rp_show.specs.Shows.{Shows}
use Rattle.rp_types.specs.declared.arch.Arch.{Arch}

-- two numbers that differ are no one status
pub clash : {P : Type 0} (status a b : ℕ) → status ≡ a → status ≡ b → (a ≡ b → ⊥) → P
clash status a b e f differ = absurd (differ (sym e ∙ f))

-- a disk that wasn't asked was read alone
pub not_asked : (disk later : Device) → later ≡ disk → IsOnlyRead disk later
not_asked disk later same = subst (IsOnlyRead disk) (sym same) (record { calls = refl; earlier = earlier_same disk; inside = λ past can. refl })

-- folders and sources that weren't asked have no failure, at any status but theirs
pub unasked_files : (folders : Store Tree) (sources : Store (List Stored)) (out after : Output) (status : ℕ) → (status ≡ 8 → ⊥)
    → HasFileCauses folders folders sources sources out after status
unasked_files folders sources out after status other = record { failed = λ e. absurd (other e); kept = λ e. (refl, refl) }

-- `show` asks neither
pub show_files : (sector : ℕ) (json : Bool) (disk later : Device) (out after : Output) (status : ℕ) (folders : Store Tree) (sources : Store (List Stored))
    → Shows sector json disk later out after status → HasFileCauses folders folders sources sources out after status
show_files sector json disk later out after status folders sources shows =
    unasked_files folders sources out after status (other (show_by_status sector json disk later out after status shows).one_of) where
      other : (status ≡ 0) ⊎ (status ≡ 4) ⊎ (status ≡ 7) ⊎ (status ≡ 9) ⊎ (status ≡ 10) → status ≡ 8 → ⊥
      other (inl e) f = omega arith
      other (inr (inl e)) f = omega arith
      other (inr (inr (inl e))) f = omega arith
      other (inr (inr (inr (inl e)))) f = omega arith
      other (inr (inr (inr (inr e)))) f = omega arith

-- nor does a refusal of words
pub words_files : (out after : Output) (status : ℕ) (folders : Store Tree) (sources : Store (List Stored)) → Refuses out after words_refusal status
    → HasFileCauses folders folders sources sources out after status
words_files out after status folders sources refuses =
    unasked_files folders sources out after status (λ e. clash status 2 8 refuses.answers e (λ h. omega arith))

-- nor does want of memory before anything is asked
pub unasked_causes : (disk later : Device) (out after : Output) (status : ℕ) → later ≡ disk → status ≡ 10 → HasCauses disk later out after status
unasked_causes disk later out after status same ten = record {
  disk_failed = λ e. clash status 10 7 ten e (λ h. omega arith);
  disk_kept = inr (ap (λ (d : Device). d.faults) same);
  sink_failed = λ e. clash status 10 9 ten e (λ h. omega arith);
  sink_kept = λ e. clash status 10 0 ten e (λ h. omega arith);
}

module _ (request : Request) (json : Bool) (dirs : List (List ℕ)) (folders read : Store Tree) (disk later : Device)
    (sources drained : Store (List Stored)) (out after : Output) (status : ℕ) where
  pub plan_only_read : PlansAsked request json dirs folders read disk later sources drained out after status → IsOnlyRead disk later
  plan_only_read (inl plans) = (plan_by_status request json dirs folders read disk later sources drained out after status plans).only_read
  plan_only_read (inr (f, d, s, refuses)) = not_asked disk later d

  pub plan_causes : PlansAsked request json dirs folders read disk later sources drained out after status → HasCauses disk later out after status
  plan_causes (inl plans) = (plan_by_status request json dirs folders read disk later sources drained out after status plans).causes
  plan_causes (inr (f, d, s, refuses)) = unasked_causes disk later out after status d refuses.answers

  pub plan_files : PlansAsked request json dirs folders read disk later sources drained out after status
      → HasFileCauses folders read sources drained out after status
  plan_files (inl plans) = (plan_by_status request json dirs folders read disk later sources drained out after status plans).files
  plan_files (inr (f, d, s, refuses)) = record {
    failed = λ e. clash status 10 8 refuses.answers e (λ h. omega arith);
    kept = λ e. clash status 10 0 refuses.answers e (λ h. omega arith);
  }

  -- it never has the status of words that aren't canonical
  pub plan_words : PlansAsked request json dirs folders read disk later sources drained out after status → status ≡ 2 → ⊥
  plan_words (inl plans) e =
      other (plan_by_status request json dirs folders read disk later sources drained out after status plans).one_of where
        other : ((status ≡ 3) ⊎ (status ≡ 4) ⊎ (status ≡ 5)) ⊎ (status ≡ 0) ⊎ (status ≡ 7) ⊎ (status ≡ 8) ⊎ (status ≡ 9) ⊎ (status ≡ 10) → ⊥
        other (inl (inl f)) = omega arith
        other (inl (inr (inl f))) = omega arith
        other (inl (inr (inr f))) = omega arith
        other (inr (inl f)) = omega arith
        other (inr (inr (inl f))) = omega arith
        other (inr (inr (inr (inl f)))) = omega arith
        other (inr (inr (inr (inr (inl f))))) = omega arith
        other (inr (inr (inr (inr (inr f))))) = omega arith
  plan_words (inr (f, d, s, refuses)) e = clash status 10 2 refuses.answers e (λ h. omega arith)

module _ (seed : Guid) (arch : Arch) (sector : ℕ) (dirs : List (List ℕ)) (folders read : Store Tree) (disk later : Device)
    (sources drained : Store (List Stored)) (out after : Output) (status : ℕ) where
  abbrev Asked : Type 0
  Asked = ChecksAsked seed arch sector dirs folders read disk later sources drained out after status

  pub check_only_read : Asked → IsOnlyRead disk later
  check_only_read (inl checks) = (check_by_status seed arch sector dirs folders read disk later sources drained out after status checks).only_read
  check_only_read (inr ((f, d, s), refuses)) = not_asked disk later d

  pub check_causes : Asked → HasCauses disk later out after status
  check_causes (inl checks) = (check_by_status seed arch sector dirs folders read disk later sources drained out after status checks).causes
  check_causes (inr ((f, d, s), refuses)) = unasked_causes disk later out after status d refuses.answers

  pub check_files : Asked → HasFileCauses folders read sources drained out after status
  check_files (inl checks) = (check_by_status seed arch sector dirs folders read disk later sources drained out after status checks).files
  check_files (inr ((f, d, s), refuses)) = record {
    failed = λ e. clash status 10 8 refuses.answers e (λ h. omega arith);
    kept = λ e. clash status 10 0 refuses.answers e (λ h. omega arith);
  }

  -- it never has the status of words that aren't canonical
  pub check_words : Asked → status ≡ 2 → ⊥
  check_words (inl checks) e =
      other (check_by_status seed arch sector dirs folders read disk later sources drained out after status checks).one_of where
        other : ((status ≡ 3) ⊎ (status ≡ 4) ⊎ (status ≡ 5)) ⊎ (status ≡ 0) ⊎ (status ≡ 1) ⊎ (status ≡ 7) ⊎ (status ≡ 8) ⊎ (status ≡ 9)
            ⊎ (status ≡ 10) → ⊥
        other (inl (inl f)) = omega arith
        other (inl (inr (inl f))) = omega arith
        other (inl (inr (inr f))) = omega arith
        other (inr (inl f)) = omega arith
        other (inr (inr (inl f))) = omega arith
        other (inr (inr (inr (inl f)))) = omega arith
        other (inr (inr (inr (inr (inl f))))) = omega arith
        other (inr (inr (inr (inr (inr (inl f)))))) = omega arith
        other (inr (inr (inr (inr (inr (inr f)))))) = omega arith
  check_words (inr ((f, d, s), refuses)) e = clash status 10 2 refuses.answers e (λ h. omega arith)
