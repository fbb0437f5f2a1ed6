-- Each sentence of what `plan` and `apply` promise with a factory reset.
use Rattle.std.proofs.Common.{ℕ, ◌≡◌, List, [], ◌∷◌, Bool, Option, Some, None, sym, subst, inl, inr, arith}
use Rattle.rp_apply_command.proofs.Moments.{leaves_all}
use Rattle.rp_apply_command.proofs.Runs.{made_none}
use Rattle.rp_apply_command.specs.Ends.{IsBefore, IsBehind, LeavesAll}
use Rattle.rp_base.specs.Geometry.{IsSector}
use Rattle.rp_cli.proofs.Applied.{before_between, done_before, done_between}
use Rattle.rp_cli.proofs.Promised.{clash, not_asked, plan_causes, plan_files, plan_words, unasked_causes}
use Rattle.rp_cli.specs.Asked.{PlansAsked}
use Rattle.rp_cli.specs.Holds.{Holds}
use Rattle.rp_cli.specs.Resetting.{AppliesResetAsked, IsRenewed, IsRenewedSafely, PlansResetAsked}
use Rattle.rp_base.specs.declared.plan.Plan.{Plan}
use Rattle.rp_defs.specs.declared.definition.Definition.{Definition}
use Rattle.rp_disk.specs.Runs.{MadeFirst}
use Rattle.rp_disk.specs.declared.call.Call.TheVariants.{Sync}
use Rattle.rp_io.specs.Files.{Tree}
use Rattle.rp_io.specs.declared.stored.Stored.{Stored}
use Rattle.rp_outcome.specs.Device.{Device, IsOnlyRead}
use Rattle.rp_outcome.specs.Output.{Output}
use Rattle.rp_outcome.specs.Store.{Store}
use Rattle.rp_planned.specs.declared.request.Request.{Request}
use Rattle.rp_reset_command.specs.declared.renewal.Renewal.{Renewal}
use Rattle.rp_reset_promise.proofs.Causes.{apply_reset_causes, plan_reset_causes}
use Rattle.rp_reset_promise.proofs.Ended.{ends_so}
use Rattle.rp_reset_promise.proofs.Read.{plan_reset_reads}
use Rattle.rp_reset_promise.specs.Ends.{CarriesAllBy, CarriesSomeBy, ResetEnds}
use Rattle.rp_reset_promise.specs.Ends.ResetEnds.{before, behind, broken, between}
use Rattle.rp_words.specs.Values.{IsSize}

-- want of memory before anything is asked
unasked_holds : (folders read : Store Tree) (disk later : Device) (sources drained : Store (List Stored)) (out after : Output) (status : ℕ)
    → later ≡ disk → status ≡ 10 → Holds folders read disk later sources drained out after status
unasked_holds folders read disk later sources drained out after status same ten = record {
  causes = unasked_causes disk later out after status same ten;
  files = record { failed = λ e. clash status 10 8 ten e (λ h. omega arith); kept = λ e. clash status 10 0 ten e (λ h. omega arith) };
  words = λ e. clash status 10 2 ten e (λ h. omega arith);
}

-- where all was carried out, its first calls were
some_of : (request : Request) (list : List Definition) (disk later : Device) (sources : Store (List Stored)) (renewal : Renewal) (o : Option Plan)
    → CarriesAllBy request list disk later sources renewal o → CarriesSomeBy request list disk later sources renewal o
some_of request list disk later sources renewal None (none, all) = (none, λ o can. ((all o can).0, (all o can).1.some))
some_of request list disk later sources renewal (Some reset) all = λ o can. ((all o can).0, (all o can).1, (all o can).2.some)

module _ (request : Request) (json : Bool) (dirs : List (List ℕ)) (folders read : Store Tree) (disk later : Device)
    (sources drained : Store (List Stored)) (out after : Output) (status : ℕ) where
  -- without a reset
  pub plan_off_holds : PlansAsked request json dirs folders read disk later sources drained out after status
      → Holds folders read disk later sources drained out after status
  plan_off_holds asked = record {
    causes = plan_causes request json dirs folders read disk later sources drained out after status asked;
    files = plan_files request json dirs folders read disk later sources drained out after status asked;
    words = plan_words request json dirs folders read disk later sources drained out after status asked;
  }

  pub plan_holds : PlansResetAsked request json dirs folders read disk later sources drained out after status
      → Holds folders read disk later sources drained out after status
  plan_holds (inl plans) =
      let c = plan_reset_causes folders read disk later sources drained out after status request json dirs plans in
      record { causes = c.causes; files = c.files; words = c.words }
  plan_holds (inr ((f, same, s), refuses)) = unasked_holds folders read disk later sources drained out after status same refuses.answers

  pub plan_only_read : PlansResetAsked request json dirs folders read disk later sources drained out after status → IsOnlyRead disk later
  plan_only_read (inl plans) = plan_reset_reads request json dirs folders read disk later sources drained out after status plans
  plan_only_read (inr ((f, same, s), refuses)) = not_asked disk later same

  pub apply_holds : AppliesResetAsked request json dirs folders read disk later sources drained out after status
      → Holds folders read disk later sources drained out after status
  apply_holds (inl applies) =
      let c = apply_reset_causes folders read disk later sources drained out after status request json dirs applies in
      record { causes = c.causes; files = c.files; words = c.words }
  apply_holds (inr ((f, same, s), refuses)) = unasked_holds folders read disk later sources drained out after status same refuses.answers

  module _ (sector : IsSector request.sector) (size : IsSize request.size) where
    abbrev Asked : Type 0
    Asked = AppliesResetAsked request json dirs folders read disk later sources drained out after status

    abbrev End : Type 0
    End = ResetEnds request json dirs folders disk later sources out after status

    unasked : later ≡ disk → LeavesAll disk later
    unasked same = leaves_all disk later (subst (λ (d : Device). MadeFirst disk.calls (Sync ∷ []) d.calls) (sym same) (made_none disk.calls (Sync ∷ [])))

    pub reset_applied : Asked → IsBehind status → IsRenewed request dirs folders disk later sources
    reset_applied (inr (same, refuses)) is = done_before status (inr (inr (inr refuses.answers))) is
    reset_applied (inl applies) is =
        by_end (ends_so request json dirs folders read disk later sources drained out after status sector size.whole size.most applies) where
          by_end : End → IsRenewed request dirs folders disk later sources
          by_end (before at leaves) = done_before status at is
          by_end (broken at leaves) = done_between status at is
          by_end (between at definitions renewal are some refusal cause refuses) = done_between status at is
          by_end (behind at definitions renewal are all finishes) = record {
            definitions = definitions;
            renewal = renewal;
            read = are;
            carried = all;
          }

    pub reset_refused : Asked → IsBefore status → LeavesAll disk later
    reset_refused (inr (same, refuses)) is = unasked same.1
    reset_refused (inl applies) is =
        by_end (ends_so request json dirs folders read disk later sources drained out after status sector size.whole size.most applies) where
          by_end : End → LeavesAll disk later
          by_end (before at leaves) = leaves
          by_end (broken at leaves) = leaves
          by_end (behind at definitions renewal are all finishes) = done_before status is at
          by_end (between at definitions renewal are some refusal cause refuses) = before_between status at is

    pub reset_safe : Asked → IsRenewedSafely request dirs folders disk later sources
    reset_safe (inr (same, refuses)) = inl (unasked same.1)
    reset_safe (inl applies) =
        by_end (ends_so request json dirs folders read disk later sources drained out after status sector size.whole size.most applies) where
          by_end : End → IsRenewedSafely request dirs folders disk later sources
          by_end (before at leaves) = inl leaves
          by_end (broken at leaves) = inl leaves
          by_end (behind at definitions renewal are all finishes) =
              inr (definitions, renewal, are, some_of request definitions.list disk later sources renewal renewal.reset all)
          by_end (between at definitions renewal are some refusal cause refuses) = inr (definitions, renewal, are, some)
