-- What `policy` and `compare` promise, by their exit statuses.
use Rattle.std.proofs.Common.{ℕ, ◌≡◌, ◌⊎◌, [], Option, Some, None, Result, Ok, Err, refl, sym, ◌∙◌, subst, inl, inr, arith, true≢false}
use Rattle.std.specs.Prelude.{IsErrAnd, IsOkAnd}
use Rattle.rp_base.specs.Faults.{Rose}
use Rattle.rp_denial.specs.Denials.{policy_refusal}
use Rattle.rp_outcome.specs.Causes.{HasCauses}
use Rattle.rp_outcome.specs.Device.{Device}
use Rattle.rp_outcome.specs.Output.{Output, Prints, PrintsPart, Refuses}
use Rattle.rp_outcome.specs.Refusals.{line_of, memory_refusal}
use Rattle.rp_policy.specs.Beyond.{counter_of}
use Rattle.rp_policy.specs.Reading.{designators}
use Rattle.rp_policy.specs.declared.beyond.Counter.{Counter}
use Rattle.rp_policy.specs.declared.policy.Policy.{Policy}
use Rattle.rp_policy.specs.declared.policy.PolicyFault.{PolicyFault}
use Rattle.rp_policy_command.specs.Commands.{Compared, TellsPolicy, Told}
use Rattle.rp_policy_command.specs.Statuses.{CompareByStatus, PolicyByStatus, TellsNone, told_text}

-- two numbers that differ are no one status
clash : {P : Type 0} (status a b : ℕ) → status ≡ a → status ≡ b → (a ≡ b → ⊥) → P
clash status a b e f differ = absurd (differ (sym e ∙ f))

-- want of memory prints nothing
nothing_printed : (out after : Output) (status : ℕ) → Refuses out after memory_refusal status → Prints out after []
unfolding line_of
nothing_printed out after status refuses = refuses.printed

-- a disk that isn't asked doesn't fail
causes_of : (out after : Output) (status : ℕ) → (status ≡ 7 → ⊥) → (status ≡ 9 → Rose out.faults after.faults)
    → (status ≡ 0 → after.faults ≡ out.faults) → (disk : Device) → HasCauses disk disk out after status
causes_of out after status other failed kept disk = record {
  disk_failed = λ e. absurd (other e);
  disk_kept = inr refl;
  sink_failed = failed;
  sink_kept = kept;
}

module _ (out after : Output) (status : ℕ) where
  pub by_policy : (answer : Result Policy PolicyFault) → TellsPolicy out after status answer → PolicyByStatus answer out after status
  by_policy (Ok p) (inl (inl (e, printed))) = record {
    causes = causes_of out after status (λ f. clash status 0 7 e f (λ h. omega arith)) (λ f. clash status 0 9 e f (λ h. omega arith)) (λ f. printed.kept);
    one_of = inl e;
    done = λ f. printed;
    cut = λ f. clash status 0 9 e f (λ h. omega arith);
    refused = λ f. clash status 0 6 e f (λ h. omega arith);
    nothing = λ f. clash status 0 10 e f (λ h. omega arith);
    is_refused = λ f. absurd (true≢false (sym f));
  }
  by_policy (Ok p) (inl (inr (e, printed))) = record {
    causes = causes_of out after status (λ f. clash status 9 7 e f (λ h. omega arith)) (λ f. printed.rose) (λ f. clash status 9 0 e f (λ h. omega arith));
    one_of = inr (inr (inl e));
    done = λ f. clash status 9 0 e f (λ h. omega arith);
    cut = λ f. printed;
    refused = λ f. clash status 9 6 e f (λ h. omega arith);
    nothing = λ f. clash status 9 10 e f (λ h. omega arith);
    is_refused = λ f. absurd (true≢false (sym f));
  }
  by_policy (Ok p) (inr refuses) = let e : status ≡ 10 = refuses.answers in record {
    causes = causes_of out after status (λ f. clash status 10 7 e f (λ h. omega arith)) (λ f. clash status 10 9 e f (λ h. omega arith))
        (λ f. clash status 10 0 e f (λ h. omega arith));
    one_of = inr (inr (inr e));
    done = λ f. clash status 10 0 e f (λ h. omega arith);
    cut = λ f. clash status 10 9 e f (λ h. omega arith);
    refused = λ f. clash status 10 6 e f (λ h. omega arith);
    nothing = λ f. nothing_printed out after status refuses;
    is_refused = λ f. absurd (true≢false (sym f));
  }
  by_policy (Err fault) refuses = let e : status ≡ 6 = refuses.answers in record {
    causes = causes_of out after status (λ f. clash status 6 7 e f (λ h. omega arith)) (λ f. clash status 6 9 e f (λ h. omega arith))
        (λ f. clash status 6 0 e f (λ h. omega arith));
    one_of = inr (inl e);
    done = λ f. clash status 6 0 e f (λ h. omega arith);
    cut = λ f. clash status 6 9 e f (λ h. omega arith);
    refused = λ f. refuses.printed;
    nothing = λ f. clash status 6 10 e f (λ h. omega arith);
    is_refused = λ f. e;
  }

  -- a text is none
  by_fault : (first second : Result Policy PolicyFault) (fault : PolicyFault)
      → IsErrAnd first (TellsNone out after) ⊎ IsOkAnd first (λ _. IsErrAnd second (TellsNone out after))
      → Refuses out after (policy_refusal fault) status
      → CompareByStatus first second out after status
  by_fault first second fault none refuses = let e : status ≡ 6 = refuses.answers in record {
    causes = causes_of out after status (λ f. clash status 6 7 e f (λ h. omega arith)) (λ f. clash status 6 9 e f (λ h. omega arith))
        (λ f. clash status 6 0 e f (λ h. omega arith));
    one_of = inr (inr (inl e));
    within = λ f. clash status 6 0 e f (λ h. omega arith);
    beyond = λ f. clash status 6 1 e f (λ h. omega arith);
    cut = λ f. clash status 6 9 e f (λ h. omega arith);
    refused = λ f. none;
    nothing = λ f. clash status 6 10 e f (λ h. omega arith);
    is_refused = λ f. e;
    is_refused_too = λ f. e;
  }

  by_told : (p q : Policy) (counter : Option Counter) → counter_of designators p q ≡ counter → Told out after status counter
      → CompareByStatus (Ok p) (Ok q) out after status
  by_told p q None is (inl (e, printed)) = record {
    causes = causes_of out after status (λ f. clash status 0 7 e f (λ h. omega arith)) (λ f. clash status 0 9 e f (λ h. omega arith)) (λ f. printed.kept);
    one_of = inl e;
    within = λ f. (is, printed);
    beyond = λ f. clash status 0 1 e f (λ h. omega arith);
    cut = λ f. clash status 0 9 e f (λ h. omega arith);
    refused = λ f. clash status 0 6 e f (λ h. omega arith);
    nothing = λ f. clash status 0 10 e f (λ h. omega arith);
    is_refused = λ f. absurd (true≢false (sym f));
    is_refused_too = λ f. absurd (true≢false (sym f));
  }
  by_told p q None is (inr (e, printed)) = record {
    causes = causes_of out after status (λ f. clash status 9 7 e f (λ h. omega arith)) (λ f. printed.rose) (λ f. clash status 9 0 e f (λ h. omega arith));
    one_of = inr (inr (inr (inl e)));
    within = λ f. clash status 9 0 e f (λ h. omega arith);
    beyond = λ f. clash status 9 1 e f (λ h. omega arith);
    cut = λ f. subst (λ (c : Option Counter). PrintsPart out after (told_text c)) (sym is) printed;
    refused = λ f. clash status 9 6 e f (λ h. omega arith);
    nothing = λ f. clash status 9 10 e f (λ h. omega arith);
    is_refused = λ f. absurd (true≢false (sym f));
    is_refused_too = λ f. absurd (true≢false (sym f));
  }
  by_told p q (Some counter) is (inl (inl (e, printed))) = record {
    causes = causes_of out after status (λ f. clash status 1 7 e f (λ h. omega arith)) (λ f. clash status 1 9 e f (λ h. omega arith))
        (λ f. clash status 1 0 e f (λ h. omega arith));
    one_of = inr (inl e);
    within = λ f. clash status 1 0 e f (λ h. omega arith);
    beyond = λ f. (counter, is, printed);
    cut = λ f. clash status 1 9 e f (λ h. omega arith);
    refused = λ f. clash status 1 6 e f (λ h. omega arith);
    nothing = λ f. clash status 1 10 e f (λ h. omega arith);
    is_refused = λ f. absurd (true≢false (sym f));
    is_refused_too = λ f. absurd (true≢false (sym f));
  }
  by_told p q (Some counter) is (inl (inr (e, printed))) = record {
    causes = causes_of out after status (λ f. clash status 9 7 e f (λ h. omega arith)) (λ f. printed.rose) (λ f. clash status 9 0 e f (λ h. omega arith));
    one_of = inr (inr (inr (inl e)));
    within = λ f. clash status 9 0 e f (λ h. omega arith);
    beyond = λ f. clash status 9 1 e f (λ h. omega arith);
    cut = λ f. subst (λ (c : Option Counter). PrintsPart out after (told_text c)) (sym is) printed;
    refused = λ f. clash status 9 6 e f (λ h. omega arith);
    nothing = λ f. clash status 9 10 e f (λ h. omega arith);
    is_refused = λ f. absurd (true≢false (sym f));
    is_refused_too = λ f. absurd (true≢false (sym f));
  }
  by_told p q (Some counter) is (inr refuses) = let e : status ≡ 10 = refuses.answers in record {
    causes = causes_of out after status (λ f. clash status 10 7 e f (λ h. omega arith)) (λ f. clash status 10 9 e f (λ h. omega arith))
        (λ f. clash status 10 0 e f (λ h. omega arith));
    one_of = inr (inr (inr (inr e)));
    within = λ f. clash status 10 0 e f (λ h. omega arith);
    beyond = λ f. clash status 10 1 e f (λ h. omega arith);
    cut = λ f. clash status 10 9 e f (λ h. omega arith);
    refused = λ f. clash status 10 6 e f (λ h. omega arith);
    nothing = λ f. nothing_printed out after status refuses;
    is_refused = λ f. absurd (true≢false (sym f));
    is_refused_too = λ f. absurd (true≢false (sym f));
  }

  pub by_compare : (first second : Result Policy PolicyFault) → Compared out after status first second
      → CompareByStatus first second out after status
  by_compare (Ok p) (Ok q) told = by_told p q (counter_of designators p q) refl told
  by_compare (Ok p) (Err fault) refuses = by_fault (Ok p) (Err fault) fault (inr refuses.printed) refuses
  by_compare (Err fault) second refuses = by_fault (Err fault) second fault (inl refuses.printed) refuses
