-- What is known of `policy` and `compare` at each exit status.
use Rattle.std.specs.Prelude.{ℕ, ◌≡◌, ◌⊎◌, List, [], codes, Option, Some, None, Result, IsErr, IsOkAnd, IsErrAnd}
use Rattle.rp_denial.specs.Denials.{policy, policy_refusal}
use Rattle.rp_findings.specs.Policies.{beyond_line, policy_report}
use Rattle.rp_outcome.specs.Causes.{HasCauses}
use Rattle.rp_outcome.specs.Device.{Device}
use Rattle.rp_outcome.specs.Output.{Output, Prints, PrintsAll, PrintsPart}
use Rattle.rp_outcome.specs.Refusals.{line_of}
use Rattle.rp_outcome.specs.Statuses as exit
use Rattle.rp_policy.specs.Beyond.{counter_of}
use Rattle.rp_policy.specs.Reading.{designators}
use Rattle.rp_policy.specs.declared.beyond.Counter.{Counter}
use Rattle.rp_policy.specs.declared.policy.Policy.{Policy}
use Rattle.rp_policy.specs.declared.policy.PolicyFault.{PolicyFault}

-- the line of a text that is no policy was printed
abbrev pub TellsNone : Output → Output → PolicyFault → Type 0
TellsNone out after fault = Prints out after (line_of (policy_refusal fault))

-- `policy`, by what its text is: 0, it is a policy, which was printed; 9, a part, for the sink failed; 6, it is none, as a line
-- tells; 10, want of memory, and nothing was printed
pub record PolicyByStatus (answer : Result Policy PolicyFault) (out after : Output) (status : ℕ) : Type 0 where
  pub causes : (disk : Device) → HasCauses disk disk out after status
  pub one_of : (status ≡ exit.done) ⊎ (status ≡ policy) ⊎ (status ≡ exit.sink) ⊎ (status ≡ exit.memory)
  pub done : status ≡ exit.done → IsOkAnd answer (λ p. PrintsAll out after (policy_report p))
  pub cut : status ≡ exit.sink → IsOkAnd answer (λ p. PrintsPart out after (policy_report p))
  pub refused : status ≡ policy → IsErrAnd answer (TellsNone out after)
  pub nothing : status ≡ exit.memory → Prints out after []
  pub is_refused : IsErr answer → status ≡ policy

-- what is told of a comparison
abbrev pub told_text : Option Counter → List ℕ
told_text None = codes "within\n"
told_text (Some counter) = beyond_line counter

-- `compare`, by what its texts are: 0, both are policies, and the first has nothing that the second denies; 1, it has, and the first
-- was printed; 9, a part of either, for the sink failed; 6, the first text is none, or the first is one and the second none, as a line
-- tells; 10, want of memory, and nothing was printed
pub record CompareByStatus (first second : Result Policy PolicyFault) (out after : Output) (status : ℕ) : Type 0 where
  pub causes : (disk : Device) → HasCauses disk disk out after status
  pub one_of : (status ≡ exit.done) ⊎ (status ≡ exit.differs) ⊎ (status ≡ policy) ⊎ (status ≡ exit.sink) ⊎ (status ≡ exit.memory)
  pub within : status ≡ exit.done → IsOkAnd first (λ p. IsOkAnd second (λ q.
      (counter_of designators p q ≡ None) × PrintsAll out after (codes "within\n")))
  pub beyond : status ≡ exit.differs → IsOkAnd first (λ p. IsOkAnd second (λ q.
      (counter : Counter) × (counter_of designators p q ≡ Some counter) × PrintsAll out after (beyond_line counter)))
  pub cut : status ≡ exit.sink → IsOkAnd first (λ p. IsOkAnd second (λ q. PrintsPart out after (told_text (counter_of designators p q))))
  pub refused : status ≡ policy → IsErrAnd first (TellsNone out after) ⊎ IsOkAnd first (λ _. IsErrAnd second (TellsNone out after))
  pub nothing : status ≡ exit.memory → Prints out after []
  pub is_refused : IsErr first → status ≡ policy
  pub is_refused_too : IsErr second → status ≡ policy
