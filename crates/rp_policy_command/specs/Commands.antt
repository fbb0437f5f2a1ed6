-- What `policy` and `compare` do.
use Rattle.std.specs.Prelude.{ℕ, ◌⊎◌, List, codes, Option, Some, None, Result, Ok, Err}
use Rattle.rp_denial.specs.Denials.{policy_refusal}
use Rattle.rp_findings.specs.Policies.{beyond_line, policy_report}
use Rattle.rp_outcome.specs.Output.{Output, Differs, Finishes, Refuses}
use Rattle.rp_outcome.specs.Refusals.{memory_refusal}
use Rattle.rp_policy.specs.Beyond.{counter_of}
use Rattle.rp_policy.specs.Reading.{designators, policy_of}
use Rattle.rp_policy.specs.declared.beyond.Counter.{Counter}
use Rattle.rp_policy.specs.declared.policy.Policy.{Policy}
use Rattle.rp_policy.specs.declared.policy.PolicyFault.{PolicyFault}

-- a policy is printed, unless there was no memory for its text; a text that is none is refused
abbrev pub TellsPolicy : Output → Output → ℕ → Result Policy PolicyFault → Type 0
TellsPolicy out after status (Ok policy) = Finishes out after (policy_report policy) status ⊎ Refuses out after memory_refusal status
TellsPolicy out after status (Err fault) = Refuses out after (policy_refusal fault) status

-- `policy`: the policy of a text is printed
abbrev pub PrintsPolicy : List ℕ → Output → Output → ℕ → Type 0
PrintsPolicy text out after status = TellsPolicy out after status (policy_of text)

-- what a comparison found is printed, unless there was no memory for the text
abbrev pub Told : Output → Output → ℕ → Option Counter → Type 0
Told out after status None = Finishes out after (codes "within\n") status
Told out after status (Some counter) = Differs out after (beyond_line counter) status ⊎ Refuses out after memory_refusal status

-- a policy is compared with another, unless the text of that is none
abbrev pub AgainstRead : Policy → Output → Output → ℕ → Result Policy PolicyFault → Type 0
AgainstRead policy out after status (Ok against) = Told out after status (counter_of designators policy against)
AgainstRead policy out after status (Err fault) = Refuses out after (policy_refusal fault) status

abbrev pub Against : Policy → List ℕ → Output → Output → ℕ → Type 0
Against policy against out after status = AgainstRead policy out after status (policy_of against)

-- the first text is read before the second
abbrev pub Compared : Output → Output → ℕ → Result Policy PolicyFault → Result Policy PolicyFault → Type 0
Compared out after status (Ok policy) against = AgainstRead policy out after status against
Compared out after status (Err fault) against = Refuses out after (policy_refusal fault) status

-- `compare`: what the policy of a text allows and that of another denies is printed
abbrev pub Compares : List ℕ → List ℕ → Output → Output → ℕ → Type 0
Compares text against out after status = Compared out after status (policy_of text) (policy_of against)
