-- How a command ends whose policy is none, or denies.
use Rattle.std.specs.Prelude.{ℕ, List, [], ◌∷◌, ◌++◌, ◌≡◌, codes}
use Rattle.std.specs.Fmt.{decimal}
use Rattle.rp_outcome.specs.Output.{Output, Prints}
use Rattle.rp_outcome.specs.Refusals.{Refusal}
use Rattle.rp_policy.specs.declared.judging.Rule.{Rule}
use Rattle.rp_policy.specs.declared.judging.Rule.TheVariants.{Absence, Protection, ReadOnly, GrowFs}
use Rattle.rp_policy.specs.declared.policy.PolicyFault.{PolicyFault}
use Rattle.rp_policy.specs.declared.policy.PolicyKind.{PolicyKind}
use Rattle.rp_policy.specs.declared.policy.PolicyKind.TheVariants.{TooLong, NoEquals, UnknownDesignator, Repeated, UnknownFlag}
use Rattle.rp_types.specs.Designators.{designator_name}
use Rattle.rp_types.specs.declared.arch.Designator.{Designator}

-- the exit status of a policy's text that is none, and of a policy that denies
abbrev pub policy : ℕ
policy = 6

-- what is wrong with a text
abbrev pub kind_word : PolicyKind → List ℕ
kind_word TooLong = codes "TooLong"
kind_word NoEquals = codes "NoEquals"
kind_word UnknownDesignator = codes "UnknownDesignator"
kind_word Repeated = codes "Repeated"
kind_word UnknownFlag = codes "UnknownFlag"

-- the refusal of a text that is no policy: the byte of its first fault, and what is wrong there
abbrev pub policy_refusal : PolicyFault → Refusal
policy_refusal fault = record { status = policy; words = codes "policy" ∷ decimal fault.at ∷ kind_word fault.kind ∷ [] }

abbrev pub rule_name : Rule → List ℕ
rule_name Absence = codes "absence"
rule_name Protection = codes "protection"
rule_name ReadOnly = codes "read-only"
rule_name GrowFs = codes "growfs"

-- the line of a denial
unfoldable pub denied_line : Designator → Rule → List ℕ
denied_line d rule = codes "denied " ++ designator_name d ++ codes " " ++ rule_name rule ++ codes "\n"

-- a command that is denied ends with its status, and with its line as far as the sink took it
pub record Denies (before now : Output) (d : Designator) (rule : Rule) (status : ℕ) : Type 0 where
  pub answers : status ≡ policy
  pub printed : Prints before now (denied_line d rule)
