-- The lines of refusals, by their pieces.
use Rattle.std.proofs.Common.{ℕ, ◌≡◌, ◌++◌, List, [], sym, ap, append_assoc, append-nil, arith}
use Rattle.std.proofs.lemmas.Fmt.{decimal_digit}
use Rattle.std.specs.Fmt.{decimal}
use Rattle.std.specs.Prelude.{codes}
use Rattle.rp_denial.specs.Denials.{denied_line, kind_word, policy_refusal, rule_name}
use Rattle.rp_outcome.specs.Refusals.{line_of}
use Rattle.rp_policy.specs.declared.judging.Rule.{Rule}
use Rattle.rp_policy.specs.declared.policy.PolicyFault.{PolicyFault}
use Rattle.rp_types.specs.Designators.{designator_name}
use Rattle.rp_types.specs.declared.arch.Designator.{Designator}

-- the pieces of the line of a denial
pub denied-pieces : (d : Designator) (rule : Rule) (name word : List ℕ) → name ≡ designator_name d → word ≡ rule_name rule
    → codes "denied " ++ (name ++ (codes " " ++ (word ++ (codes "\n" ++ [])))) ≡ denied_line d rule
unfolding denied_line
denied-pieces d rule name word is says = rw (is, says) (simp (append_assoc, append-nil))

six : decimal 6 ≡ codes "6"
six = decimal_digit 6 (omega arith)

-- the pieces of the line of a text that is no policy
pub refused-pieces : (fault : PolicyFault) (at word : List ℕ) → at ≡ decimal fault.at → word ≡ kind_word fault.kind
    → codes "error 6" ++ (codes " policy" ++ (codes " " ++ (at ++ (codes " " ++ (word ++ (codes "\n" ++ [])))))) ≡ line_of (policy_refusal fault)
unfolding line_of
refused-pieces fault at word is says =
    rw (is, says) (simp (append_assoc, append-nil, six)
    (ap (λ s. codes "error 6 policy " ++ s) (sym (append_assoc (decimal fault.at) (codes " " ++ kind_word fault.kind) (codes "\n")))))
