-- Texts, judgements and comparisons that were worked out by hand come out of the definitions.
use Rattle.std.proofs.Common.{◌≡◌, ℕ, Bool, true, false, List, [], Option, Some, None, Result, Ok, Err, refl}
use Rattle.std.specs.Prelude.{codes}
use Rattle.rp_types.specs.declared.arch.Designator.TheVariants.{Root, Esp, Home, RootVerity, RootVeritySig}
use Rattle.rp_policy.specs.declared.policy.Policy.{Policy}
use Rattle.rp_policy.specs.declared.policy.PolicyFault.{PolicyFault}
use Rattle.rp_policy.specs.declared.policy.PolicyKind.{PolicyKind}
use Rattle.rp_policy.specs.declared.policy.PolicyKind.TheVariants.{NoEquals, UnknownDesignator, Repeated, UnknownFlag}
use Rattle.rp_policy.specs.declared.judging.Found.{Found}
use Rattle.rp_policy.specs.declared.judging.Kind.TheVariants.{Signed, Encrypted}
use Rattle.rp_policy.specs.declared.judging.Rule.TheVariants.{Absence, Protection, ReadOnly, GrowFs}
use Rattle.rp_policy.specs.declared.judging.Judged.TheVariants.{Ignored, Use, Denied}
use Rattle.rp_policy.specs.Beyond.{all_found, counter_of, is_beyond}
use Rattle.rp_policy.specs.Judging.{flags_of, judged}
use Rattle.rp_policy.specs.Reading.{default_alone, designators, policy_of}
use Rattle.rp_policy.specs.Written.{flags_text, policy_text}

-- the canonical text of what a text is
abbrev canonical : Result Policy PolicyFault → List ℕ
canonical (Ok policy) = policy_text policy
canonical (Err f) = []

-- the policy of a text, or one that allows nothing
abbrev policy : Result Policy PolicyFault → Policy
policy (Ok p) = p
policy (Err f) = default_alone 0

abbrev refused : ℕ → PolicyKind → Result Policy PolicyFault
refused at kind = Err (record { at = at; kind = kind })

abbrev found : ℕ → Bool → Bool → Option Found
found kinds read_only growfs = Some (record { kinds = record { 0 = kinds }; read_only = read_only; growfs = growfs })

open_to_all : canonical (policy_of (codes "*")) ≡ codes "*"
open_to_all = refl

ignoring_all : canonical (policy_of (codes "-")) ≡ codes "-"
ignoring_all = refl

all_absent : canonical (policy_of (codes "~")) ≡ codes "~"
all_absent = refl

nothing_at_all : canonical (policy_of []) ≡ codes "-"
nothing_at_all = refl

no_flags : canonical (policy_of (codes "root=")) ≡ codes "root=open"
no_flags = refl

in_order : canonical (policy_of (codes "root=unused+absent+verity")) ≡ codes "root=verity+unused+absent"
in_order = refl

once : canonical (policy_of (codes "root=unused+unused")) ≡ codes "root=unused"
once = refl

by_designator : canonical (policy_of (codes "home=absent:=verity:root=ignore+growfs-off+read-only-on"))
    ≡ codes "root=ignore+read-only-on+growfs-off:home=absent:=verity"
by_designator = refl

both_of_a_pair : canonical (policy_of (codes "=absent+growfs-on+growfs-off")) ≡ codes "~"
both_of_a_pair = refl

unknown_flag : policy_of (codes "root=fast") ≡ refused 5 UnknownFlag
unknown_flag = refl

an_empty_flag_beside_others : policy_of (codes "root=verity++absent") ≡ refused 12 UnknownFlag
an_empty_flag_beside_others = refl

no_equals : policy_of (codes "home=open:root") ≡ refused 10 NoEquals
no_equals = refl

behind_the_last_colon : policy_of (codes "home=open:") ≡ refused 10 NoEquals
behind_the_last_colon = refl

unknown_designator : policy_of (codes "home=open:rot=fast") ≡ refused 10 UnknownDesignator
unknown_designator = refl

repeated : policy_of (codes "root=open:root=fast") ≡ refused 10 Repeated
repeated = refl

a_second_default : policy_of (codes "=open:=absent") ≡ refused 6 Repeated
a_second_default = refl

a_tree_under_an_open_root : flags_text (flags_of (default_alone 63) RootVerity).0 ≡ codes "unprotected+unused+absent"
a_tree_under_an_open_root = refl

no_signature_for_verity : flags_text (flags_of (policy (policy_of (codes "root=verity+growfs-on:=absent"))) RootVeritySig).0
    ≡ codes "absent"
no_signature_for_verity = refl

a_tree_for_verity : flags_text (flags_of (policy (policy_of (codes "root=verity+growfs-on:=absent"))) RootVerity).0
    ≡ codes "unprotected+growfs-on"
a_tree_for_verity = refl

absence_is_denied : judged (flags_of (policy (policy_of (codes "root=unused+unused"))) Root).0 None ≡ Denied Absence
absence_is_denied = refl

presence_is_denied : judged (flags_of (policy (policy_of (codes "home=absent+unused:esp=absent"))) Esp).0 (found 8 false false)
    ≡ Denied Protection
presence_is_denied = refl

unused_is_ignored : judged (flags_of (policy (policy_of (codes "home=absent+unused:esp=absent"))) Home).0 (found 8 false false) ≡ Ignored
unused_is_ignored = refl

read_only_is_denied : judged (flags_of (policy (policy_of (codes "root=unprotected+read-only-off+growfs-on"))) Root).0
    (found 9 true false) ≡ Denied ReadOnly
read_only_is_denied = refl

not_growing_is_denied : judged (flags_of (policy (policy_of (codes "esp=unprotected+growfs-on"))) Esp).0 (found 8 false false)
    ≡ Denied GrowFs
not_growing_is_denied = refl

the_strongest_is_used : judged 63 (found 15 false false) ≡ Use Signed
the_strongest_is_used = refl

of_what_is_allowed : judged 12 (found 13 true true) ≡ Use Encrypted
of_what_is_allowed = refl

beyond_absent : counter_of designators (policy (policy_of (codes "root=verity+absent"))) (policy (policy_of (codes "root=verity")))
    ≡ Some (record { designator = Root; found = None })
unfolding all_found is_beyond
beyond_absent = refl

within : counter_of designators (policy (policy_of (codes "root=signed"))) (policy (policy_of (codes "root=signed+verity"))) ≡ None
unfolding all_found is_beyond
within = refl

beyond_verity : counter_of designators (policy (policy_of (codes "root=signed+verity"))) (policy (policy_of (codes "root=signed")))
    ≡ Some (record { designator = Root; found = found 1 false false })
unfolding all_found is_beyond
beyond_verity = refl
