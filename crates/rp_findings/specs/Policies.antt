-- What is printed of image policies.
use Rattle.std.specs.Prelude.{ℕ, List, ◌++◌, Bool, Option, Some, None, codes, if◌then◌else◌}
use Rattle.std.specs.List.{flat_map}
use Rattle.rp_types.specs.Designators.{designator_name}
use Rattle.rp_types.specs.declared.arch.Designator.{Designator}
use Rattle.rp_policy.specs.Judging.{flags_of}
use Rattle.rp_policy.specs.Reading.{designators}
use Rattle.rp_policy.specs.Written.{flags_text, policy_text}
use Rattle.rp_policy.specs.declared.beyond.Counter.{Counter}
use Rattle.rp_policy.specs.declared.judging.Found.{Found}
use Rattle.rp_policy.specs.declared.policy.Policy.{Policy}

-- the line of a designator: its name, and its flags
unfoldable pub flags_line : Policy → Designator → List ℕ
flags_line policy d = designator_name d ++ codes " " ++ flags_text (flags_of policy d).0 ++ codes "\n"

-- what is printed of a policy: its canonical text, and a line for each designator in order
unfoldable pub policy_report : Policy → List ℕ
policy_report policy = policy_text policy ++ codes "\n" ++ flat_map (flags_line policy) designators

abbrev pub switch_text : Bool → List ℕ
switch_text on = if on then codes "on" else codes "off"

-- what was found: that there is nothing, or the kinds of protection and both states
abbrev pub found_text : Option Found → List ℕ
found_text None = codes "absent"
found_text (Some found) =
    flags_text found.kinds.0 ++ codes " read-only-" ++ switch_text found.read_only ++ codes " growfs-" ++ switch_text found.growfs

-- the line of what one policy allows and another denies
unfoldable pub beyond_line : Counter → List ℕ
beyond_line counter = codes "beyond " ++ designator_name counter.designator ++ codes " " ++ found_text counter.found ++ codes "\n"
