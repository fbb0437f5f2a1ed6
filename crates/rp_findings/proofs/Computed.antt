-- Worked lines.
use Rattle.std.proofs.Common.{◌≡◌, ℕ, true, false, Some, None, refl}
use Rattle.std.specs.Prelude.{codes}
use Rattle.rp_findings.specs.Policies.{beyond_line, flags_line}
use Rattle.rp_policy.specs.Reading.{default_alone}
use Rattle.rp_types.specs.declared.arch.Designator.TheVariants.{Root, RootVerity}

beyond_absent : beyond_line (record { designator = Root; found = None }) ≡ codes "beyond root absent\n"
unfolding beyond_line
beyond_absent = refl

beyond_verity : beyond_line (record { designator = Root; found = Some (record { kinds = record { 0 = 1 }; read_only = false; growfs = false }) })
    ≡ codes "beyond root verity read-only-off growfs-off\n"
unfolding beyond_line
beyond_verity = refl

beyond_two : beyond_line (record { designator = Root; found = Some (record { kinds = record { 0 = 9 }; read_only = true; growfs = false }) })
    ≡ codes "beyond root verity+unprotected read-only-on growfs-off\n"
unfolding beyond_line
beyond_two = refl

-- where all may be used, a hash tree that isn't listed has flags as its data's ask for one
tree_line : flags_line (default_alone 63) RootVerity ≡ codes "root-verity unprotected+unused+absent\n"
unfolding flags_line
tree_line = refl
