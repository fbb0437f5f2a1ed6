-- What partitions are for, by name and by architecture.
use Rattle.std.specs.Prelude.{List, ℕ, Bool, true, false, Option, None, codes, if◌then◌else◌}
use Rattle.std.specs.Option.{option_map_or}
use Rattle.rp_types.specs.declared.arch.Arch.{Arch}
use Rattle.rp_types.specs.declared.arch.Arch.TheVariants.{X86_64, Arm64}
use Rattle.rp_types.specs.declared.arch.Designator.{Designator}
use Rattle.rp_types.specs.declared.arch.Designator.TheVariants.{Root, Usr, Home, Srv, Esp, Xbootldr, Swap, RootVerity, RootVeritySig, UsrVerity, UsrVeritySig, Tmp, Var}
use Rattle.rp_types.specs.declared.table.PartitionType.{PartitionType}

-- whether two architectures are one
abbrev pub same_arch : Arch → Arch → Bool
same_arch X86_64 X86_64 = true
same_arch Arm64 Arm64 = true
same_arch X86_64 Arm64 = false
same_arch Arm64 X86_64 = false

-- the designator of a type under an architecture: a type of the other architecture has none
abbrev pub designator_under : Arch → PartitionType → Option Designator
designator_under arch t = if option_map_or (same_arch arch) t.arch true then t.designator else None

-- a designator's name (systemd.image-policy(7))
abbrev pub designator_name : Designator → List ℕ
designator_name Root = codes "root"
designator_name Usr = codes "usr"
designator_name Home = codes "home"
designator_name Srv = codes "srv"
designator_name Esp = codes "esp"
designator_name Xbootldr = codes "xbootldr"
designator_name Swap = codes "swap"
designator_name RootVerity = codes "root-verity"
designator_name RootVeritySig = codes "root-verity-sig"
designator_name UsrVerity = codes "usr-verity"
designator_name UsrVeritySig = codes "usr-verity-sig"
designator_name Tmp = codes "tmp"
designator_name Var = codes "var"

-- an architecture's name in names of types
abbrev pub arch_name : Arch → List ℕ
arch_name X86_64 = codes "x86-64"
arch_name Arm64 = codes "arm64"
