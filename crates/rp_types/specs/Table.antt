-- The partition types that have names (Discoverable Partitions Specification; the EFI system partition: UEFI 2.10, 5.3.3).
use Rattle.std.specs.Prelude.{ℕ, ◌+◌, ◌^◌, List, [], ◌∷◌, Option, Some, None, codes, map, replicate, unwrap_or}
use Rattle.rp_base.specs.declared.guid.Guid.{Guid}
use Rattle.rp_types.specs.Guids.{guid_of}
use Rattle.rp_types.specs.declared.arch.Arch.{Arch}
use Rattle.rp_types.specs.declared.arch.Arch.TheVariants.{X86_64, Arm64}
use Rattle.rp_types.specs.declared.arch.Designator.{Designator}
use Rattle.rp_types.specs.declared.arch.Designator.TheVariants.{Root, Usr, Home, Srv, Esp, Xbootldr, Swap, RootVerity, RootVeritySig, UsrVerity, UsrVeritySig, Tmp, Var}
use Rattle.rp_types.specs.declared.table.PartitionType.{PartitionType}

-- each type's name, its GUID as a text, what it is for, and the architecture whose machines look for it, none where all do
abbrev pub listed : List (List ℕ × List ℕ × Option Designator × Option Arch)
listed =
    (codes "esp", codes "c12a7328-f81f-11d2-ba4b-00a0c93ec93b", Some Esp, None)
    ∷ (codes "xbootldr", codes "bc13c2ff-59e6-4262-a352-b275fd6f7172", Some Xbootldr, None)
    ∷ (codes "swap", codes "0657fd6d-a4ab-43c4-84e5-0933c84b4f4f", Some Swap, None)
    ∷ (codes "home", codes "933ac7e1-2eb4-4f13-b844-0e14e2aef915", Some Home, None)
    ∷ (codes "srv", codes "3b8f8425-20e0-4f3b-907f-1a25a76f98e8", Some Srv, None)
    ∷ (codes "var", codes "4d21b016-b534-45c2-a9fb-5c16e091fd2d", Some Var, None)
    ∷ (codes "tmp", codes "7ec6f557-3bc5-4aca-b293-16ef5df639d1", Some Tmp, None)
    ∷ (codes "linux-generic", codes "0fc63daf-8483-4772-8e79-3d69d8477de4", None, None)
    ∷ (codes "root-x86-64", codes "4f68bce3-e8cd-4db1-96e7-fbcaf984b709", Some Root, Some X86_64)
    ∷ (codes "usr-x86-64", codes "8484680c-9521-48c6-9c11-b0720656f69e", Some Usr, Some X86_64)
    ∷ (codes "root-x86-64-verity", codes "2c7357ed-ebd2-46d9-aec1-23d437ec2bf5", Some RootVerity, Some X86_64)
    ∷ (codes "usr-x86-64-verity", codes "77ff5f63-e7b6-4633-acf4-1565b864c0e6", Some UsrVerity, Some X86_64)
    ∷ (codes "root-x86-64-verity-sig", codes "41092b05-9fc8-4523-994f-2def0408b176", Some RootVeritySig, Some X86_64)
    ∷ (codes "usr-x86-64-verity-sig", codes "e7bb33fb-06cf-4e81-8273-e543b413e2e2", Some UsrVeritySig, Some X86_64)
    ∷ (codes "root-arm64", codes "b921b045-1df0-41c3-af44-4c6f280d3fae", Some Root, Some Arm64)
    ∷ (codes "usr-arm64", codes "b0e01050-ee5f-4390-949a-9101b17104e9", Some Usr, Some Arm64)
    ∷ (codes "root-arm64-verity", codes "df3300ce-d69f-4c92-978c-9bfb0f38d820", Some RootVerity, Some Arm64)
    ∷ (codes "usr-arm64-verity", codes "6e11a4e7-fbca-4ded-b9e9-e1a512bb664e", Some UsrVerity, Some Arm64)
    ∷ (codes "root-arm64-verity-sig", codes "6db69de6-29f4-4758-a7a5-962190f00ce3", Some RootVeritySig, Some Arm64)
    ∷ (codes "usr-arm64-verity-sig", codes "c23ce4ff-44bd-4b00-b2d4-b41b3419e02a", Some UsrVeritySig, Some Arm64)
    ∷ []

-- the attribute bits: no-auto, read-only, grow-file-system (Discoverable Partitions Specification, "Partition Flags")
abbrev pub no_auto : ℕ
no_auto = 2 ^ 63

abbrev pub read_only : ℕ
read_only = 2 ^ 60

abbrev pub grow_file_system : ℕ
grow_file_system = 2 ^ 59

-- own: the bits that a type supports by what it is for. An EFI system partition and a partition for nothing named have none,
-- swap is found or not, hashes and signatures hold no file system that could grow
abbrev pub bits_for : Option Designator → ℕ
bits_for None = 0
bits_for (Some Esp) = 0
bits_for (Some Swap) = no_auto
bits_for (Some RootVerity) = no_auto + read_only
bits_for (Some RootVeritySig) = no_auto + read_only
bits_for (Some UsrVerity) = no_auto + read_only
bits_for (Some UsrVeritySig) = no_auto + read_only
bits_for (Some _) = no_auto + read_only + grow_file_system

-- the GUID of a text of the list
abbrev pub listed_guid : List ℕ → Guid
listed_guid text = unwrap_or (guid_of text) (record { 0 = replicate 16 0 })

-- the types that have names, each with its name
unfoldable pub types : List (List ℕ × PartitionType)
types = map (λ row. (row.0, record { kind = listed_guid row.1; bits = bits_for row.2; designator = row.2; arch = row.3 })) listed
