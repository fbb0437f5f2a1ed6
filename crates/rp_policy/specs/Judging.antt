-- What a policy says of a partition (systemd.image-policy(7)): whether it may be used, and as what.
use Rattle.std.specs.Prelude.{bit_and, bit_or, ℕ, List, [], ◌∷◌, ◌&&◌, find, if◌then◌else◌, Option, Some, None, slice_index_or, unwrap_or}
use Rattle.std.specs.Option.{option_map_or}
use Rattle.rp_types.specs.declared.arch.Designator.{Designator}
use Rattle.rp_types.specs.declared.arch.Designator.TheVariants.{Root, Usr, Home, Srv, Esp, Xbootldr, Swap, RootVerity, RootVeritySig, UsrVerity, UsrVeritySig, Tmp, Var}
use Rattle.rp_policy.specs.declared.policy.Flags.{Flags}
use Rattle.rp_policy.specs.declared.policy.Policy.{Policy}
use Rattle.rp_policy.specs.declared.judging.Found.{Found}
use Rattle.rp_policy.specs.declared.judging.Kind.{Kind}
use Rattle.rp_policy.specs.declared.judging.Kind.TheVariants.{Signed, Verity, Encrypted, Unprotected}
use Rattle.rp_policy.specs.declared.judging.Rule.TheVariants.{Absence, Protection, ReadOnly, GrowFs}
use Rattle.rp_policy.specs.declared.judging.Judged.{Judged}
use Rattle.rp_policy.specs.declared.judging.Judged.TheVariants.{Absent, Ignored, Use, Denied}
use Rattle.rp_policy.specs.Flags.{has}

-- the place of a designator among them
abbrev pub place : Designator → ℕ
place Root = 0
place Usr = 1
place Home = 2
place Srv = 3
place Esp = 4
place Xbootldr = 5
place Swap = 6
place RootVerity = 7
place RootVeritySig = 8
place UsrVerity = 9
place UsrVeritySig = 10
place Tmp = 11
place Var = 12

-- the flags that are listed for a designator, or the default
abbrev pub listed_or_default : Policy → Designator → Flags
listed_or_default policy d = unwrap_or (slice_index_or policy.listed (place d) None) policy.default

-- the designator whose data a hash tree or a signature is for, with the bits of the protections that want these
abbrev pub protects : Designator → Option (Designator × ℕ)
protects RootVerity = Some (Root, 3)
protects UsrVerity = Some (Usr, 3)
protects RootVeritySig = Some (Root, 2)
protects UsrVeritySig = Some (Usr, 2)
protects Root = None
protects Usr = None
protects Home = None
protects Srv = None
protects Esp = None
protects Xbootldr = None
protects Swap = None
protects Tmp = None
protects Var = None

-- the flags of a tree or a signature for data with these flags: unprotected, and of the data's unused, absent and the four
-- of on and off
abbrev pub helper_flags : ℕ → Flags
helper_flags flags = record { 0 = bit_or (bit_and flags 1008) 8 }

-- the flags of a designator: those listed; of a tree or a signature that isn't listed, those that its data's ask for; else the default
abbrev pub flags_of : Policy → Designator → Flags
flags_of policy d = unwrap_or (slice_index_or policy.listed (place d) None) (option_map_or
    (λ p. let data_flags = (listed_or_default policy p.0).0 in if has data_flags p.1 then helper_flags data_flags else policy.default)
    (protects d) policy.default)

-- the kinds of protection from the strongest on
abbrev pub kinds : List Kind
kinds = Signed ∷ Verity ∷ Encrypted ∷ Unprotected ∷ []

-- the bit of a kind
abbrev pub bit_of : Kind → ℕ
bit_of Verity = 1
bit_of Signed = 2
bit_of Encrypted = 4
bit_of Unprotected = 8

-- the strongest kind that is both allowed and there
abbrev pub strongest : ℕ → ℕ → Option Kind
strongest allowed there = find (λ kind. has allowed (bit_of kind) && has there (bit_of kind)) kinds

-- a partition used as this kind: the states that are demanded are its own
abbrev pub used_as : ℕ → Found → Kind → Judged
used_as flags found kind =
    if has flags (if found.read_only then 128 else 64) then Denied ReadOnly
    else if has flags (if found.growfs then 512 else 256) then Denied GrowFs
    else Use kind

-- what flags say of what was found
abbrev pub judged : ℕ → Option Found → Judged
judged flags None = if has flags 32 then Absent else Denied Absence
judged flags (Some found) =
    option_map_or (used_as flags found) (strongest flags found.kinds.0) (if has flags 16 then Ignored else Denied Protection)
