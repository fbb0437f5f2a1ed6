-- The flags of an image policy (systemd.image-policy(7)): ten bits, and their names.
use Rattle.std.specs.Prelude.{bit_and, bit_or, bit_xor, ℕ, ◌≢◌, ◌<◌, ◌==◌, not, Bool, List, [], ◌∷◌, All, IfSome, codes, if◌then◌else◌}
use Rattle.rp_policy.specs.declared.policy.Policy.{Policy}

-- what may be used, or stand unused, or be absent: the first six flags
abbrev pub open_bits : ℕ
open_bits = 63

-- unused and absent
abbrev pub ignore_bits : ℕ
ignore_bits = 48

abbrev pub absent_bits : ℕ
absent_bits = 32

-- both flags of a pair of on and off
abbrev pub read_only_bits : ℕ
read_only_bits = 192

abbrev pub growfs_bits : ℕ
growfs_bits = 768

-- whether one of these bits is set
abbrev pub has : ℕ → ℕ → Bool
has flags bits = not (bit_and flags bits == 0)

-- the names of the first six flags, in order, with their bits
abbrev pub use_names : List (List ℕ × ℕ)
use_names =
    (codes "verity", 1) ∷ (codes "signed", 2) ∷ (codes "encrypted", 4) ∷ (codes "unprotected", 8) ∷ (codes "unused", 16) ∷
    (codes "absent", 32)
    ∷ []

-- the names of the others
abbrev pub state_names : List (List ℕ × ℕ)
state_names = (codes "read-only-on", 64) ∷ (codes "read-only-off", 128) ∷ (codes "growfs-on", 256) ∷ (codes "growfs-off", 512) ∷ []

-- flags without both of a pair
abbrev pub without_both : ℕ → ℕ → ℕ
without_both pair flags = if bit_and flags pair == pair then bit_xor flags pair else flags

-- flags in full: none of the first six stands for all six, and both of a pair for neither
abbrev pub expanded : ℕ → ℕ
expanded flags =
    let some = if has flags open_bits then flags else bit_or flags open_bits in
    without_both growfs_bits (without_both read_only_bits some)

-- flags that are in full
pub record IsExpanded (flags : ℕ) : Type 0 where
  pub some : bit_and flags open_bits ≢ 0
  pub read_only : bit_and flags read_only_bits ≢ read_only_bits
  pub growfs : bit_and flags growfs_bits ≢ growfs_bits
  pub known : flags < 1024

-- a policy whose flags are in full
pub record AreExpanded (policy : Policy) : Type 0 where
  pub default : IsExpanded policy.default.0
  pub listed : All (λ flags. IfSome flags (λ f. IsExpanded f.0)) policy.listed
