-- What holds of every command, for those on policies.
use Rattle.std.proofs.Common.{ℕ, ◌≡◌, ◌⊎◌, List, Bool, inl, inr, arith}
use Rattle.rp_cli.proofs.Promised.{unasked_files}
use Rattle.rp_dissect_command.proofs.Statuses.{by_status as dissect_by_status}
use Rattle.rp_dissect_command.specs.Dissects.{Dissects}
use Rattle.rp_io.specs.Files.{Tree}
use Rattle.rp_io.specs.declared.stored.Stored.{Stored}
use Rattle.rp_outcome.specs.Causes.{HasCauses}
use Rattle.rp_outcome.specs.Device.{Device, IsOnlyRead}
use Rattle.rp_outcome.specs.Output.{Output}
use Rattle.rp_outcome.specs.Store.{Store}
use Rattle.rp_planned.specs.Files.{HasFileCauses}
use Rattle.rp_policy.specs.Reading.{policy_of}
use Rattle.rp_policy_command.proofs.Statuses.{by_compare, by_policy}
use Rattle.rp_policy_command.specs.Commands.{Compares, PrintsPolicy}
use Rattle.rp_types.specs.declared.arch.Arch.{Arch}

-- `dissect` reads the disk alone, and asks no folders and sources
module _ (text : List ℕ) (arch : Arch) (sector : ℕ) (json : Bool) (disk later : Device) (out after : Output) (status : ℕ) where
  pub dissect_only_read : Dissects text arch sector json disk later out after status → IsOnlyRead disk later
  dissect_only_read did = (dissect_by_status arch sector json disk later out after status (policy_of text) did).only_read

  pub dissect_causes : Dissects text arch sector json disk later out after status → HasCauses disk later out after status
  dissect_causes did = (dissect_by_status arch sector json disk later out after status (policy_of text) did).causes

  -- one of its statuses
  abbrev IsDissects : Type 0
  IsDissects = (status ≡ 0) ⊎ (status ≡ 4) ⊎ (status ≡ 6) ⊎ (status ≡ 7) ⊎ (status ≡ 9) ⊎ (status ≡ 10)

  dissect_status : Dissects text arch sector json disk later out after status → IsDissects
  dissect_status did = (dissect_by_status arch sector json disk later out after status (policy_of text) did).one_of

  pub dissect_files : (folders : Store Tree) (sources : Store (List Stored)) → Dissects text arch sector json disk later out after status
      → HasFileCauses folders folders sources sources out after status
  dissect_files folders sources did = unasked_files folders sources out after status (other (dissect_status did)) where
    other : IsDissects → status ≡ 8 → ⊥
    other (inl e) f = omega arith
    other (inr (inl e)) f = omega arith
    other (inr (inr (inl e))) f = omega arith
    other (inr (inr (inr (inl e)))) f = omega arith
    other (inr (inr (inr (inr (inl e))))) f = omega arith
    other (inr (inr (inr (inr (inr e))))) f = omega arith

  pub dissect_words : Dissects text arch sector json disk later out after status → status ≡ 2 → ⊥
  dissect_words did = other (dissect_status did) where
    other : IsDissects → status ≡ 2 → ⊥
    other (inl e) f = omega arith
    other (inr (inl e)) f = omega arith
    other (inr (inr (inl e))) f = omega arith
    other (inr (inr (inr (inl e)))) f = omega arith
    other (inr (inr (inr (inr (inl e))))) f = omega arith
    other (inr (inr (inr (inr (inr e))))) f = omega arith

-- `policy` and `compare` ask nothing at all
module _ (text : List ℕ) (out after : Output) (status : ℕ) where
  pub policy_causes : (disk : Device) → PrintsPolicy text out after status → HasCauses disk disk out after status
  policy_causes disk did = (by_policy out after status (policy_of text) did).causes disk

  abbrev IsPolicys : Type 0
  IsPolicys = (status ≡ 0) ⊎ (status ≡ 6) ⊎ (status ≡ 9) ⊎ (status ≡ 10)

  policy_status : PrintsPolicy text out after status → IsPolicys
  policy_status did = (by_policy out after status (policy_of text) did).one_of

  pub policy_files : (folders : Store Tree) (sources : Store (List Stored)) → PrintsPolicy text out after status
      → HasFileCauses folders folders sources sources out after status
  policy_files folders sources did = unasked_files folders sources out after status (other (policy_status did)) where
    other : IsPolicys → status ≡ 8 → ⊥
    other (inl e) f = omega arith
    other (inr (inl e)) f = omega arith
    other (inr (inr (inl e))) f = omega arith
    other (inr (inr (inr e))) f = omega arith

  pub policy_words : PrintsPolicy text out after status → status ≡ 2 → ⊥
  policy_words did = other (policy_status did) where
    other : IsPolicys → status ≡ 2 → ⊥
    other (inl e) f = omega arith
    other (inr (inl e)) f = omega arith
    other (inr (inr (inl e))) f = omega arith
    other (inr (inr (inr e))) f = omega arith

module _ (text against : List ℕ) (out after : Output) (status : ℕ) where
  pub compare_causes : (disk : Device) → Compares text against out after status → HasCauses disk disk out after status
  compare_causes disk did = (by_compare out after status (policy_of text) (policy_of against) did).causes disk

  abbrev IsCompares : Type 0
  IsCompares = (status ≡ 0) ⊎ (status ≡ 1) ⊎ (status ≡ 6) ⊎ (status ≡ 9) ⊎ (status ≡ 10)

  compare_status : Compares text against out after status → IsCompares
  compare_status did = (by_compare out after status (policy_of text) (policy_of against) did).one_of

  pub compare_files : (folders : Store Tree) (sources : Store (List Stored)) → Compares text against out after status
      → HasFileCauses folders folders sources sources out after status
  compare_files folders sources did = unasked_files folders sources out after status (other (compare_status did)) where
    other : IsCompares → status ≡ 8 → ⊥
    other (inl e) f = omega arith
    other (inr (inl e)) f = omega arith
    other (inr (inr (inl e))) f = omega arith
    other (inr (inr (inr (inl e)))) f = omega arith
    other (inr (inr (inr (inr e)))) f = omega arith

  pub compare_words : Compares text against out after status → status ≡ 2 → ⊥
  compare_words did = other (compare_status did) where
    other : IsCompares → status ≡ 2 → ⊥
    other (inl e) f = omega arith
    other (inr (inl e)) f = omega arith
    other (inr (inr (inl e))) f = omega arith
    other (inr (inr (inr (inl e)))) f = omega arith
    other (inr (inr (inr (inr e)))) f = omega arith
