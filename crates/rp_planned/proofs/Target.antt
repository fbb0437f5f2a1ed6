-- The length that an image is to have is one that it can have.
use Rattle.std.proofs.Common.{length, ℕ, ◌≡◌, ◌≤◌, ◌/◌, ◌%◌, ◌^◌, ◌⊎◌, sym, subst, inl, inr, arith}
use Rattle.std.specs.Prelude.{max}
use Rattle.rp_base.specs.Geometry.{IsSector}
use Rattle.rp_base.specs.Plan.{IsTarget}
use Rattle.rp_base.specs.Table.{IsWhole}
use Rattle.rp_base.specs.declared.seen.Seen.{Seen}
use Rattle.rp_gpt.specs.Accepted.{IsSeen}
use Rattle.rp_plan.proofs.Given.{rows_few as plannable_few}
use Rattle.rp_plan.specs.Plannable.{IsPlannable}
use Rattle.rp_planned.specs.Planning.{target_of}

-- grains of 4,096 bytes are whole sectors of 512 bytes and of 4,096
grains_are_whole : (sector size : ℕ) → IsSector sector → size % 4096 ≡ 0 → IsWhole sector (size / 512)
grains_are_whole sector size (inl e) whole = subst (λ s. IsWhole s (size / 512)) (sym e) (omega arith)
grains_are_whole sector size (inr e) whole = subst (λ s. IsWhole s (size / 512)) (sym e) (omega arith)

-- the greater of two whole lengths is whole
greater_is_whole : (sector a b : ℕ) → IsWhole sector a → IsWhole sector b → IsWhole sector (max a b)
greater_is_whole sector a b whole_a whole_b = go (le_or_ge a b) where
  le_or_ge : (a b : ℕ) → (max a b ≡ a) ⊎ (max a b ≡ b)
  le_or_ge a b = grind arith

  go : (max a b ≡ a) ⊎ (max a b ≡ b) → IsWhole sector (max a b)
  go (inl e) = subst (IsWhole sector) (sym e) whole_a
  go (inr e) = subst (IsWhole sector) (sym e) whole_b

pub target_is : (sector size : ℕ) (seen : Seen) → IsSector sector → size % 4096 ≡ 0 → size ≤ 2 ^ 44 → IsWhole sector seen.sectors → seen.sectors ≤ 2 ^ 35
    → IsTarget sector seen.sectors (target_of size seen)
target_is sector size seen is whole most seen_whole seen_most = record {
  whole = greater_is_whole sector seen.sectors (size / 512) seen_whole (grains_are_whole sector size is whole);
  least = omega arith;
  most = omega arith;
}

-- an image that was seen can be planned for
pub is_plannable : (sector : ℕ) (seen : Seen) → IsSeen sector seen → IsPlannable seen
is_plannable sector seen is = record {
  whole = subst (λ (s : ℕ). IsWhole s seen.sectors) (sym is.of_sector) is.whole;
  most = is.most;
  writable = is.writable;
  in_place = is.in_place;
}

-- its target is one
pub target_of_seen : (sector size : ℕ) (seen : Seen) → IsSeen sector seen → IsSector sector → size % 4096 ≡ 0 → size ≤ 2 ^ 44
    → IsTarget seen.shown.sector seen.sectors (target_of size seen)
target_of_seen sector size seen is sectors whole most =
    subst (λ (s : ℕ). IsTarget s seen.sectors (target_of size seen)) (sym is.of_sector) (target_is sector size seen sectors whole most is.whole is.most)

-- its rows are few
pub rows_few : (sector : ℕ) (seen : Seen) → IsSeen sector seen → length seen.shown.rows ≤ 65535
rows_few sector seen is = let few : length seen.shown.rows ≤ 1024 = plannable_few seen (is_plannable sector seen is) in omega (arith, few)
