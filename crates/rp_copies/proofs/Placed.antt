-- Where the parts of copies lie.
use Rattle.std.proofs.Common.{◌≡◌, ℕ, ◌+◌, ◌*◌, ◌≤◌, inl, inr, List, length, take, replicate, arith}
use Rattle.std.proofs.lemmas.List.{take-replicate}
use Rattle.rp_base.specs.Geometry.{IsSector, array_sectors, copy_bytes}

-- zeros for one sector
pub zeros_cut : (sector : ℕ) → IsSector sector → take {A = ℕ} sector (replicate 4096 0) ≡ replicate {A = ℕ} sector 0
zeros_cut sector (inl is) = take-replicate sector 4096 0 (rw is (omega arith))
zeros_cut sector (inr is) = take-replicate sector 4096 0 (rw is (omega arith))

-- a copy has a sector, and its array the others
pub copy_long : (sector entries : ℕ) → IsSector sector → sector ≤ copy_bytes entries sector
copy_long sector entries (inl is) = rw is (omega arith)
copy_long sector entries (inr is) = rw is (omega arith)

pub array_size : (sector entries size : ℕ) → IsSector sector → size + sector ≡ copy_bytes entries sector → size ≡ sector * array_sectors sector entries
array_size sector entries size (inl is) all = rw is (let a : size + 512 ≡ 512 * (1 + array_sectors 512 entries) = rw is at all in omega arith)
array_size sector entries size (inr is) all = rw is (let a : size + 4096 ≡ 4096 * (1 + array_sectors 4096 entries) = rw is at all in omega arith)
