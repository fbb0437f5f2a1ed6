-- Numbers of units and of sectors, by the two sizes of a sector.
use Rattle.std.proofs.Common.{◌≡◌, ℕ, ◌+◌, ◌-◌, ◌*◌, ◌/◌, ◌^◌, ◌<◌, ◌≤◌, inl, inr, sym, subst, arith}
use Rattle.rp_base.specs.Geometry.{IsSector, AreEntries, sector_units, array_sectors, copy_bytes, least_sectors}
use Rattle.rp_base.specs.Table.{IsWhole}
use Rattle.rp_gpt.specs.Copy.{saturated}

-- what holds of both sizes
pub by_sector : (P : ℕ → Type 0) → P 512 → P 4096 → (sector : ℕ) → IsSector sector → P sector
by_sector P small large sector (inl e) = subst P (sym e) small
by_sector P small large sector (inr e) = subst P (sym e) large

module _ (sector : ℕ) (is : IsSector sector) where
  pub sector_least : 512 ≤ sector
  sector_least = by_sector (λ z. 512 ≤ z) (omega arith) (omega arith) sector is

  pub units_least : 1 ≤ sector_units sector
  units_least = by_sector (λ z. 1 ≤ sector_units z) (omega arith) (omega arith) sector is

  -- the entries fit in the sectors of the array
  pub array_room : (entries : ℕ) → 128 * entries ≤ sector * array_sectors sector entries
  array_room entries = by_sector (λ z. 128 * entries ≤ z * array_sectors z entries) (omega arith) (omega arith) sector is

  pub copy_bytes-is : (entries : ℕ) → copy_bytes entries sector ≡ sector + sector * array_sectors sector entries
  copy_bytes-is entries = by_sector (λ z. copy_bytes entries z ≡ z + z * array_sectors z entries) (omega arith) (omega arith) sector is

  -- places of one length have arrays of as many sectors
  pub same_room : (entries others sectors : ℕ) → copy_bytes entries sector ≡ copy_bytes others sector → least_sectors sector entries ≤ sectors → least_sectors sector others ≤ sectors
  same_room entries others sectors =
      by_sector (λ z. copy_bytes entries z ≡ copy_bytes others z → least_sectors z entries ≤ sectors → least_sectors z others ≤ sectors)
      (λ same room. omega arith) (λ same room. omega arith) sector is

  -- no other number of entries has a place of the least length
  pub only_128 : (entries : ℕ) → AreEntries entries → copy_bytes 128 sector ≡ copy_bytes entries sector → entries ≡ 128
  only_128 entries =
      by_sector (λ z. AreEntries entries → copy_bytes 128 z ≡ copy_bytes entries z → entries ≡ 128)
      (λ allowed same. omega arith) (λ allowed same. omega arith) sector is

  -- bounds of whole sectors, from units to sectors and back
  pub first_back : (first : ℕ) → IsWhole sector first → first < 2 ^ 64 → saturated (sector_units sector * (first / sector_units sector)) ≡ first
  first_back first =
      by_sector (λ z. IsWhole z first → first < 2 ^ 64 → saturated (sector_units z * (first / sector_units z)) ≡ first)
      (λ whole fits. omega arith) (λ whole fits. omega arith) sector is

  pub last_back : (last : ℕ) → IsWhole sector (last + 1) → last < 2 ^ 64 → saturated (sector_units sector * ((last + 1) / sector_units sector - 1 + 1) - 1) ≡ last
  last_back last =
      by_sector (λ z. IsWhole z (last + 1) → last < 2 ^ 64 → saturated (sector_units z * ((last + 1) / sector_units z - 1 + 1) - 1) ≡ last)
      (λ whole fits. omega arith) (λ whole fits. omega arith) sector is

  -- the last sector of whole ones, by their last unit
  pub last_sector : (last : ℕ) → IsWhole sector (last + 1) → last / sector_units sector ≡ (last + 1) / sector_units sector - 1
  last_sector last =
      by_sector (λ z. IsWhole z (last + 1) → last / sector_units z ≡ (last + 1) / sector_units z - 1)
      (λ whole. omega arith) (λ whole. omega arith) sector is

  pub first_fits : (first : ℕ) → first < 2 ^ 64 → first / sector_units sector < 2 ^ 64
  first_fits first =
      by_sector (λ z. first < 2 ^ 64 → first / sector_units z < 2 ^ 64) (λ fits. omega arith) (λ fits. omega arith) sector is

  pub last_fits : (last : ℕ) → last < 2 ^ 64 → (last + 1) / sector_units sector - 1 < 2 ^ 64
  last_fits last =
      by_sector (λ z. last < 2 ^ 64 → (last + 1) / sector_units z - 1 < 2 ^ 64) (λ fits. omega arith) (λ fits. omega arith) sector is

-- whole sectors from a start, some and within 2^44 bytes
pub record AreWhole (sector start size : ℕ) : Type 0 where
  pub some : 1 ≤ size
  pub fits : start + size ≤ 2 ^ 35
  pub start_whole : IsWhole sector start
  pub size_whole : IsWhole sector size

-- their first and last sector, and back
pub record AreSectors (sector start size : ℕ) : Type 0 where
  pub ordered : start / sector_units sector ≤ (start + size) / sector_units sector - 1
  pub ends : sector_units sector * ((start + size) / sector_units sector - 1 + 1) ≤ 2 ^ 35
  pub first : start / sector_units sector < 2 ^ 64
  pub last : (start + size) / sector_units sector - 1 < 2 ^ 64
  pub holds_sector : sector_units sector ≤ start + size
  pub start_is : saturated (sector_units sector * (start / sector_units sector)) ≡ start
  pub size_is : saturated (sector_units sector * ((start + size) / sector_units sector - 1 + 1) - sector_units sector * (start / sector_units sector)) ≡ size

pub whole_sectors : (sector start size : ℕ) → IsSector sector → AreWhole sector start size → AreSectors sector start size
whole_sectors sector start size is =
    by_sector (λ z. AreWhole z start size → AreSectors z start size)
    (λ whole. record {
      ordered = omega arith;
      ends = omega arith;
      first = omega arith;
      last = omega arith;
      holds_sector = omega arith;
      start_is = omega arith;
      size_is = omega arith;
    })
    (λ whole. record {
      ordered = omega arith;
      ends = omega arith;
      first = omega arith;
      last = omega arith;
      holds_sector = omega arith;
      start_is = omega arith;
      size_is = omega arith;
    }) sector is

-- the units of a first and a last sector in order
pub units_whole : (sector first last : ℕ) → IsSector sector → first ≤ last → sector_units sector * (last + 1) ≤ 2 ^ 35 → AreWhole sector (saturated (sector_units sector * first)) (saturated (sector_units sector * (last + 1) - sector_units sector * first))
units_whole sector first last is =
    by_sector (λ z. first ≤ last → sector_units z * (last + 1) ≤ 2 ^ 35 → AreWhole z (saturated (sector_units z * first)) (saturated (sector_units z * (last + 1) - sector_units z * first)))
    (λ ordered ends. record { some = omega arith; fits = omega arith; start_whole = omega arith; size_whole = omega arith })
    (λ ordered ends. record { some = omega arith; fits = omega arith; start_whole = omega arith; size_whole = omega arith }) sector is

-- the units of usable sectors
pub first_whole : (sector first : ℕ) → IsSector sector → saturated (sector_units sector * first) < 2 ^ 64 - 1 → IsWhole sector (saturated (sector_units sector * first))
first_whole sector first is =
    by_sector (λ z. saturated (sector_units z * first) < 2 ^ 64 - 1 → IsWhole z (saturated (sector_units z * first)))
    (λ fits. omega arith) (λ fits. omega arith) sector is

pub last_whole : (sector last : ℕ) → IsSector sector → IsWhole sector (saturated (sector_units sector * (last + 1) - 1) + 1)
last_whole sector last is =
    by_sector (λ z. IsWhole z (saturated (sector_units z * (last + 1) - 1) + 1)) (omega arith) (omega arith) sector is

-- the units of sectors in order, as the code computes them
pub record AreUnits (sector first last : ℕ) : Type 0 where
  pub from : sector_units sector * first < 2 ^ 64
  pub to : sector_units sector * (last + 1) < 2 ^ 64
  pub next : last + 1 < 2 ^ 64
  pub ordered : sector_units sector * first ≤ sector_units sector * (last + 1)
  pub start : saturated (sector_units sector * first) ≡ sector_units sector * first
  pub size : saturated (sector_units sector * (last + 1) - sector_units sector * first) ≡ sector_units sector * (last + 1) - sector_units sector * first

pub ordered_units : (sector first last : ℕ) → IsSector sector → first ≤ last → sector_units sector * (last + 1) ≤ 2 ^ 35 → AreUnits sector first last
ordered_units sector first last is =
    by_sector (λ z. first ≤ last → sector_units z * (last + 1) ≤ 2 ^ 35 → AreUnits z first last)
    (λ ordered ends. record { from = omega arith; to = omega arith; next = omega arith; ordered = omega arith; start = omega arith; size = omega arith })
    (λ ordered ends. record { from = omega arith; to = omega arith; next = omega arith; ordered = omega arith; start = omega arith; size = omega arith }) sector is
