-- An exact copy by its parts.
use Rattle.std.proofs.Common.{◌≡◌, ℕ, ◌-◌, ◌≤◌, List, ◌++◌, length, take, drop, replicate, sym, ap, ap₂, ◌∙◌, arith, take-append-drop}
use Rattle.std.proofs.lemmas.List.{take_at, drop_at, length-append, length-replicate, length-drop}
use Rattle.rp_crc.specs.Crc.{crc}
use Rattle.rp_base.specs.Table.{IsWritable}
use Rattle.rp_base.specs.declared.geometry.Which.{Which}
use Rattle.rp_base.specs.declared.geometry.Which.TheVariants.{Primary, Backup}
use Rattle.rp_base.specs.declared.table.Table.{Table}
use Rattle.rp_gpt.specs.Copy.{in_place, header_of, array_of, header_bytes, table_entries, table_array, exact}
use Rattle.rp_gpt.proofs.Sectors.{sector_least}
use Rattle.rp_gpt.proofs.Header.{length-header_bytes}
use Rattle.rp_gpt.proofs.ReadsBack.{header_of-in_place, array_of-in_place}

-- a place is its header and its array
in_place-parts : (which : Which) (sector : ℕ) (bytes : List ℕ) → bytes ≡ in_place which (header_of sector bytes which) (array_of sector bytes which)
unfolding header_of array_of
in_place-parts Primary sector bytes = sym (take-append-drop sector bytes)
in_place-parts Backup sector bytes = sym (take-append-drop (length bytes - sector) bytes)

module _ (table : Table) (which : Which) (sectors : ℕ) (bytes : List ℕ) where
  pub exact_from_parts : header_of table.sector bytes which ≡ header_bytes table which sectors (crc (table_entries table)) → array_of table.sector bytes which ≡ table_array table → bytes ≡ exact table which sectors
  unfolding exact
  exact_from_parts h a = in_place-parts which table.sector bytes ∙ ap₂ (in_place which) h a

  pub exact-parts : IsWritable table → bytes ≡ exact table which sectors → (header_of table.sector bytes which ≡ header_bytes table which sectors (crc (table_entries table))) × (array_of table.sector bytes which ≡ table_array table)
  unfolding exact
  exact-parts writable e =
      let header = header_bytes table which sectors (crc (table_entries table)) in
      let long = length-header_bytes table which sectors (crc (table_entries table)) (sector_least table.sector writable.sector) in (
        ap (λ b. header_of table.sector b which) e ∙ header_of-in_place which table.sector header (table_array table) long,
        ap (λ b. array_of table.sector b which) e ∙ array_of-in_place which table.sector header (table_array table) long,
      )

-- bytes with zeros behind them
pub padded_from : (front whole : List ℕ) (n total : ℕ) → length whole ≡ total → take n whole ≡ front → drop n whole ≡ replicate (length (drop n whole)) 0 → whole ≡ front ++ replicate (total - n) 0
padded_from front whole n total long f z =
    sym (take-append-drop n whole) ∙ ap₂ (λ a b. a ++ b) f (z ∙ ap (λ k. replicate k 0) (length-drop n whole ∙ ap (λ t. t - n) long))

pub padded-parts : (front whole : List ℕ) (n total : ℕ) → length whole ≡ total → n ≤ total → whole ≡ front ++ replicate (total - n) 0 → (take n whole ≡ front) × (drop n whole ≡ replicate (length (drop n whole)) 0)
padded-parts front whole n total long inside e =
    let front_long : length front ≡ n = omega (arith, long, inside, ap length e ∙ length-append front (replicate (total - n) 0), length-replicate {A = ℕ} (total - n) 0) in
    let back : drop n whole ≡ replicate (total - n) 0 = ap (drop n) e ∙ drop_at front _ n front_long in (
      ap (take n) e ∙ take_at front _ n front_long,
      back ∙ ap (λ k. replicate k 0) (sym (ap length back ∙ length-replicate (total - n) 0)),
    )
