-- What a place tells, it tells as long as its header and its array stay.
use Rattle.std.proofs.Common.{◌≡◌, ℕ, ◌+◌, ◌*◌, ◌<◌, ◌≤◌, ◌⊎◌, true, cond, List, length, Some, None, Ok, Err, refl, sym, ap, ap₂, ◌∙◌, subst, inl, inr, arith}
use Rattle.std.specs.Prelude.{nat_lt}
use Rattle.std.proofs.lemmas.Bool.{cases_lt}
use Rattle.std.proofs.lemmas.Bool.Decides.{nat_tests}
use Rattle.rp_base.specs.Geometry.{IsSector, AreEntries, array_sectors, copy_bytes, copy_place, least_sectors}
use Rattle.rp_base.specs.Image.{bytes_at, sectors_of}
use Rattle.rp_base.specs.declared.geometry.Which.{Which}
use Rattle.rp_base.specs.declared.geometry.Which.TheVariants.{Primary, Backup}
use Rattle.rp_base.specs.declared.table.Table.{Table}
use Rattle.rp_gpt.specs.declared.copy.CopyFault.TheVariants.{ArrayCrc}
use Rattle.rp_gpt.specs.Copy.{answer, array_of, chosen_entries, entry_bytes, header_of}
use Rattle.rp_gpt.specs.Fields.{entry_count}
use Rattle.rp_gpt.specs.Shown.{shows, nothing, above, answer_at, broken_at, broken_entries, entries_at, entries_or_least, header_at, place_of, told, told_at}
use Rattle.rp_gpt.proofs.Laws.{answer-primary}
use Rattle.rp_gpt.proofs.Sectors.{by_sector}
use Rattle.rp_stops.specs.Order.{array_offset, header_offset}
use Rattle.rp_stops.proofs.Faults.{nothing-alone}
use Rattle.rp_stops.proofs.Places.{header_here, may_have_here, place_array, place_at, place_header, place_long, same_parts, says-tells, sectors_are, tells-says}
use Rattle.rp_stops.proofs.Ranges.{part_same}

-- an array of fewer entries lies within that of more
module _ (sectors n e : ℕ) (fewer : e ≤ n) where
  low_end : (which : Which) (sector : ℕ) → IsSector sector → least_sectors sector n ≤ sectors
      → sector * copy_place which sector n sectors ≤ sector * copy_place which sector e sectors
  low_end Primary sector is room = omega arith
  low_end Backup sector is room =
      by_sector (λ z. least_sectors z n ≤ sectors → z * copy_place Backup z n sectors ≤ z * copy_place Backup z e sectors)
      (λ room. omega (arith, fewer)) (λ room. omega (arith, fewer)) sector is room

  high_end : (which : Which) (sector : ℕ) → IsSector sector → least_sectors sector n ≤ sectors
      → sector * copy_place which sector e sectors + copy_bytes e sector ≤ sector * copy_place which sector n sectors + copy_bytes n sector
  high_end Primary sector is room =
      by_sector (λ z. z * 1 + copy_bytes e z ≤ z * 1 + copy_bytes n z) (omega (arith, fewer)) (omega (arith, fewer)) sector is
  high_end Backup sector is room =
      by_sector (λ z. least_sectors z n ≤ sectors
      → z * copy_place Backup z e sectors + copy_bytes e z ≤ z * copy_place Backup z n sectors + copy_bytes n z)
      (λ room. omega (arith, fewer)) (λ room. omega (arith, fewer)) sector is room

module _ (sector : ℕ) (is : IsSector sector) (n : ℕ) where
  -- two images, each of its length, with the same header and array in a place
  pub record SamePlace (which : Which) (old : List ℕ) (sectors : ℕ) (new : List ℕ) (others : ℕ) : Type 0 where
    pub old_long : length old ≡ sector * sectors
    pub new_long : length new ≡ sector * others
    pub old_room : least_sectors sector n ≤ sectors
    pub new_room : least_sectors sector n ≤ others
    pub head : bytes_at new (header_offset sector others which) sector ≡ bytes_at old (header_offset sector sectors which) sector
    pub array : bytes_at new (array_offset sector n others which) (sector * array_sectors sector n) ≡ bytes_at old
        (array_offset sector n sectors which) (sector * array_sectors sector n)

  pub same_place : (which : Which) (old : List ℕ) (sectors : ℕ) (new : List ℕ) (others : ℕ) → SamePlace which old sectors new others
      → place_of sector new n which ≡ place_of sector old n which
  same_place which old sectors new others s =
      same_parts which sector (place_of sector new n which) (place_of sector old n which)
      (place_header sector is new others s.new_long n s.new_room which ∙ s.head
      ∙ sym (place_header sector is old sectors s.old_long n s.old_room which))
      (place_array sector is new others s.new_long n s.new_room which ∙ s.array
      ∙ sym (place_array sector is old sectors s.old_long n s.old_room which))

  -- a place that tells a table of so many entries
  pub table-stands : (which : Which) (old : List ℕ) (sectors : ℕ) (new : List ℕ) (others : ℕ) (table : Table)
      → SamePlace which old sectors new others
      → table.entries ≡ n → AreEntries n → least_sectors sector 128 ≤ sectors → (which ≡ Primary) ⊎ (others ≡ sectors)
      → told_at sector old which ≡ shows table → told_at sector new which ≡ shows table
  table-stands which old sectors new others table s count are least place tells =
      let says = tells-says sector is old sectors s.old_long least table which tells in
      let says_n : answer (place_of sector old n which) which (sectors_of sector old) sector ≡ Ok table =
      subst (λ k. answer (place_of sector old k which) which (sectors_of sector old) sector ≡ Ok table) count says in
      let here : answer (place_of sector new n which) which (sectors_of sector new) sector ≡ Ok table =
      by_place which place (answer_same says_n) in
      says-tells sector is new others s.new_long table which (subst AreEntries (sym count) are)
      (subst (λ k. least_sectors sector k ≤ others) (sym count) s.new_room)
      (subst (λ k. answer (place_of sector new k which) which (sectors_of sector new) sector ≡ Ok table) (sym count) here)
    where
      answer_same : answer (place_of sector old n which) which (sectors_of sector old) sector ≡ Ok table
          → answer (place_of sector new n which) which (sectors_of sector old) sector ≡ Ok table
      answer_same says = ap (λ b. answer b which (sectors_of sector old) sector) (same_place which old sectors new others s) ∙ says

      by_place : (w : Which) → (w ≡ Primary) ⊎ (others ≡ sectors)
          → answer (place_of sector new n w) w (sectors_of sector old) sector ≡ Ok table
          → answer (place_of sector new n w) w (sectors_of sector new) sector ≡ Ok table
      by_place Primary place says = answer-primary (place_of sector new n Primary) (sectors_of sector new) (sectors_of sector old) sector
          ∙ says
      by_place Backup (inl e) says = absurd (cc)
      by_place Backup (inr e) says =
          let same : sectors_of sector new ≡ sectors_of sector old = sectors_are sector is new others s.new_long ∙ e
          ∙ sym (sectors_are sector is old sectors s.old_long) in
          ap (λ k. answer (place_of sector new n Backup) Backup k sector) same ∙ says

  -- a place that tells nothing, beside a table of so many entries than which no broken copy is wider
  pub nothing-stands : (which : Which) (old : List ℕ) (sectors : ℕ) (new : List ℕ) → SamePlace which old sectors new sectors
      → least_sectors sector 128 ≤ sectors
      → above n (broken_at sector old which) ≡ None → told_at sector old which ≡ nothing → told_at sector new which ≡ nothing
  unfolding told_at answer_at broken_at entries_at
  nothing-stands which old sectors new s least none tells =
      elim (cases_lt n (entries_at sector old which)) [ inl wide ↦ by_header wide | inr narrow ↦ by_place narrow ]
    where
      same_sectors : sectors_of sector new ≡ sectors_of sector old
      same_sectors = sectors_are sector is new sectors s.new_long ∙ sym (sectors_are sector is old sectors s.old_long)

      header_same : header_at sector new which ≡ header_at sector old which
      header_same = header_here sector is new sectors s.new_long which ∙ s.head ∙ sym (header_here sector is old sectors s.old_long which)

      e : ℕ
      e = entries_at sector old which

      count_same : entries_at sector new which ≡ entries_at sector old which
      count_same = ap₂ (λ k h. entries_or_least sector k (entry_count h)) same_sectors header_same

      has : AreEntries (entries_at sector old which) × (least_sectors sector (entries_at sector old which) ≤ sectors)
      has = may_have_here sector is old sectors s.old_long least which

      answer_new : told (answer (place_of sector new (entries_at sector old which) which) which (sectors_of sector old) sector) ≡ nothing
          → told (answer (place_of sector new (entries_at sector new which) which) which (sectors_of sector new) sector) ≡ nothing
      answer_new says = rw (count_same, same_sectors) says

      by_place : entries_at sector old which ≤ n → told (answer (place_of sector new (entries_at sector new which) which) which
          (sectors_of sector new) sector) ≡ nothing
      by_place narrow =
          let part : place_of sector new (entries_at sector old which) which ≡ place_of sector old (entries_at sector old which) which =
          place_at sector is new sectors s.new_long (entries_at sector old which) has.1 which
          ∙ part_same (sector * copy_place which sector n sectors) (copy_bytes n sector)
          (sector * copy_place which sector (entries_at sector old which) sectors)
          (copy_bytes (entries_at sector old which) sector) new old
          (low_end sectors n (entries_at sector old which) narrow which sector is s.old_room)
          (high_end sectors n (entries_at sector old which) narrow which sector is s.old_room)
          (sym (place_at sector is new sectors s.new_long n s.new_room which) ∙ same_place which old sectors new sectors s
          ∙ place_at sector is old sectors s.old_long n s.old_room which)
          ∙ sym (place_at sector is old sectors s.old_long (entries_at sector old which) has.1 which) in
          answer_new (ap (λ b. told (answer b which (sectors_of sector old) sector)) part ∙ tells)

      not_crc : n < entries_at sector old which → answer (place_of sector old (entries_at sector old which) which) which
          (sectors_of sector old) sector ≡ Err ArrayCrc → ⊥
      not_crc wide is_crc =
          let lt : nat_lt n (entries_at sector old which) ≡ true = grind (arith, nat_tests) in
          let found : above n (Some (entries_at sector old which)) ≡ None =
          sym (ap (λ a. above n (broken_entries a (entries_at sector old which))) is_crc) ∙ none in
          let some : Some (entries_at sector old which) ≡ None = sym (ap (λ b. cond b (Some (entries_at sector old which)) None) lt)
          ∙ found in
          absurd (cc)

      by_header : n < entries_at sector old which → told
          (answer (place_of sector new (entries_at sector new which) which) which (sectors_of sector new) sector) ≡ nothing
      by_header wide =
          let k = entries_at sector old which in
          let old_place = place_of sector old (entries_at sector old which) which in
          let new_place = place_of sector new (entries_at sector old which) which in
          let header = header_of sector (place_of sector old (entries_at sector old which) which) which in
          let headers : header_of sector (place_of sector old (entries_at sector old which) which) which ≡ header_of sector
          (place_of sector new (entries_at sector old which) which) which =
          place_header sector is old sectors s.old_long (entries_at sector old which) has.1 which ∙ sym s.head
          ∙ sym (place_header sector is new sectors s.new_long (entries_at sector old which) has.1 which) in
          let lengths : length (place_of sector new (entries_at sector old which) which) ≡ length
          (place_of sector old (entries_at sector old which) which) =
          place_long sector is new sectors s.new_long (entries_at sector old which) has.1 which
          ∙ sym (place_long sector is old sectors s.old_long (entries_at sector old which) has.1 which) in
          let chosen = chosen_entries sector (length (place_of sector old (entries_at sector old which) which))
          (header_of sector (place_of sector old (entries_at sector old which) which) which) in
          answer_new
          (nothing-alone sector (sectors_of sector old) chosen which header
          (entry_bytes chosen (array_of sector (place_of sector old (entries_at sector old which) which) which))
          (entry_bytes chosen (array_of sector (place_of sector new (entries_at sector old which) which) which))
          (place_of sector old (entries_at sector old which) which) (place_of sector new (entries_at sector old which) which)
          (record { header_is = refl; entries_are = refl; array_is = refl })
          (record {
            header_is = headers;
            entries_are = ap (λ m. chosen_entries sector m
                (header_of sector (place_of sector old (entries_at sector old which) which) which)) (sym lengths);
            array_is = refl;
          })
          tells (not_crc wide))
