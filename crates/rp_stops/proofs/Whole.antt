-- Where each sector is written whole or not at all, no torn header passes its checksum by chance.
use Rattle.std.proofs.Common.{◌≡◌, ℕ, ◌+◌, ◌*◌, ◌<◌, ◌≤◌, ◌⊎◌, List, [], ◌∷◌, length, take, drop, get_or, zero, suc, refl, sym, ◌∙◌, inl, inr, arith, length-take, length-drop}
use Rattle.std.specs.Prelude.{Any}
use Rattle.std.proofs.lemmas.Bool.{cases_lt}
use Rattle.std.proofs.lemmas.List.{get_or-take, get_or-drop, ext_get_or}
use Rattle.rp_base.specs.Geometry.{header_place}
use Rattle.rp_base.specs.Image.{bytes_at, sectors_of}
use Rattle.rp_disk.specs.declared.call.Call.{Call}
use Rattle.rp_disk.specs.declared.call.Call.TheVariants.{Write, Sync, SetLen}
use Rattle.rp_disk.specs.Calls.{pending, settled}
use Rattle.rp_disk.specs.Ranges.{Misses}
use Rattle.rp_disk.specs.Stops.{Each, SetsLength, Leaves}
use Rattle.rp_disk.proofs.Ranges.{bytes_at-take, kept-missed}
use Rattle.rp_stops.specs.Honest.{IsTornHonest, SetsSomeLength}
use Rattle.rp_stops.specs.Sectors.{HasWholeSectors, IsAsAfterSome, WritesSector}

-- two images of one length with the same bytes at the places of a range that they have
pub range_same : (at n : ℕ) (xs ys : List ℕ) → length xs ≡ length ys
    → ((k : ℕ) → at ≤ k → k < at + n → k < length xs → get_or xs k 0 ≡ get_or ys k 0) → bytes_at xs at n ≡ bytes_at ys at n
range_same at n xs ys long same =
    bytes_at-take xs at n
    ∙ ext_get_or 0 (take n (drop at xs)) (take n (drop at ys))
    (omega (arith, long, length-take n (drop at xs), length-take n (drop at ys), length-drop at xs, length-drop at ys))
    (λ i lt.
    let below : i < n = omega (arith, length-take n (drop at xs)) in
    let inside : at + i < length xs = omega (arith, length-take n (drop at xs), length-drop at xs) in
    get_or-take n (drop at xs) i 0 below ∙ get_or-drop at xs i 0 ∙ same (at + i) (omega arith) (omega arith) inside
    ∙ sym (get_or-drop at ys i 0) ∙ sym (get_or-take n (drop at ys) i 0 below))
    ∙ sym (bytes_at-take ys at n)

-- the call changes no length
abbrev KeepsLength : Call → Type 0
KeepsLength (Write at bytes) = Unit {0}
KeepsLength Sync = Unit {0}
KeepsLength (SetLen len) = ⊥

some_length : (calls : List Call) → SetsSomeLength calls ⊎ Each KeepsLength calls
some_length [] = inr tt
some_length (Write at bytes ∷ calls) = elim (some_length calls) [ inl sets ↦ inl sets | inr keeps ↦ inr (tt, keeps) ]
some_length (Sync ∷ calls) = elim (some_length calls) [ inl sets ↦ inl sets | inr keeps ↦ inr (tt, keeps) ]
some_length (SetLen len ∷ calls) = inl (len, inl refl)

no_length : (calls : List Call) (len : ℕ) → Each KeepsLength calls → SetsLength calls len → ⊥
no_length [] len keeps sets = sets
no_length (Write at bytes ∷ calls) len keeps sets = no_length calls len keeps.1 sets
no_length (Sync ∷ calls) len keeps sets = no_length calls len keeps.1 sets
no_length (SetLen n ∷ calls) len keeps sets = keeps.0

-- the call writes none of the bytes from one on
abbrev Leaves_alone : ℕ → ℕ → Call → Type 0
Leaves_alone from size call = (k : ℕ) → from ≤ k → k < from + size → Misses k call

module _ (sector number : ℕ) where
  -- a write reaches into the sector, or misses it
  write_in : (at : ℕ) (bytes : List ℕ) → WritesSector sector number (Write at bytes) ⊎ Leaves_alone (sector * number) sector
      (Write at bytes)
  write_in at bytes =
      elim (cases_lt at (sector * number)) [
        | inl low ↦ elim (cases_lt (sector * number) (at + length bytes)) [
          | inl reaches ↦ elim (cases_lt 0 sector) [
            | inl some ↦ inl (sector * number, omega arith, omega arith, (omega arith, reaches))
            | inr none ↦ inr (λ k from to. inl (omega arith))
          ]
          | inr short ↦ inr (λ k from to. inr (omega arith))
        ]
        | inr high ↦ elim (cases_lt at (sector * number + sector)) [
          | inl begins ↦ elim (cases_lt 0 (length bytes)) [
            | inl some ↦ inl (at, high, begins, (omega arith, omega arith))
            | inr none ↦ inr (λ k from to. elim (cases_lt k at) [ inl below ↦ inl below | inr above ↦ inr (omega arith) ])
          ]
          | inr behind ↦ inr (λ k from to. inl (omega arith))
        ]
      ]

  later : (call : Call) (calls : List Call) → Any (WritesSector sector number) calls → Any (WritesSector sector number) (call ∷ calls)
  later call calls any = (suc any.0, any.1, omega (arith, any.2), any.3, any.4)

  -- one of the calls writes the sector, or all leave it alone
  some_write : (calls : List Call) → Each KeepsLength calls
      → Any (WritesSector sector number) calls ⊎ Each (Leaves_alone (sector * number) sector) calls
  some_write [] keeps = inr tt
  some_write (Write at bytes ∷ calls) keeps = elim (write_in at bytes) [
    | inl writes ↦ inl (zero, Write at bytes, omega arith, refl, writes)
    | inr alone ↦ elim (some_write calls keeps.1) [ inl any ↦ inl (later (Write at bytes) calls any) | inr each ↦ inr (alone, each) ]
  ]
  some_write (Sync ∷ calls) keeps = elim (some_write calls keeps.1) [
    | inl any ↦ inl (later Sync calls any)
    | inr each ↦ inr (λ k from to. tt, each)
  ]
  some_write (SetLen len ∷ calls) keeps = absurd keeps.0

each_misses : (from size k : ℕ) (calls : List Call) → from ≤ k → k < from + size → Each (Leaves_alone from size) calls
    → Each (Misses k) calls
each_misses from size k [] low high each = tt
each_misses from size k (call ∷ calls) low high each = (each.0 k low high, each_misses from size k calls low high each.1)

-- a sector that no later call writes is as it was
alone_same : (sector number : ℕ) (old : List ℕ) (calls : List Call) (image : List ℕ) → Leaves old calls image
    → Each KeepsLength (pending calls)
    → Each (Leaves_alone (sector * number) sector) (pending calls)
    → IsAsAfterSome old calls image (sector * number) sector
alone_same sector number old calls image left keeps alone =
    let same : length image ≡ length (settled old calls) =
    elim left.size [ inl same ↦ same | inr sets ↦ absurd (no_length (pending calls) (length image) keeps sets) ] in (
      [],
      (pending calls, refl),
      range_same (sector * number) sector image (settled old calls) same
          (λ k low high lt. kept-missed (settled old calls) (pending calls) image k left (omega arith) lt
          (each_misses (sector * number) sector k (pending calls) low high alone)),
    )

pub whole_sectors-honest : (sector : ℕ) (old : List ℕ) (calls : List Call) (image : List ℕ) → Leaves old calls image
    → HasWholeSectors sector old calls image → IsTornHonest sector old calls image
whole_sectors-honest sector old calls image left whole =
    elim (some_length (pending calls)) [
      | inl sets ↦ inl sets
      | inr keeps ↦ inr (λ which told.
          let number = header_place which (sectors_of sector image) in
          elim (some_write sector number (pending calls) keeps) [
            | inl any ↦ whole number any
            | inr alone ↦ alone_same sector number old calls image left keeps alone
          ])
    ]
