-- There is one final image.
use Rattle.std.proofs.Common.{◌≡◌, ◌≢◌, ℕ, ◌+◌, ◌*◌, ◌<◌, ◌≤◌, ◌⊎◌, List, [], ◌∷◌, get_or, zero, suc, All, refl, sym, ◌∙◌, subst, inl, inr, arith}
use Rattle.std.specs.Prelude.{Any}
use Rattle.std.proofs.lemmas.Bool.{cases_lt}
use Rattle.std.proofs.lemmas.List.{ext_get_or}
use Rattle.std.proofs.lemmas.List.Elements.{All-nil, All-cons}
use Rattle.rp_base.specs.Plan.{Noted, noted_of}
use Rattle.rp_base.specs.declared.geometry.Which.{Which}
use Rattle.rp_base.specs.declared.geometry.Which.TheVariants.{Primary, Backup}
use Rattle.rp_base.specs.declared.plan.Change.{Change}
use Rattle.rp_base.specs.declared.plan.Change.TheVariants.{New, Changed, Same}
use Rattle.rp_base.specs.declared.plan.Plan.{Plan}
use Rattle.rp_base.specs.declared.seen.Mbr.{Mbr}
use Rattle.rp_base.specs.declared.seen.Mbr.TheVariants as mbrs
use Rattle.rp_base.specs.declared.seen.Seen.{Seen}
use Rattle.rp_disk.proofs.Ranges.{byte_of}
use Rattle.rp_stops.specs.Final.{IsElsewhere, IsFinal, copy_length, copy_offset}
use Rattle.rp_stops.specs.Rows.{Contents, IsByteOf}

new_or_not : (change : Change) → (change ≡ New) ⊎ (change ≡ New → ⊥)
new_or_not New = inl refl
new_or_not Changed = inr (λ e. cc)
new_or_not Same = inr (λ e. cc)

byte_or_not : (from to k : ℕ) → ((from ≤ k) × (k < to)) ⊎ ((from ≤ k) × (k < to) → ⊥)
byte_or_not from to k = elim (cases_lt k from) [
  | inl below ↦ inr (λ both. let low = both.0 in omega arith)
  | inr low ↦ elim (cases_lt k to) [
    | inl high ↦ inl (low, high)
    | inr above ↦ inr (λ both. let high = both.1 in omega arith)
  ]
]

-- the byte is in one of the new rows, or in none
in_some_row : (k : ℕ) (rows : List Noted) → Any (λ noted. (noted.1.change ≡ New) × IsByteOf noted.0 k) rows ⊎ All
    (λ noted. noted.1.change ≡ New → IsByteOf noted.0 k → ⊥) rows
in_some_row k [] = inr (All-nil (λ (noted : Noted). noted.1.change ≡ New → IsByteOf noted.0 k → ⊥))
in_some_row k (noted ∷ rows) = elim (in_some_row k rows) [
  | inl any ↦ inl (suc any.0, any.1, omega (arith, any.2), any.3, any.4)
  | inr none ↦
      let cons : (noted.1.change ≡ New → IsByteOf noted.0 k → ⊥)
      → All (λ (noted : Noted). noted.1.change ≡ New → IsByteOf noted.0 k → ⊥) (noted ∷ rows) =
      λ here. All-cons (λ (noted : Noted). noted.1.change ≡ New → IsByteOf noted.0 k → ⊥) noted rows here none in
      elim (new_or_not noted.1.change) [
        | inr other ↦ inr (cons (λ new byte. other new))
        | inl new ↦ elim (byte_or_not (512 * noted.0.start) (512 * (noted.0.start + noted.0.size)) k) [
          | inl byte ↦ inl (zero, noted, omega arith, refl, (new, byte))
          | inr not ↦ inr (cons (λ new byte. not byte))
        ]
      ]
]

module _ (old : List ℕ) (seen : Seen) (plan : Plan) (contents : Contents) (xs ys : List ℕ) (a : IsFinal old seen plan contents xs)
    (b : IsFinal old seen plan contents ys) where
  in_place : (which : Which) (k : ℕ) → copy_offset plan which ≤ k → k < copy_offset plan which + copy_length plan
      → get_or xs k 0 ≡ get_or ys k 0
  in_place which k low high = byte_of (copy_offset plan which) (copy_length plan) xs ys (a.places which ∙ sym (b.places which)) k low high

  in_row : (k : ℕ) → Any (λ noted. (noted.1.change ≡ New) × IsByteOf noted.0 k) (noted_of plan) → get_or xs k 0 ≡ get_or ys k 0
  in_row k (i, noted, lt, same, here) =
      let x = get_or (noted_of plan) i noted in
      let P : Noted → Type 0 = λ x. (x.1.change ≡ New) × IsByteOf x.0 k in
      let there = subst P (sym same) here in
      let low = there.1.0 in
      let high = there.1.1 in
      byte_of (512 * x.0.start) (512 * x.0.size) xs ys (a.rows i noted lt there.0 ∙ sym (b.rows i noted lt there.0)) k low (omega arith)

  outside_or_in : seen.mbr ≢ mbrs.Foreign → (k : ℕ) → k < 512 * plan.target
      → ((which : Which) → (k < copy_offset plan which) ⊎ (copy_offset plan which + copy_length plan ≤ k))
      → All (λ noted. noted.1.change ≡ New → IsByteOf noted.0 k → ⊥) (noted_of plan) → get_or xs k 0 ≡ get_or ys k 0
  outside_or_in other k lt places rows = elim (byte_or_not 446 512 k) [
    | inl byte ↦ byte_of 446 66 xs ys (a.mbr other ∙ sym (b.mbr other)) k byte.0 byte.1
    | inr not ↦
        let beside : (k < 446) ⊎ (512 ≤ k) = elim (cases_lt k 446) [
          | inl below ↦ inl below
          | inr low ↦ elim (cases_lt k 512) [ inl high ↦ absurd (not (low, high)) | inr above ↦ inr above ]
        ] in
        let e : IsElsewhere seen plan k = record { places = places; rows = rows; mbr = inr beside } in
        a.kept k lt e ∙ sym (b.kept k lt e)
  ]

  by_mbr : (state : Mbr) → seen.mbr ≡ state → (k : ℕ) → k < 512 * plan.target
      → ((which : Which) → (k < copy_offset plan which) ⊎ (copy_offset plan which + copy_length plan ≤ k))
      → All (λ noted. noted.1.change ≡ New → IsByteOf noted.0 k → ⊥) (noted_of plan) → get_or xs k 0 ≡ get_or ys k 0
  by_mbr mbrs.Foreign is k lt places rows =
      let e : IsElsewhere seen plan k = record { places = places; rows = rows; mbr = inl is } in a.kept k lt e ∙ sym (b.kept k lt e)
  by_mbr mbrs.Same is k lt places rows = outside_or_in
      (λ e. let f : mbrs.Same ≡ mbrs.Foreign = sym is ∙ e in absurd (cc)) k lt places rows
  by_mbr mbrs.Differs is k lt places rows = outside_or_in
      (λ e. let f : mbrs.Differs ≡ mbrs.Foreign = sym is ∙ e in absurd (cc)) k lt places rows

  same_byte : (k : ℕ) → k < 512 * plan.target → get_or xs k 0 ≡ get_or ys k 0
  same_byte k lt =
      elim (byte_or_not (copy_offset plan Primary) (copy_offset plan Primary + copy_length plan) k) [
        | inl here ↦ in_place Primary k here.0 here.1
        | inr not ↦ elim (byte_or_not (copy_offset plan Backup) (copy_offset plan Backup + copy_length plan) k) [
          | inl here ↦ in_place Backup k here.0 here.1
          | inr not' ↦ elim (in_some_row k (noted_of plan)) [
            | inl any ↦ in_row k any
            | inr none ↦ by_mbr seen.mbr refl k lt (places not not') none
          ]
        ]
      ]
    where
      beside : (from to : ℕ) → ((from ≤ k) × (k < to) → ⊥) → (k < from) ⊎ (to ≤ k)
      beside from to not = elim (cases_lt k from) [
        | inl below ↦ inl below
        | inr low ↦ elim (cases_lt k to) [ inl high ↦ absurd (not (low, high)) | inr above ↦ inr above ]
      ]

      places : ((copy_offset plan Primary ≤ k) × (k < copy_offset plan Primary + copy_length plan) → ⊥)
          → ((copy_offset plan Backup ≤ k) × (k < copy_offset plan Backup + copy_length plan) → ⊥)
          → (which : Which) → (k < copy_offset plan which) ⊎ (copy_offset plan which + copy_length plan ≤ k)
      places not not' Primary = beside (copy_offset plan Primary) (copy_offset plan Primary + copy_length plan) not
      places not not' Backup = beside (copy_offset plan Backup) (copy_offset plan Backup + copy_length plan) not'

  pub one_final : xs ≡ ys
  one_final = let long = a.len in ext_get_or 0 xs ys (a.len ∙ sym b.len) (λ k lt. same_byte k (omega arith))
