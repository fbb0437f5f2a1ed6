-- The data row under the tree of a well formed plan.
use Rattle.std.proofs.Common.{◌≡◌, ◌≢◌, ℕ, zero, suc, ◌*◌, ◌/◌, ◌<◌, ◌≤◌, inl, inr, Bool, true, false, eqb, List, [], ◌∷◌, length, get_or, Option, Some, refl, sym, ap, ◌∙◌, subst, arith, find}
use Rattle.std.specs.Option.{option_map_or}
use Rattle.std.proofs.lemmas.Bool.{eq-eqb, ne_eqb}
use Rattle.std.proofs.lemmas.List.{get_or-map}
use Rattle.std.proofs.lemmas.Slice.Zip.{get_or-zip}
use Rattle.rp_base.specs.Plan.{HasPartner, IsPair, IsWellFormed, Noted, noted_of}
use Rattle.rp_base.specs.Table.{AreApart}
use Rattle.rp_base.specs.declared.guid.Guid.{Guid}
use Rattle.rp_base.specs.declared.plan.Note.{Note}
use Rattle.rp_base.specs.declared.plan.Plan.{Plan}
use Rattle.rp_base.specs.declared.plan.Role.{Role}
use Rattle.rp_base.specs.declared.plan.Role.TheVariants.{Hash}
use Rattle.rp_base.specs.declared.seen.Seen.{Seen}
use Rattle.rp_base.specs.declared.table.Row.{Row}
use Rattle.rp_steps.specs.Contents.{Sources, payload, payload_at}
use Rattle.rp_steps.specs.Steps.{byte_count, byte_of_slot, from_byte}
use Rattle.rp_steps.proofs.Planned.{length-noted_of, one_note}

-- the first that passes
pub find_at_place : {X : Type 0} (test : X → Bool) (xs : List X) (k : ℕ) (d : X) → k < length xs → test (get_or xs k d) ≡ true
    → ((i : ℕ) → i < k → test (get_or xs i d) ≡ false) → find test xs ≡ Some (get_or xs k d)
find_at_place test [] k d below hit miss = absurd (omega arith)
find_at_place test (x ∷ xs) zero d below hit miss = rw hit refl
find_at_place test (x ∷ xs) (suc k) d below hit miss =
    rw (miss 0 (omega arith)) (find_at_place test xs k d (omega arith) hit (λ i less. miss (suc i) (omega arith)))

module _ (seen : Seen) (plan : Plan) (formed : IsWellFormed seen plan) where
  rows_here : (j : ℕ) → j < length (noted_of plan) → j < length plan.goal.rows
  rows_here j below = omega (arith, length-noted_of seen plan formed)

  notes_here : (j : ℕ) → j < length (noted_of plan) → j < length plan.notes
  notes_here j below = omega (arith, length-noted_of seen plan formed, one_note seen plan formed)

  pub noted_at : (j : ℕ) (d : Noted) → j < length (noted_of plan)
      → get_or (noted_of plan) j d ≡ (get_or plan.goal.rows j d.0, get_or plan.notes j d.1)
  noted_at j d below = get_or-zip plan.goal.rows plan.notes j d (rows_here j below) (notes_here j below)

  -- a row and its note have the same slot
  slot_is : (j : ℕ) (d : Noted) → j < length (noted_of plan) → (get_or plan.notes j d.1).slot ≡ (get_or plan.goal.rows j d.0).slot
  slot_is j d below =
      sym (get_or-map (λ (note : Note). note.slot) plan.notes j d.1 0 (notes_here j below))
      ∙ ap (λ (l : List ℕ). get_or l j 0) formed.notes
      ∙ get_or-map (λ (row : Row). row.slot) plan.goal.rows j d.0 0 (rows_here j below)

  -- the first byte of the row of a slot
  pub byte_of_row : (j : ℕ) (d : Noted) → j < length (noted_of plan)
      → byte_of_slot plan.goal.rows (get_or (noted_of plan) j d).1.slot ≡ from_byte (get_or (noted_of plan) j d).0
  byte_of_row j d below =
      let row = get_or plan.goal.rows j d.0 in
      let here = rows_here j below in
      let slot : (get_or (noted_of plan) j d).1.slot ≡ row.slot = ap (λ (n : Noted). n.1.slot) (noted_at j d below) ∙ slot_is j d below in
      let found : find (λ r. eqb r.slot row.slot) plan.goal.rows ≡ Some row =
      find_at_place (λ r. eqb r.slot row.slot) plan.goal.rows j d.0 here (eq-eqb row.slot row.slot refl)
      (λ i before.
      let less : (get_or plan.goal.rows i d.0).slot < row.slot = formed.writable.rows.rising i j d.0 before here in
      let other : (get_or plan.goal.rows i d.0).slot ≢ row.slot = λ e. omega (arith, less, e) in
      ne_eqb (get_or plan.goal.rows i d.0).slot row.slot other) in
      ap (byte_of_slot plan.goal.rows) slot
      ∙ ap (λ (o : Option Row). option_map_or from_byte o 0) found
      ∙ ap (λ (n : Noted). from_byte n.0) (sym (noted_at j d below))

  -- two rows begin at different bytes
  apart_here : (a b : Row) → AreApart a b → 1 ≤ a.size → 1 ≤ b.size → from_byte a ≢ from_byte b
  apart_here a b (inl before) large more = λ e. omega (arith, before, large, more, e)
  apart_here a b (inr behind) large more = λ e. omega (arith, behind, large, more, e)

  starts_apart : (i j : ℕ) (d : Noted) → i < j → j < length (noted_of plan)
      → from_byte (get_or (noted_of plan) i d).0 ≢ from_byte (get_or (noted_of plan) j d).0
  starts_apart i j d before below =
      let near : i < length (noted_of plan) = omega arith in
      let here = rows_here j below in
      let apart : AreApart (get_or plan.goal.rows i d.0) (get_or plan.goal.rows j d.0) = formed.in_place.rows.apart i j d.0 before here in
      let differ = apart_here (get_or plan.goal.rows i d.0) (get_or plan.goal.rows j d.0) apart
      (formed.in_place.rows.sized i d.0 (rows_here i near)) (formed.in_place.rows.sized j d.0 here) in
      let P : Noted → Noted → Type 0 = λ x y. from_byte x.0 ≢ from_byte y.0 in
      subst (λ (x : Noted). P x (get_or (noted_of plan) j d)) (sym (noted_at i d near))
      (subst (λ (y : Noted). P (get_or plan.goal.rows i d.0, get_or plan.notes i d.1) y) (sym (noted_at j d below)) differ)

  -- what a tree over the row that begins there stands over
  pub payload_of_row : (sources : Sources) (j : ℕ) (d : Noted) → j < length (noted_of plan)
      → payload_at plan sources (from_byte (get_or (noted_of plan) j d).0) ≡ payload sources (get_or (noted_of plan) j d)
  unfolding payload_at
  payload_of_row sources j d below =
      let at = from_byte (get_or (noted_of plan) j d).0 in
      ap (λ (o : Option Noted). option_map_or (payload sources) o [])
      (find_at_place (λ (noted : Noted). eqb (from_byte noted.0) at) (noted_of plan) j d below (eq-eqb at at refl)
      (λ i before. ne_eqb (from_byte (get_or (noted_of plan) i d).0) at (starts_apart i j d before below)))

  -- the partner of a row with a tree
  pub record Partner (noted : Noted) (partner blocks : ℕ) : Type 0 where
    pub place : ℕ
    pub under : Noted
    pub below : place < length (noted_of plan)
    pub is : get_or (noted_of plan) place under ≡ under
    pub pair : IsPair under noted
    pub at : byte_of_slot plan.goal.rows partner ≡ from_byte under.0
    pub whole : 4096 * blocks ≡ byte_count under.0

  partner_as : (noted other : Noted) (i partner blocks : ℕ) (salt : List ℕ) (uuid : Guid) (root : List ℕ) → noted.1.role ≡ Hash partner blocks salt uuid root
      → i < length (noted_of plan) → get_or (noted_of plan) i other ≡ other → IsPair other noted → Partner noted partner blocks
  partner_as noted other i partner blocks salt uuid root role below is pair =
      let of = pair.hash_role.3 in
      let slot : partner ≡ other.1.slot = cc in
      let count : blocks ≡ other.0.size / 8 = cc in
      let full = pair.whole in
      record {
        place = i;
        under = other;
        below = below;
        is = is;
        pair = pair;
        at = ap (byte_of_slot plan.goal.rows) (slot ∙ ap (λ (n : Noted). n.1.slot) (sym is)) ∙ byte_of_row i other below
            ∙ ap (λ (n : Noted). from_byte n.0) is;
        whole = ap (λ (n : ℕ). 4096 * n) count ∙ omega (arith, full);
      }

  pub partner_of : (j : ℕ) (d : Noted) (partner blocks : ℕ) (salt : List ℕ) (uuid : Guid) (root : List ℕ) → j < length (noted_of plan)
      → (get_or (noted_of plan) j d).1.role ≡ Hash partner blocks salt uuid root → Partner (get_or (noted_of plan) j d) partner blocks
  partner_of j d partner blocks salt uuid root below role =
      let noted = get_or (noted_of plan) j d in
      let has : HasPartner (noted_of plan) noted (Hash partner blocks salt uuid root) =
      subst (λ (r : Role). HasPartner (noted_of plan) noted r) role (formed.pairs j d below) in
      partner_as noted has.1 has.0 partner blocks salt uuid root role has.2 has.3 has.4
