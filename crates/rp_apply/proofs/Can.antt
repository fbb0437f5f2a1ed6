-- Each step of a well formed plan can be made.
use Rattle.std.proofs.Common.{◌≡◌, ◌≢◌, ℕ, ◌+◌, ◌*◌, ◌-◌, ◌/◌, ◌^◌, ◌<◌, ◌≤◌, ◌⊎◌, inl, inr, List, length, get_or, refl, sym, ap, ◌∙◌, subst, arith, All}
use Rattle.std.proofs.lemmas.Bool.{cases_order}
use Rattle.std.proofs.lemmas.List.{get_or_default}
use Rattle.std.proofs.lemmas.List.Elements.{All-cons, All-nil}
use Rattle.rp_base.specs.Geometry.{IsSector, sector_units, usable_end}
use Rattle.rp_base.specs.Plan.{IsPair, IsWellFormed, Noted, noted_of}
use Rattle.rp_base.specs.Table.{AreApart}
use Rattle.rp_base.specs.Trees.{hash_blocks}
use Rattle.rp_base.specs.declared.guid.Guid.{Guid}
use Rattle.rp_base.specs.declared.plan.Note.{Note}
use Rattle.rp_base.specs.declared.plan.Plan.{Plan}
use Rattle.rp_base.specs.declared.plan.Role.{Role}
use Rattle.rp_base.specs.declared.plan.Role.TheVariants.{Plain, Data, Hash}
use Rattle.rp_base.specs.declared.seen.Seen.{Seen}
use Rattle.rp_base.specs.declared.table.Row.{Row}
use Rattle.rp_format.specs.Written.{IsTreePlan}
use Rattle.rp_step.specs.Found.{CanMake, tree_of}
use Rattle.rp_steps.specs.Contents.{NotesFit, RoleFits}
use Rattle.rp_steps.specs.Planned.{HasRoom, IsPlanned}
use Rattle.rp_steps.specs.Steps.{byte_count, byte_of_slot, from_byte, steps, tree_steps}
use Rattle.rp_steps.specs.declared.step.Step.{Step}
use Rattle.rp_steps.specs.declared.step.Step.TheVariants.{Grow, Zero, Copy, Tree, ClosePrimary, ArrayPrimary, HeaderPrimary, CloseBackup, ArrayBackup, HeaderBackup, Mbr, Sync}
use Rattle.rp_steps.proofs.Planned.{length-noted_of, one_note, planned}
use Rattle.rp_apply.specs.Ready.{NamesPath}
use Rattle.rp_apply.proofs.Every.{every_step}
use Rattle.rp_apply.proofs.Parts.{OfRange, payload_each, zeros_each}
use Rattle.rp_apply.proofs.Partners.{Partner, noted_at, partner_of}

-- the range of a step is one of 64 bits, and a tree lies beside its data
abbrev pub HasRange : Step → Type 0
HasRange (Zero at len) = at + len < 2 ^ 64
HasRange (Copy file at len) = at + len < 2 ^ 64
HasRange (Tree data_at hash_at blocks salt uuid root) = IsTreePlan (tree_of data_at hash_at blocks salt uuid root)
HasRange other = Unit {0}

of_range : (low high : ℕ) → high < 2 ^ 64 → OfRange HasRange low high
of_range low high few = record { zero = λ at len some from to. omega (arith, few, to); copy = λ file at len some from to. omega (arith, few, to) }

module _ (seen : Seen) (plan : Plan) (formed : IsWellFormed seen plan) where
  -- a row of the plan, at its place
  pub record IsRow (noted : Noted) : Type 0 where
    pub place : ℕ
    pub below : place < length (noted_of plan)
    pub is : get_or (noted_of plan) place noted ≡ noted
    pub planned_is : IsPlanned noted

  pub are_rows : All IsRow (noted_of plan)
  are_rows k d below =
      let noted = get_or (noted_of plan) k d in
      record { place = k; below = below; is = get_or_default (noted_of plan) k noted d below; planned_is = planned seen plan formed k d below }

  -- a row lies in the target
  usable_inside : (sector entries target : ℕ) → IsSector sector → usable_end sector entries (target / sector_units sector) ≤ target
  usable_inside sector entries target (inl small) = subst (λ (z : ℕ). usable_end z entries (target / sector_units z) ≤ target) (sym small) (omega arith)
  usable_inside sector entries target (inr large) = subst (λ (z : ℕ). usable_end z entries (target / sector_units z) ≤ target) (sym large) (omega arith)

  pub row_inside : (noted : Noted) → IsRow noted → from_byte noted.0 + byte_count noted.0 ≤ 512 * plan.target
  row_inside noted row =
      let k = row.place in
      let place = noted_at seen plan formed k noted row.below in
      let here : k < length plan.goal.rows = omega (arith, row.below, length-noted_of seen plan formed) in
      let is : get_or plan.goal.rows k noted.0 ≡ noted.0 = ap (λ (x : Noted). x.0) (sym place ∙ row.is) in
      let bounds = formed.in_place.rows.in_bounds k noted.0 here in
      let end : (get_or plan.goal.rows k noted.0).start + (get_or plan.goal.rows k noted.0).size ≤ plan.target =
      omega (arith, bounds.1, formed.in_place.bounded.last, usable_inside plan.goal.sector plan.goal.entries plan.target formed.writable.sector) in
      subst (λ (r : Row). from_byte r + byte_count r ≤ 512 * plan.target) is (omega (arith, end))

  -- the numbers of its role are within their fields
  pub role_fits : NotesFit plan → (noted : Noted) → IsRow noted → RoleFits noted.1.role
  role_fits fit noted row =
      let k = row.place in
      let place = noted_at seen plan formed k noted row.below in
      let here : k < length plan.notes = omega (arith, row.below, length-noted_of seen plan formed, one_note seen plan formed) in
      let is : get_or plan.notes k noted.1 ≡ noted.1 = ap (λ (x : Noted). x.1) (sym place ∙ row.is) in
      subst (λ (n : Note). RoleFits n.role) is (fit k noted.1 here)

  -- a data row and the row of its tree lie apart
  other_place : (under noted : Noted) (i j : ℕ) → get_or (noted_of plan) i under ≡ under → get_or (noted_of plan) j noted ≡ noted → IsPair under noted
      → j < length (noted_of plan) → i ≢ j
  other_place under noted i j is here pair below = λ e.
      let at_j : get_or (noted_of plan) j under ≡ under = subst (λ (n : ℕ). get_or (noted_of plan) n under ≡ under) e is in
      let same : noted ≡ under = sym here ∙ get_or_default (noted_of plan) j noted under below ∙ at_j in
      let data_is = pair.payload_role.1 in
      let hash_is = pair.hash_role.3 in
      let clash : under.1.role ≡ noted.1.role = ap (λ (n : Noted). n.1.role) (sym same) in
      absurd (let no = sym data_is ∙ clash ∙ hash_is in cc)

  pub rows_apart : (a b : Noted) (i j : ℕ) → i < length (noted_of plan) → j < length (noted_of plan) → get_or (noted_of plan) i a ≡ a
      → get_or (noted_of plan) j b ≡ b → i ≢ j → AreApart a.0 b.0 ⊎ AreApart b.0 a.0
  rows_apart a b i j bi bj at_i at_j differ = by (cases_order i j) where
    row_is : (n : Noted) (k : ℕ) → k < length (noted_of plan) → get_or (noted_of plan) k n ≡ n → get_or plan.goal.rows k a.0 ≡ n.0
    row_is n k below is =
        let place = noted_at seen plan formed k n below in
        let row : get_or plan.goal.rows k n.0 ≡ n.0 = ap (λ (x : Noted). x.0) (sym place ∙ is) in
        let here : k < length plan.goal.rows = omega (arith, below, length-noted_of seen plan formed) in
        get_or_default plan.goal.rows k a.0 n.0 here ∙ row

    inside : (k : ℕ) → k < length (noted_of plan) → k < length plan.goal.rows
    inside k below = omega (arith, below, length-noted_of seen plan formed)

    by : (i ≡ j) ⊎ ((i < j) ⊎ (j < i)) → AreApart a.0 b.0 ⊎ AreApart b.0 a.0
    by (inl same) = absurd (differ same)
    by (inr (inl before)) =
        inl (subst (λ (r : Row). AreApart r b.0) (row_is a i bi at_i)
        (subst (λ (r : Row). AreApart (get_or plan.goal.rows i a.0) r) (row_is b j bj at_j) (formed.in_place.rows.apart i j a.0 before (inside j bj))))
    by (inr (inr behind)) =
        inr (subst (λ (r : Row). AreApart r a.0) (row_is b j bj at_j)
        (subst (λ (r : Row). AreApart (get_or plan.goal.rows j a.0) r) (row_is a i bi at_i) (formed.in_place.rows.apart j i a.0 behind (inside i bi))))

  pub partner_at : (noted : Noted) → IsRow noted → (partner blocks : ℕ) (salt : List ℕ) (uuid : Guid) (root : List ℕ)
      → noted.1.role ≡ Hash partner blocks salt uuid root → Partner seen plan formed noted partner blocks
  partner_at noted row partner blocks salt uuid root role =
      subst (λ (n : Noted). Partner seen plan formed n partner blocks) row.is
      (partner_of seen plan formed row.place noted partner blocks salt uuid root row.below (ap (λ (n : Noted). n.1.role) row.is ∙ role))

  -- a tree in its row, beside its data
  tree_plan : (from blocks : ℕ) (salt : List ℕ) (uuid : Guid) (root : List ℕ) (under row : Row) → from ≡ from_byte under → 4096 * blocks ≡ byte_count under
      → 1 ≤ blocks → blocks ≤ 2 ^ 32 → 8 * hash_blocks blocks ≤ row.size → under.start + under.size ≤ 2 ^ 35 → row.start + row.size ≤ 2 ^ 35
      → AreApart under row ⊎ AreApart row under → IsTreePlan (tree_of from (from_byte row) blocks salt uuid root)
  tree_plan from blocks salt uuid root under row is whole some few room far fits apart = record {
    some = some;
    few = few;
    data_fits = omega (arith, is, whole, far);
    hash_fits = omega (arith, room, fits);
    apart = by apart;
  } where
    by : AreApart under row ⊎ AreApart row under → (from + 4096 * blocks ≤ from_byte row) ⊎ (from_byte row + 4096 * hash_blocks blocks ≤ from)
    by (inl (inl before)) = inl (omega (arith, is, whole, before))
    by (inl (inr behind)) = inr (omega (arith, is, room, behind))
    by (inr (inl behind)) = inr (omega (arith, is, room, behind))
    by (inr (inr before)) = inl (omega (arith, is, whole, before))

  trees : (noted : Noted) (role : Role) → noted.1.role ≡ role → IsRow noted → All HasRange (tree_steps plan.goal.rows noted.0 role)
  unfolding tree_steps
  trees noted Plain role row = All-nil HasRange
  trees noted (Data partner root) role row = All-nil HasRange
  trees noted (Hash partner blocks salt uuid root) role row =
      let p = partner_at noted row partner blocks salt uuid root role in
      let room : HasRoom noted.0 (Hash partner blocks salt uuid root) = subst (λ (r : Role). HasRoom noted.0 r) role row.planned_is.tree in
      let under = are_rows p.place p.under p.below in
      let under_is : IsPlanned p.under = subst IsPlanned p.is under.planned_is in
      let apart = rows_apart p.under noted p.place row.place p.below row.below p.is row.is
      (other_place p.under noted p.place row.place p.is row.is p.pair row.below) in
      let at = p.at in
      let whole = p.whole in
      let far = under_is.fits in
      let fits = row.planned_is.fits in
      let from = byte_of_slot plan.goal.rows partner in
      let size = hash_blocks blocks in
      All-cons HasRange (Tree from (from_byte noted.0) blocks salt uuid root) _
      (tree_plan from blocks salt uuid root p.under.0 noted.0 at whole room.0 room.1 room.2 far fits apart)
      (zeros_each HasRange (from_byte noted.0) (from_byte noted.0 + byte_count noted.0) (of_range _ _ (omega (arith, fits)))
      (from_byte noted.0 + 4096 * size) (byte_count noted.0 - 4096 * size) (omega arith) (omega (arith, room.2)))

  pub ranges : All HasRange (steps plan seen)
  ranges = every_step HasRange plan IsRow record {
    sync = tt;
    grow = tt;
    mbr = tt;
    primary = (tt, tt, tt);
    backup = (tt, tt, tt);
    payload = λ noted row.
        let fits = row.planned_is.fits in
        payload_each HasRange noted noted.1.role row.planned_is.source (of_range _ _ (omega (arith, fits)));
    tree = λ noted row. trees noted noted.1.role refl row;
  } seen are_rows

-- with the path of its source
can_one : (paths : List (List ℕ)) (step : Step) → HasRange step → NamesPath paths step → CanMake paths step
can_one paths (Zero at len) range names = range
can_one paths (Copy file at len) range names = (names, range)
can_one paths (Tree data_at hash_at blocks salt uuid root) range names = range
can_one paths (Grow len) range names = tt
can_one paths ClosePrimary range names = tt
can_one paths ArrayPrimary range names = tt
can_one paths HeaderPrimary range names = tt
can_one paths CloseBackup range names = tt
can_one paths ArrayBackup range names = tt
can_one paths HeaderBackup range names = tt
can_one paths Mbr range names = tt
can_one paths Sync range names = tt

pub can_make : (paths : List (List ℕ)) (seen : Seen) (plan : Plan) → IsWellFormed seen plan → All (NamesPath paths) (steps plan seen)
    → All (CanMake paths) (steps plan seen)
can_make paths seen plan formed names k d below = can_one paths (get_or (steps plan seen) k d) (ranges seen plan formed k d below) (names k d below)
