-- All calls of the contents' phase: each is a write into a new row, and all of them done give the new rows their contents.
use Rattle.std.proofs.Common.{◌≡◌, ℕ, ◌+◌, ◌-◌, ◌*◌, ◌/◌, ◌<◌, ◌≤◌, ◌⊎◌, inl, inr, Bool, true, false, cond, List, [], ◌∷◌, ◌++◌, length, get_or, filter, flat_map, refl, sym, ap, ap₂, ◌∙◌, subst, arith}
use Rattle.std.proofs.lemmas.Bool.{cases_order}
use Rattle.std.proofs.lemmas.Grind.{flat_map-append}
use Rattle.std.proofs.lemmas.List.{ext_get_or, get_or_default}
use Rattle.std.proofs.lemmas.Slice.Zip.{get_or-zip}
use Rattle.rp_base.specs.Geometry.{IsSector, sector_units, usable_end}
use Rattle.rp_base.specs.Image.{bytes_at, range_of}
use Rattle.rp_base.specs.Plan.{IsWellFormed, Noted, noted_of}
use Rattle.rp_base.specs.Table.{AreApart}
use Rattle.rp_base.specs.declared.plan.Change.{Change}
use Rattle.rp_base.specs.declared.plan.Change.TheVariants.{New, Changed, Same}
use Rattle.rp_base.specs.declared.plan.Plan.{Plan}
use Rattle.rp_base.specs.declared.seen.Seen.{Seen}
use Rattle.rp_base.specs.declared.table.Row.{Row}
use Rattle.rp_disk.specs.declared.call.Call.{Call}
use Rattle.rp_disk.specs.declared.call.Call.TheVariants.{Write, Sync, SetLen}
use Rattle.rp_disk.specs.Calls.{all_done}
use Rattle.rp_disk.specs.Ranges.{Inside}
use Rattle.rp_disk.specs.Stops.{Each}
use Rattle.rp_disk.proofs.Agreeing.{Each-left, Each-right}
use Rattle.rp_disk.proofs.Blocks.{Each-imp}
use Rattle.rp_disk.proofs.Ranges.{length-all_done, length-bytes_at}
use Rattle.rp_stops.specs.Rows.{HoldContents, IsInNewRow}
use Rattle.rp_steps.specs.Calls.{calls_of, calls_of_steps, contents_calls}
use Rattle.rp_steps.specs.Contents.{NotesFit, RoleFits, Sources, contents}
use Rattle.rp_steps.specs.Steps.{byte_count, contents_steps, from_byte, is_new, new_rows, payload_steps, tree_steps}
use Rattle.rp_steps.specs.declared.step.Step.{Step}
use Rattle.rp_steps.proofs.Filled.{Fill}
use Rattle.rp_steps.proofs.News.{is_new_row}
use Rattle.rp_steps.proofs.Planned.{length-noted_of, one_note, planned}
use Rattle.rp_steps.proofs.Rowed.{has_file, length-contents, row_fill}
use Rattle.rp_steps.proofs.Written.{Covered, Covered-flat_map, Covered-left, Covered-right, Each-append, Each-flat_map, Puts, Writes, byte_done, get_or-range, inside_writes, puts_none, puts_of}

new_is : (change : Change) → is_new change ≡ true → change ≡ New
new_is New is = refl
new_is Changed is = cc
new_is Same is = cc

-- usable units end before the image's end
usable_inside : (sector entries target : ℕ) → IsSector sector → usable_end sector entries (target / sector_units sector) ≤ target
usable_inside sector entries target (inl small) = subst (λ (z : ℕ). usable_end z entries (target / sector_units z) ≤ target) (sym small) (omega arith)
usable_inside sector entries target (inr large) = subst (λ (z : ℕ). usable_end z entries (target / sector_units z) ≤ target) (sym large) (omega arith)

module _ (plan : Plan) (sources : Sources) where
  -- the calls of a row that holds no tree, and of one that holds a tree
  abbrev payload_calls : Noted → List Call
  payload_calls noted = calls_of_steps plan sources (payload_steps noted noted.1.role)

  abbrev tree_calls : Noted → List Call
  tree_calls noted = calls_of_steps plan sources (tree_steps plan.goal.rows noted.0 noted.1.role)

  -- those of a row, if it is new
  abbrev if_new_calls : (Noted → List Call) → Noted → List Call
  if_new_calls f noted = cond (is_new_row noted) (f noted) []

  news_calls : (g : Noted → List Step) (rows : List Noted)
      → calls_of_steps plan sources (flat_map g (filter is_new_row rows)) ≡ flat_map (if_new_calls (λ noted. calls_of_steps plan sources (g noted))) rows
  news_calls g [] = refl
  news_calls g (row ∷ rows) = by (is_new_row row) refl (news_calls g rows) where
    by : (b : Bool) → is_new_row row ≡ b
        → calls_of_steps plan sources (flat_map g (filter is_new_row rows)) ≡ flat_map (if_new_calls (λ noted. calls_of_steps plan sources (g noted))) rows
        → calls_of_steps plan sources (flat_map g (filter is_new_row (row ∷ rows)))
        ≡ flat_map (if_new_calls (λ noted. calls_of_steps plan sources (g noted))) (row ∷ rows)
    by true is later = rw is (flat_map-append (calls_of plan sources) (g row) (flat_map g (filter is_new_row rows))
        ∙ ap (λ (l : List Call). calls_of_steps plan sources (g row) ++ l) later)
    by false is later = rw is later

  calls_split : contents_calls plan sources ≡ flat_map (if_new_calls payload_calls) (noted_of plan) ++ flat_map (if_new_calls tree_calls) (noted_of plan)
  unfolding contents_steps
  calls_split =
      flat_map-append (calls_of plan sources) (flat_map (λ noted. payload_steps noted noted.1.role) (new_rows plan))
      (flat_map (λ noted. tree_steps plan.goal.rows noted.0 noted.1.role) (new_rows plan))
      ∙ ap₂ (λ (x y : List Call). x ++ y) (news_calls (λ noted. payload_steps noted noted.1.role) (noted_of plan))
      (news_calls (λ noted. tree_steps plan.goal.rows noted.0 noted.1.role) (noted_of plan))

  each_new : (P : Call → Type 0) (f : Noted → List Call) (noted : Noted) → (is_new_row noted ≡ true → Each P (f noted)) → Each P (if_new_calls f noted)
  each_new P f noted each = by (is_new_row noted) refl where
    by : (b : Bool) → is_new_row noted ≡ b → Each P (if_new_calls f noted)
    by true is = rw is (each is)
    by false is = rw is tt

  -- what holds of the calls of each new row holds of all
  each_row : (P : Call → Type 0)
      → ((j : ℕ) (d : Noted) → j < length (noted_of plan) → is_new_row (get_or (noted_of plan) j d) ≡ true
      → Each P (payload_calls (get_or (noted_of plan) j d) ++ tree_calls (get_or (noted_of plan) j d)))
      → Each P (contents_calls plan sources)
  each_row P each =
      subst (λ (calls : List Call). Each P calls) (sym calls_split)
      (Each-append P (flat_map (if_new_calls payload_calls) (noted_of plan)) (flat_map (if_new_calls tree_calls) (noted_of plan))
      (Each-flat_map P (if_new_calls payload_calls) (noted_of plan) (λ j d below.
      let noted = get_or (noted_of plan) j d in
      each_new P payload_calls noted (λ is. Each-left P (payload_calls noted) (tree_calls noted) (each j d below is))))
      (Each-flat_map P (if_new_calls tree_calls) (noted_of plan) (λ j d below.
      let noted = get_or (noted_of plan) j d in
      each_new P tree_calls noted (λ is. Each-right P (payload_calls noted) (tree_calls noted) (each j d below is)))))

  -- a byte that the calls of a new row cover is covered
  split_covered : (k : ℕ) (xs ys : List Call) → Covered k (xs ++ ys) → Covered k xs ⊎ Covered k ys
  split_covered k [] ys covered = inr covered
  split_covered k (x ∷ xs) ys (inl here) = inl (inl here)
  split_covered k (x ∷ xs) ys (inr later) = by (split_covered k xs ys later) where
    by : Covered k xs ⊎ Covered k ys → Covered k (x ∷ xs) ⊎ Covered k ys
    by (inl left) = inl (inr left)
    by (inr right) = inr right

  covered_row : (k j : ℕ) (d : Noted) → j < length (noted_of plan) → is_new_row (get_or (noted_of plan) j d) ≡ true
      → Covered k (payload_calls (get_or (noted_of plan) j d) ++ tree_calls (get_or (noted_of plan) j d)) → Covered k (contents_calls plan sources)
  covered_row k j d below is covered =
      let noted = get_or (noted_of plan) j d in
      let new : (f : Noted → List Call) → Covered k (f noted) → Covered k (if_new_calls f noted) =
      λ f c. subst (λ (b : Bool). Covered k (cond b (f noted) [])) (sym is) c in
      let all = flat_map (if_new_calls payload_calls) (noted_of plan) in
      let trees = flat_map (if_new_calls tree_calls) (noted_of plan) in
      subst (λ (calls : List Call). Covered k calls) (sym calls_split)
      (by (split_covered k (payload_calls noted) (tree_calls noted) covered) new) where
        by : Covered k (payload_calls (get_or (noted_of plan) j d)) ⊎ Covered k (tree_calls (get_or (noted_of plan) j d))
            → ((f : Noted → List Call) → Covered k (f (get_or (noted_of plan) j d)) → Covered k (if_new_calls f (get_or (noted_of plan) j d)))
            → Covered k (flat_map (if_new_calls payload_calls) (noted_of plan) ++ flat_map (if_new_calls tree_calls) (noted_of plan))
        by (inl payload) new = Covered-left k (flat_map (if_new_calls payload_calls) (noted_of plan)) (flat_map (if_new_calls tree_calls) (noted_of plan))
            (Covered-flat_map k (if_new_calls payload_calls) (noted_of plan) j d below (new payload_calls payload))
        by (inr tree) new = Covered-right k (flat_map (if_new_calls payload_calls) (noted_of plan)) (flat_map (if_new_calls tree_calls) (noted_of plan))
            (Covered-flat_map k (if_new_calls tree_calls) (noted_of plan) j d below (new tree_calls tree))

  module _ (seen : Seen) (formed : IsWellFormed seen plan) (fit : NotesFit plan) (image : List ℕ) (long : length image ≡ 512 * plan.target) where
    -- a row of the goal with its note
    row_at : (j : ℕ) (d : Noted) → j < length (noted_of plan) → (get_or (noted_of plan) j d).0 ≡ get_or plan.goal.rows j d.0
    row_at j d below =
        ap (λ (noted : Noted). noted.0) (get_or-zip plan.goal.rows plan.notes j d (omega (arith, length-noted_of seen plan formed))
        (omega (arith, length-noted_of seen plan formed, one_note seen plan formed)))

    role_fits : (j : ℕ) (d : Noted) → j < length (noted_of plan) → RoleFits (get_or (noted_of plan) j d).1.role
    role_fits j d below =
        let there : j < length plan.notes = omega (arith, length-noted_of seen plan formed, one_note seen plan formed) in
        subst (λ (noted : Noted). RoleFits noted.1.role) (sym (get_or-zip plan.goal.rows plan.notes j d (omega (arith, length-noted_of seen plan formed)) there))
        (fit j d.1 there)

    row_inside : (j : ℕ) (d : Noted) → j < length (noted_of plan)
        → from_byte (get_or (noted_of plan) j d).0 + byte_count (get_or (noted_of plan) j d).0 ≤ length image
    row_inside j d below =
        let here : j < length plan.goal.rows = omega (arith, length-noted_of seen plan formed) in
        let bounds = formed.in_place.rows.in_bounds j d.0 here in
        let inside : (get_or plan.goal.rows j d.0).start + (get_or plan.goal.rows j d.0).size ≤ plan.target =
        omega (arith, bounds.1, formed.in_place.bounded.last, usable_inside plan.goal.sector plan.goal.entries plan.target formed.writable.sector) in
        subst (λ (row : Row). from_byte row + byte_count row ≤ length image) (sym (row_at j d below)) (omega (arith, long))

    abbrev value_of : Noted → ℕ → ℕ
    value_of noted k = get_or (contents plan sources image noted) (k - from_byte noted.0) 0

    row_is : (j : ℕ) (d : Noted) → j < length (noted_of plan) → (let noted = get_or (noted_of plan) j d in
        Fill (value_of noted) (from_byte noted.0) (from_byte noted.0 + byte_count noted.0) image (payload_calls noted ++ tree_calls noted))
    row_is j d below =
        let noted = get_or (noted_of plan) j d in
        let of = planned seen plan formed j d below in
        row_fill plan sources noted noted.1.role image (has_file noted (formed.sources j d below)) of.source (row_inside j d below) of.tree (role_fits j d below)

    -- each call is a write into a new row
    inside_row : (j : ℕ) (noted : Noted) → j < length (noted_of plan) → get_or (noted_of plan) j noted ≡ noted → is_new_row noted ≡ true → (call : Call)
        → Writes (value_of noted) (from_byte noted.0) (from_byte noted.0 + byte_count noted.0) call → IsInNewRow plan call
    inside_row j noted below is new (Write at bytes) writes =
        let from = writes.0 in let to = writes.1 in
        (j, noted, below, is, (new_is noted.1.change new, (omega arith, omega arith)))
    inside_row j noted below is new Sync writes = absurd writes
    inside_row j noted below is new (SetLen len) writes = absurd writes

    pub are_in_new_rows : Each (IsInNewRow plan) (contents_calls plan sources)
    are_in_new_rows =
        each_row (IsInNewRow plan) (λ j d below new.
        let noted = get_or (noted_of plan) j d in
        Each-imp (Writes (value_of noted) (from_byte noted.0) (from_byte noted.0 + byte_count noted.0)) (IsInNewRow plan)
        (λ call writes. inside_row j noted below (get_or_default (noted_of plan) j noted d below) new call writes) (payload_calls noted ++ tree_calls noted) (row_is j d below).writes)

    are_inside : Each (Inside (length image)) (contents_calls plan sources)
    are_inside =
        each_row (Inside (length image)) (λ j d below new.
        let noted = get_or (noted_of plan) j d in
        Each-imp (Writes (value_of noted) (from_byte noted.0) (from_byte noted.0 + byte_count noted.0)) (Inside (length image))
        (λ call writes. inside_writes (value_of noted) (from_byte noted.0) (from_byte noted.0 + byte_count noted.0) (length image) call (row_inside j d below) writes)
        (payload_calls noted ++ tree_calls noted) (row_is j d below).writes)

    -- two rows share no byte
    rows_apart : (i j : ℕ) (d : Noted) → i < j → j < length (noted_of plan) → AreApart (get_or (noted_of plan) i d).0 (get_or (noted_of plan) j d).0
    rows_apart i j d before below =
        let here : j < length plan.goal.rows = omega (arith, length-noted_of seen plan formed) in
        subst (λ (row : Row). AreApart row (get_or (noted_of plan) j d).0) (sym (row_at i d (omega arith)))
        (subst (λ (row : Row). AreApart (get_or plan.goal.rows i d.0) row) (sym (row_at j d below)) (formed.in_place.rows.apart i j d.0 before here))

    -- the calls put the contents' bytes into a row
    module _ (j : ℕ) (d : Noted) (below : j < length (noted_of plan)) (new : is_new_row (get_or (noted_of plan) j d) ≡ true) where
      abbrev here : Noted
      here = get_or (noted_of plan) j d

      elsewhere : (k : ℕ) (other : Row) → from_byte here.0 ≤ k → k < from_byte here.0 + byte_count here.0 → AreApart here.0 other ⊎ AreApart other here.0
          → (k < from_byte other) ⊎ (from_byte other + byte_count other ≤ k)
      elsewhere k other from to (inl (inl a)) = inl (omega arith)
      elsewhere k other from to (inl (inr b)) = inr (omega arith)
      elsewhere k other from to (inr (inl a)) = inr (omega arith)
      elsewhere k other from to (inr (inr b)) = inl (omega arith)

      put_by : (k i : ℕ) → from_byte here.0 ≤ k → k < from_byte here.0 + byte_count here.0 → i < length (noted_of plan)
          → (i ≡ j) ⊎ ((i < j) ⊎ (j < i)) → (call : Call)
          → (let noted = get_or (noted_of plan) i d in Writes (value_of noted) (from_byte noted.0) (from_byte noted.0 + byte_count noted.0) call)
          → Puts k (value_of here k) call
      put_by k i from to inside (inl same) call writes =
          subst (λ (n : ℕ). Puts k (value_of (get_or (noted_of plan) n d) k) call) same
          (let noted = get_or (noted_of plan) i d in puts_of (value_of noted) (from_byte noted.0) (from_byte noted.0 + byte_count noted.0) k call writes)
      put_by k i from to inside (inr (inl before)) call writes =
          let noted = get_or (noted_of plan) i d in
          puts_none (value_of noted) (from_byte noted.0) (from_byte noted.0 + byte_count noted.0) k (value_of here k) call
          (elsewhere k noted.0 from to (inr (rows_apart i j d before below))) writes
      put_by k i from to inside (inr (inr behind)) call writes =
          let noted = get_or (noted_of plan) i d in
          puts_none (value_of noted) (from_byte noted.0) (from_byte noted.0 + byte_count noted.0) k (value_of here k) call
          (elsewhere k noted.0 from to (inl (rows_apart j i d behind inside))) writes

      all_put : (k : ℕ) → from_byte here.0 ≤ k → k < from_byte here.0 + byte_count here.0 → Each (Puts k (value_of here k)) (contents_calls plan sources)
      all_put k from to =
          each_row (Puts k (value_of here k)) (λ i e inside is.
          let noted = get_or (noted_of plan) i e in
          Each-imp (Writes (value_of noted) (from_byte noted.0) (from_byte noted.0 + byte_count noted.0)) (Puts k (value_of here k))
          (λ call writes. put_by k i from to inside (cases_order i j) call
          (subst (λ (n : Noted). Writes (value_of n) (from_byte n.0) (from_byte n.0 + byte_count n.0) call) (get_or_default (noted_of plan) i e d inside) writes)) (payload_calls noted ++ tree_calls noted) (row_is i e inside).writes)

      held : (k : ℕ) → from_byte here.0 ≤ k → k < from_byte here.0 + byte_count here.0
          → (get_or image k 0 ≡ value_of here k) ⊎ Covered k (contents_calls plan sources)
      held k from to = by ((row_is j d below).right k from to) where
        by : (get_or image k 0 ≡ value_of here k) ⊎ Covered k (payload_calls here ++ tree_calls here)
            → (get_or image k 0 ≡ value_of here k) ⊎ Covered k (contents_calls plan sources)
        by (inl was) = inl was
        by (inr covered) = inr (covered_row k j d below new covered)

      row_done : range_of (all_done image (contents_calls plan sources)) here.0 ≡ contents plan sources image here
      row_done =
          let calls = contents_calls plan sources in
          let whole = all_done image calls in
          let from = from_byte here.0 in
          let count = byte_count here.0 in
          let fits = row_inside j d below in
          let kept : length whole ≡ length image = length-all_done calls image (length image) refl are_inside in
          let of = planned seen plan formed j d below in
          let left : length (bytes_at whole from count) ≡ count = length-bytes_at whole from count (omega arith) in
          let right : length (contents plan sources image here) ≡ count =
          length-contents plan sources here here.1.role image (has_file here (formed.sources j d below)) of.source fits in
          ext_get_or 0 (bytes_at whole from count) (contents plan sources image here) (left ∙ sym right) (λ i inside.
          let small : i < count = omega (arith, left) in
          get_or-range whole from count i small
          ∙ byte_done calls image (length image) (from + i) (value_of here (from + i)) refl are_inside (all_put (from + i) (omega arith) (omega arith))
          (held (from + i) (omega arith) (omega arith))
          ∙ ap (λ (n : ℕ). get_or (contents plan sources image here) n 0) (let e : from + i - from ≡ i = omega arith in e))

    -- all calls done give the contents
    pub contents_hold : HoldContents plan (contents plan sources image) (all_done image (contents_calls plan sources))
    contents_hold j d below new = row_done j d below (ap is_new new)
