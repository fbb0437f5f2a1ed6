-- Whatever sources and data rows hold, the calls of a plan's steps are those that the law of every stop speaks of.
use Rattle.std.proofs.Common.{◌≡◌, ℕ, ◌+◌, ◌*◌, ◌≤◌, Bool, true, false, ltb, List, [], ◌∷◌, ◌++◌, length, filter, flat_map, map, replicate, refl, sym, ap, ap₂, ◌∙◌, subst, arith, All, append_assoc}
use Rattle.std.proofs.lemmas.List.{append-nil, length-replicate}
use Rattle.std.proofs.lemmas.List.Elements.{All-append, All-cons, All-head, All-nil, All-tail}
use Rattle.rp_base.specs.Plan.{IsWellFormed, Noted, noted_of}
use Rattle.rp_base.specs.declared.geometry.Which.{Which}
use Rattle.rp_base.specs.declared.plan.Change.{Change}
use Rattle.rp_base.specs.declared.plan.Change.TheVariants.{New, Changed, Same}
use Rattle.rp_base.specs.declared.plan.Plan.{Plan}
use Rattle.rp_base.specs.declared.plan.Role.{Role}
use Rattle.rp_base.specs.declared.plan.Role.TheVariants.{Plain, Data, Hash}
use Rattle.rp_base.specs.declared.seen.Seen.{Seen}
use Rattle.rp_disk.specs.Blocks.{flat}
use Rattle.rp_disk.specs.Made.{Made, dones}
use Rattle.rp_disk.specs.Stops.{Each}
use Rattle.rp_disk.specs.declared.call.Call.{Call}
use Rattle.rp_disk.specs.declared.call.Call.TheVariants.{Sync as SyncCall}
use Rattle.rp_disk.proofs.Blocks.{Each-imp, flat-append}
use Rattle.rp_step.specs.Found.{AreFound, Found, IsFound, Outside, all_calls, calls_with}
use Rattle.rp_step.proofs.Going.{dones_more}
use Rattle.rp_steps.specs.Calls.{calls_of, calls_of_steps, in_pieces}
use Rattle.rp_steps.specs.Contents.{NotesFit, RoleFits, Sources}
use Rattle.rp_steps.specs.Planned.{HasRoom}
use Rattle.rp_steps.specs.Steps.{byte_count, byte_of_slot, contents_steps, copy_phases, from_byte, growth, is_new, mbr_phases, new_rows, payload_steps, phase_of, phases, steps, synced, tree_steps, written_copies}
use Rattle.rp_steps.specs.declared.step.Step.{Step}
use Rattle.rp_steps.specs.declared.step.Step.TheVariants.{Grow, Zero, Copy, Tree, ClosePrimary, ArrayPrimary, HeaderPrimary, CloseBackup, ArrayBackup, HeaderBackup, Mbr, Sync}
use Rattle.rp_steps.proofs.Copying.{part_added}
use Rattle.rp_steps.proofs.Made.{calls-synced, copies_as, growth_as, mbr_part, order_is}
use Rattle.rp_steps.proofs.Written.{Each-append}
use Rattle.rp_stops.specs.Order as stops
use Rattle.rp_stops.specs.Order.{AreCallsOf, contents_blocks}
use Rattle.rp_stops.specs.Rows.{IsInNewRow, IsInside}
use Rattle.rp_apply.specs.Called.{AreAlike, AreCallsFor, no_sources}
use Rattle.rp_apply.proofs.Alike.{steps_alike}
use Rattle.rp_apply.proofs.Can.{IsRow, are_rows, role_fits}
use Rattle.rp_apply.proofs.Every.{Everywhere, copies, grown, mbr}
use Rattle.rp_apply.proofs.Inside.{pieces_in, some_pieces, some_tree, tree_in}
use Rattle.rp_apply.proofs.Parts.{OfRange, payload_each, zeros_each}

-- no source and no data row has a part in a step
abbrev pub IsExact : Step → Type 0
IsExact (Copy file at len) = ⊥
IsExact (Tree data_at hash_at blocks salt uuid root) = ⊥
IsExact other = Unit {0}

abbrev nothing : Sources
nothing = λ file. []

module _ (plan : Plan) (outside : Outside) where
  exact_one : (found : Found) (step : Step) → IsExact step → calls_with plan found step ≡ calls_of plan nothing step
  unfolding calls_with
  exact_one found (Copy file at len) exact = absurd exact
  exact_one found (Tree data_at hash_at blocks salt uuid root) exact = absurd exact
  exact_one found (Grow len) exact = refl
  exact_one found (Zero at len) exact = refl
  exact_one found ClosePrimary exact = refl
  exact_one found ArrayPrimary exact = refl
  exact_one found HeaderPrimary exact = refl
  exact_one found CloseBackup exact = refl
  exact_one found ArrayBackup exact = refl
  exact_one found HeaderBackup exact = refl
  exact_one found Mbr exact = refl
  exact_one found Sync exact = refl

  exact_all : (made : List Made) (founds : List Found) (steps : List Step) → AreFound plan outside made founds steps → All IsExact steps
      → all_calls plan founds steps ≡ calls_of_steps plan nothing steps
  exact_all made [] [] are exact = refl
  exact_all made [] (step ∷ steps) are exact = absurd are
  exact_all made (found ∷ founds) [] are exact = absurd are
  exact_all made (found ∷ founds) (step ∷ steps) are exact =
      ap₂ (λ (x y : List Call). x ++ y) (exact_one found step (All-head IsExact step steps exact))
      (exact_all (made ++ dones (calls_with plan found step)) founds steps are.1 (All-tail IsExact step steps exact))

  -- what two parts of steps find
  record Split (made : List Made) (founds : List Found) (xs ys : List Step) : Type 0 where
    front : List Found
    back : List Found
    front_are : AreFound plan outside made front xs
    back_are : AreFound plan outside (made ++ dones (all_calls plan front xs)) back ys
    is : all_calls plan founds (xs ++ ys) ≡ all_calls plan front xs ++ all_calls plan back ys

  split : (made : List Made) (founds : List Found) (xs ys : List Step) → AreFound plan outside made founds (xs ++ ys) → Split made founds xs ys
  split made founds [] ys are =
      record { front = []; back = founds; front_are = tt; back_are = subst (λ (m : List Made). AreFound plan outside m founds ys) (sym (append-nil made)) are; is = refl }
  split made [] (x ∷ xs) ys are = absurd are
  split made (found ∷ founds) (x ∷ xs) ys are =
      let calls = calls_with plan found x in
      let r = split (made ++ dones calls) founds xs ys are.1 in
      record {
        front = found ∷ r.front;
        back = r.back;
        front_are = (are.0, r.front_are);
        back_are = subst (λ (m : List Made). AreFound plan outside m r.back ys) (sym (dones_more plan outside made calls (all_calls plan r.front xs))) r.back_are;
        is = ap (λ (l : List Call). calls ++ l) r.is ∙ sym (append_assoc calls (all_calls plan r.front xs) (all_calls plan r.back ys));
      }

  -- a step whose calls lie in new rows, of which there is one at least
  abbrev InNewRows : Step → Type 0
  InNewRows step = (made : List Made) (found : Found) → IsFound outside made found step
      → Each (IsInNewRow plan) (calls_with plan found step) × (1 ≤ length (calls_with plan found step))

  all_in : (made : List Made) (founds : List Found) (steps : List Step) → AreFound plan outside made founds steps → All InNewRows steps
      → Each (IsInNewRow plan) (all_calls plan founds steps)
  all_in made [] [] are each = tt
  all_in made [] (step ∷ steps) are each = absurd are
  all_in made (found ∷ founds) [] are each = absurd are
  all_in made (found ∷ founds) (step ∷ steps) are each =
      Each-append (IsInNewRow plan) (calls_with plan found step) (all_calls plan founds steps) (All-head InNewRows step steps each made found are.0).0
      (all_in (made ++ dones (calls_with plan found step)) founds steps are.1 (All-tail InNewRows step steps each))

  some_call : (calls more : List Call) → 1 ≤ length calls → flat (contents_blocks (calls ++ more)) ≡ (calls ++ more) ++ SyncCall ∷ []
  some_call [] more some = absurd (omega arith)
  some_call (call ∷ calls) more some = refl

  closed : (made : List Made) (front : List Found) (step : Step) (steps : List Step) → AreFound plan outside made front (step ∷ steps) → All InNewRows (step ∷ steps)
      → flat (contents_blocks (all_calls plan front (step ∷ steps))) ≡ all_calls plan front (step ∷ steps) ++ SyncCall ∷ []
  closed made [] step steps are each = absurd are
  closed made (found ∷ founds) step steps are each =
      some_call (calls_with plan found step) (all_calls plan founds steps) (All-head InNewRows step steps each made found are.0).1

  -- the phase of contents is one block, where it has steps
  block_is : (made : List Made) (founds : List Found) (steps : List Step) → AreFound plan outside made founds (synced (phase_of steps)) → All InNewRows steps
      → (body : List Call) × Each (IsInNewRow plan) body × (all_calls plan founds (synced (phase_of steps)) ≡ flat (contents_blocks body))
      × AreAlike body (calls_of_steps plan no_sources steps)
  unfolding calls_with calls_of
  block_is made [] [] are each = ([], tt, refl, tt)
  block_is made (found ∷ founds) [] are each = absurd are
  block_is made founds (step ∷ steps) are each =
      let r = split made founds (step ∷ steps) (Sync ∷ []) (subst (λ (l : List Step). AreFound plan outside made founds l) (append-nil ((step ∷ steps) ++ Sync ∷ [])) are) in
      let body = all_calls plan r.front (step ∷ steps) in (
        body,
        all_in made r.front (step ∷ steps) r.front_are each,
        ap (all_calls plan founds) (append-nil ((step ∷ steps) ++ Sync ∷ [])) ∙ r.is
            ∙ ap (λ (l : List Call). body ++ l) (exact_all (made ++ dones body) r.back (Sync ∷ []) r.back_are (All-cons IsExact Sync [] tt (All-nil IsExact)))
            ∙ sym (closed made r.front step steps r.front_are each),
        steps_alike plan outside made r.front (step ∷ steps) r.front_are,
      )

  module _ (seen : Seen) (formed : IsWellFormed seen plan) (fit : NotesFit plan) where
    abbrev Row_of : Noted → Type 0
    Row_of noted = IsRow seen plan formed noted

    -- a new row, with the numbers of its role within their fields
    abbrev NewRow : Noted → Type 0
    NewRow noted = Row_of noted × (noted.1.change ≡ New)

    in_new : (noted : Noted) → NewRow noted → (call : Call) → IsInside noted.0 call → IsInNewRow plan call
    in_new noted new call inside = (new.0.place, noted, new.0.below, new.0.is, (new.1, inside))

    of_row : (noted : Noted) → NewRow noted → OfRange InNewRows (from_byte noted.0) (from_byte noted.0 + byte_count noted.0)
    unfolding calls_with calls_of
    of_row noted new = record {
      zero = λ at len some from to made found is.
          let long = length-replicate {A = ℕ} len 0 in (
            Each-imp (IsInside noted.0) (IsInNewRow plan) (in_new noted new) (in_pieces at (replicate len 0))
                (pieces_in noted.0 at (replicate len 0) from (omega (arith, long, to))),
            some_pieces at (replicate len 0) (omega (arith, long, some)),
          );
      copy = λ file at len some from to made found is.
          let long = is.size in (
            Each-imp (IsInside noted.0) (IsInNewRow plan) (in_new noted new) (in_pieces at found.bytes)
                (pieces_in noted.0 at found.bytes from (omega (arith, long, to))),
            some_pieces at found.bytes (omega (arith, long, some)),
          );
    }

    tree_row : (noted : Noted) (role : Role) → NewRow noted → noted.1.role ≡ role → All InNewRows (tree_steps plan.goal.rows noted.0 role)
    unfolding tree_steps calls_with
    tree_row noted Plain new is = All-nil InNewRows
    tree_row noted (Data partner root) new is = All-nil InNewRows
    tree_row noted (Hash partner blocks salt uuid root) new is =
        let room : HasRoom noted.0 (Hash partner blocks salt uuid root) = subst (λ (r : Role). HasRoom noted.0 r) is new.0.planned_is.tree in
        let fields : RoleFits (Hash partner blocks salt uuid root) = subst RoleFits is (role_fits seen plan formed fit noted new.0) in
        let from = byte_of_slot plan.goal.rows partner in
        let step = Tree from (from_byte noted.0) blocks salt uuid root in
        let one : InNewRows step = λ made found found_is. (
          Each-imp (IsInside noted.0) (IsInNewRow plan) (in_new noted new) (calls_with plan found step)
              (tree_in noted.0 from blocks salt uuid root found.blocks found_is.0 room.0 room.2 fields.1 fields.0),
          some_tree from (from_byte noted.0) blocks salt uuid root found.blocks,
        ) in
        let fits = room.2 in
        All-cons InNewRows step _ one
        (zeros_each InNewRows (from_byte noted.0) (from_byte noted.0 + byte_count noted.0) (of_row noted new) _ _ (omega arith) (omega (arith, fits)))

    new_is : (change : Change) → is_new change ≡ true → change ≡ New
    new_is New is = refl
    new_is Changed is = cc
    new_is Same is = cc

    kept : (rows : List Noted) → All Row_of rows → All NewRow (filter (λ noted. is_new noted.1.change) rows)
    kept [] are = All-nil NewRow
    kept (noted ∷ rows) are = by (is_new noted.1.change) refl (kept rows (All-tail Row_of noted rows are)) where
      by : (b : Bool) → is_new noted.1.change ≡ b → All NewRow (filter (λ n. is_new n.1.change) rows)
          → All NewRow (filter (λ n. is_new n.1.change) (noted ∷ rows))
      by true is later = rw is (All-cons NewRow noted (filter (λ n. is_new n.1.change) rows) (All-head Row_of noted rows are, new_is noted.1.change is) later)
      by false is later = rw is later

    new_are : All NewRow (new_rows plan)
    new_are = kept (noted_of plan) (are_rows seen plan formed)

    payload_rows : (rows : List Noted) → All NewRow rows → All InNewRows (flat_map (λ noted. payload_steps noted noted.1.role) rows)
    payload_rows [] are = All-nil InNewRows
    payload_rows (noted ∷ rows) are =
        let new = All-head NewRow noted rows are in
        All-append InNewRows (payload_steps noted noted.1.role) (flat_map (λ n. payload_steps n n.1.role) rows)
        (payload_each InNewRows noted noted.1.role new.0.planned_is.source (of_row noted new)) (payload_rows rows (All-tail NewRow noted rows are))

    tree_rows : (rows : List Noted) → All NewRow rows → All InNewRows (flat_map (λ noted. tree_steps plan.goal.rows noted.0 noted.1.role) rows)
    tree_rows [] are = All-nil InNewRows
    tree_rows (noted ∷ rows) are =
        All-append InNewRows (tree_steps plan.goal.rows noted.0 noted.1.role) (flat_map (λ n. tree_steps plan.goal.rows n.0 n.1.role) rows)
        (tree_row noted noted.1.role (All-head NewRow noted rows are) refl) (tree_rows rows (All-tail NewRow noted rows are))

    contents_in : All InNewRows (contents_steps plan)
    unfolding contents_steps
    contents_in = All-append InNewRows _ _ (payload_rows (new_rows plan) new_are) (tree_rows (new_rows plan) new_are)

    nowhere : Everywhere plan IsExact (λ noted. ⊥)
    nowhere = record {
      sync = tt;
      grow = tt;
      mbr = tt;
      primary = (tt, tt, tt);
      backup = (tt, tt, tt);
      payload = λ noted no. absurd no;
      tree = λ noted no. absurd no;
    }

    -- the four parts of the steps
    parts_are : (made : List Made) (founds : List Found) (body : List Call) (g c k m : List Call) (order : List Which)
        → g ≡ flat (stops.growth seen plan) → c ≡ flat (contents_blocks body) → k ≡ flat (stops.copies plan order)
        → m ≡ flat (map (calls_of_steps plan nothing) (mbr_phases plan seen))
        → ((g ++ c) ++ k) ++ m ≡ flat (stops.growth seen plan ++ (contents_blocks body ++ (stops.copies plan order ++ map (calls_of_steps plan nothing) (mbr_phases plan seen))))
    parts_are made founds body g c k m order g_is c_is k_is m_is =
        let x = stops.growth seen plan in
        let y = contents_blocks body in
        let z = stops.copies plan order in
        let w = map (calls_of_steps plan nothing) (mbr_phases plan seen) in
        rw (g_is, c_is, k_is, m_is)
        (append_assoc (flat x ++ flat y) (flat z) (flat w) ∙ append_assoc (flat x) (flat y) (flat z ++ flat w)
        ∙ sym (flat-append x (y ++ (z ++ w)) ∙ ap (λ (l : List Call). flat x ++ l) (flat-append y (z ++ w) ∙ ap (λ (l : List Call). flat y ++ l) (flat-append z w))))

    -- all of them, with writes into new rows that are alike those of the plan
    pub are_calls_like : (made : List Made) (founds : List Found) → AreFound plan outside made founds (steps plan seen)
        → (calls : AreCallsFor seen plan (all_calls plan founds (steps plan seen))) × Each (IsInNewRow plan) calls.body
    unfolding steps phases growth
    are_calls_like made founds are =
        let order = written_copies plan seen in
        let contents = phase_of (contents_steps plan) in
        let one = part_added (growth plan seen) contents _ _ refl refl in
        let two = part_added _ (flat_map copy_phases order) _ _ one refl in
        let three = part_added _ (mbr_phases plan seen) _ _ two refl in
        let last = split made founds ((synced (growth plan seen) ++ synced contents) ++ synced (flat_map copy_phases order)) (synced (mbr_phases plan seen))
        (subst (λ (l : List Step). AreFound plan outside made founds l) (sym three) are) in
        let next = split made last.front (synced (growth plan seen) ++ synced contents) (synced (flat_map copy_phases order)) last.front_are in
        let first = split made next.front (synced (growth plan seen)) (synced contents) next.front_are in
        let block = block_is _ first.back (contents_steps plan) first.back_are contents_in in
        let g = exact_all made first.front (synced (growth plan seen)) first.front_are (grown IsExact plan (λ noted. ⊥) nowhere seen)
        ∙ calls-synced plan nothing (growth plan seen) ∙ ap flat (growth_as plan nothing (512 * plan.target) (ltb seen.sectors plan.target)) in
        let k = exact_all _ next.back (synced (flat_map copy_phases order)) next.back_are (copies IsExact plan (λ noted. ⊥) nowhere order)
        ∙ calls-synced plan nothing (flat_map copy_phases order) ∙ ap flat (copies_as plan nothing order) in
        let m = exact_all _ last.back (synced (mbr_phases plan seen)) last.back_are (mbr IsExact plan (λ noted. ⊥) nowhere seen)
        ∙ calls-synced plan nothing (mbr_phases plan seen) in (
          record {
            body = block.0;
            alike = block.3;
            are = ap (all_calls plan founds) (sym three) ∙ last.is
                ∙ ap (λ (l : List Call). l ++ all_calls plan last.back (synced (mbr_phases plan seen)))
                (next.is ∙ ap (λ (l : List Call). l ++ all_calls plan next.back (synced (flat_map copy_phases order))) first.is)
                ∙ parts_are made founds block.0 _ _ _ _ order g block.2 k m;
          },
          block.1,
        )

    pub are_calls_with : (made : List Made) (founds : List Found) → AreFound plan outside made founds (steps plan seen)
        → (body : List Call) × AreCallsOf seen plan body (all_calls plan founds (steps plan seen))
    are_calls_with made founds are =
        let like = are_calls_like made founds are in (
          like.0.body,
          record {
            order = written_copies plan seen;
            mbr = map (calls_of_steps plan nothing) (mbr_phases plan seen);
            ordered = order_is seen plan;
            mbr_part = mbr_part plan nothing seen;
            inside = like.1;
            are = like.0.are;
          },
        )
