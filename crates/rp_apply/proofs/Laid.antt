-- When the steps of a plan reach a tree, its data row holds its source.
use Rattle.std.proofs.Common.{◌≡◌, ◌≢◌, ℕ, ◌+◌, ◌*◌, ◌-◌, ◌≤◌, ◌⊎◌, replicate, inl, inr, Bool, true, false, cond, ltb, List, [], ◌∷◌, ◌++◌, length, get_or, flat_map, refl, sym, ap, ap₂, ◌∙◌, subst, arith, All}
use Rattle.std.proofs.lemmas.Bool.{ltb-false}
use Rattle.std.proofs.lemmas.Grind.{flat_map-append}
use Rattle.std.proofs.lemmas.List.{get_or_default, length-replicate}
use Rattle.std.proofs.lemmas.List.Elements.{All-append, All-filter, All-head, All-nil, All-tail}
use Rattle.rp_base.specs.Image.{bytes_at, range_of}
use Rattle.rp_base.specs.Plan.{IsWellFormed, Noted, noted_of}
use Rattle.rp_base.specs.Table.{AreApart}
use Rattle.rp_base.specs.Trees.{hash_blocks}
use Rattle.rp_base.specs.declared.plan.Change.TheVariants.{New}
use Rattle.rp_base.specs.declared.plan.Plan.{Plan}
use Rattle.rp_base.specs.declared.plan.Role.{Role}
use Rattle.rp_base.specs.declared.plan.Role.TheVariants.{Plain, Data, Hash}
use Rattle.rp_base.specs.declared.seen.Seen.{Seen}
use Rattle.rp_base.specs.declared.table.Row.{Row}
use Rattle.rp_disk.specs.Calls.{all_done}
use Rattle.rp_disk.specs.Ranges.{Apart, Inside}
use Rattle.rp_disk.specs.Stops.{Each}
use Rattle.rp_disk.specs.declared.call.Call.{Call}
use Rattle.rp_disk.specs.declared.call.Call.TheVariants.{Write, Sync as SyncCall, SetLen}
use Rattle.rp_disk.proofs.Agreeing.{Each-left, Each-right, length-resized}
use Rattle.rp_disk.proofs.Blocks.{Each-imp, all_done-append}
use Rattle.rp_disk.proofs.Ranges.{bytes_at-all_done, length-all_done}
use Rattle.rp_steps.specs.Calls.{calls_of, calls_of_steps}
use Rattle.rp_steps.specs.Contents.{NotesFit, RoleFits, Sources, contents, contents_as, payload, payload_at}
use Rattle.rp_steps.specs.Planned.{HasRoom}
use Rattle.rp_steps.specs.Steps.{byte_count, byte_of_slot, contents_steps, copy_phases, from_byte, growth, is_new, mbr_phases, new_rows, payload_steps, phase_of, phases, steps, synced, tree_steps, written_copies}
use Rattle.rp_steps.specs.declared.step.Step.{Step}
use Rattle.rp_steps.specs.declared.step.Step.TheVariants.{Grow, Zero, Copy, Tree, ClosePrimary, ArrayPrimary, HeaderPrimary, CloseBackup, ArrayBackup, HeaderBackup, Mbr, Sync}
use Rattle.rp_steps.proofs.Contented.{are_in_new_rows, contents_hold}
use Rattle.rp_steps.proofs.Copying.{part_added}
use Rattle.rp_steps.proofs.Rowed.{HasFile, has_file, row_fill}
use Rattle.rp_steps.proofs.Written.{Each-append, Writes}
use Rattle.rp_stops.specs.Rows.{HoldContents, IsInNewRow, IsInside}
use Rattle.rp_verity.specs.Filled.{cut}
use Rattle.rp_step.proofs.Tied.{AreLaid, IsLaid}
use Rattle.rp_apply.proofs.Can.{IsRow, are_rows, partner_at, role_fits, row_inside, rows_apart}
use Rattle.rp_apply.proofs.Every.{Everywhere, copies, grown, mbr}
use Rattle.rp_apply.proofs.Inside.{inside_row}
use Rattle.rp_apply.proofs.Parts.{OfRange, payload_each, zeros_each}
use Rattle.rp_apply.proofs.Partners.{payload_of_row}

-- a step that writes no tree
abbrev pub IsNoTree : Step → Type 0
IsNoTree (Tree data_at hash_at blocks salt uuid root) = ⊥
IsNoTree other = Unit {0}

no_tree : (low high : ℕ) → OfRange IsNoTree low high
no_tree low high = record { zero = λ at len some from to. tt; copy = λ file at len some from to. tt }

module _ (plan : Plan) (sources : Sources) where
  laid_one : (image : List ℕ) (step : Step) → IsNoTree step → IsLaid plan sources image step
  laid_one image (Tree data_at hash_at blocks salt uuid root) none = absurd none
  laid_one image (Grow len) none = tt
  laid_one image (Zero at len) none = tt
  laid_one image (Copy file at len) none = tt
  laid_one image ClosePrimary none = tt
  laid_one image ArrayPrimary none = tt
  laid_one image HeaderPrimary none = tt
  laid_one image CloseBackup none = tt
  laid_one image ArrayBackup none = tt
  laid_one image HeaderBackup none = tt
  laid_one image Mbr none = tt
  laid_one image Sync none = tt

  -- steps without a tree
  pub laid_none : (image : List ℕ) (steps : List Step) → All IsNoTree steps → AreLaid plan sources image steps
  laid_none image [] none = tt
  laid_none image (step ∷ steps) none = (
    laid_one image step (All-head IsNoTree step steps none),
    laid_none (all_done image (calls_of plan sources step)) steps (All-tail IsNoTree step steps none),
  )

  -- steps behind others
  pub laid_both : (image : List ℕ) (xs ys : List Step) → AreLaid plan sources image xs
      → AreLaid plan sources (all_done image (calls_of_steps plan sources xs)) ys → AreLaid plan sources image (xs ++ ys)
  laid_both image [] ys laid more = more
  laid_both image (step ∷ xs) ys laid more = (
    laid.0,
    laid_both (all_done image (calls_of plan sources step)) xs ys laid.1
        (subst (λ (i : List ℕ). AreLaid plan sources i ys) (all_done-append image (calls_of plan sources step) (calls_of_steps plan sources xs)) more),
  )

  -- the steps of rows that hold trees, and their calls
  abbrev trees_of : List Noted → List Step
  trees_of rows = flat_map (λ noted. tree_steps plan.goal.rows noted.0 noted.1.role) rows

  abbrev tree_calls_of : Noted → List Call
  tree_calls_of noted = calls_of_steps plan sources (tree_steps plan.goal.rows noted.0 noted.1.role)

  module _ (seen : Seen) (formed : IsWellFormed seen plan) (fit : NotesFit plan) where
    abbrev Row_of : Noted → Type 0
    Row_of noted = IsRow seen plan formed noted

    source_is : (noted : Noted) → Row_of noted → HasFile noted
    source_is noted row = subst HasFile row.is (has_file (get_or (noted_of plan) row.place noted) (formed.sources row.place noted row.below))

    -- the calls of a tree lie in its row
    in_row : (noted : Noted) (role : Role) → Row_of noted → noted.1.role ≡ role
        → Each (IsInside noted.0) (calls_of_steps plan sources (tree_steps plan.goal.rows noted.0 role))
    in_row noted role row is =
        let image : List ℕ = replicate (512 * plan.target) 0 in
        let fits : from_byte noted.0 + byte_count noted.0 ≤ length image = omega (arith, row_inside seen plan formed noted row, length-replicate {A = ℕ} (512 * plan.target) 0) in
        let fill = row_fill plan sources noted role image (source_is noted row) row.planned_is.source fits
        (subst (λ (r : Role). HasRoom noted.0 r) is row.planned_is.tree) (subst RoleFits is (role_fits seen plan formed fit noted row)) in
        let value = λ (k : ℕ). get_or (contents_as plan sources image noted role) (k - from_byte noted.0) 0 in
        Each-imp (Writes value (from_byte noted.0) (from_byte noted.0 + byte_count noted.0)) (IsInside noted.0) (λ call writes. inside_row value _ _ noted.0 call (omega arith) (omega arith) writes)
        (calls_of_steps plan sources (tree_steps plan.goal.rows noted.0 role))
        (Each-right (Writes value (from_byte noted.0) (from_byte noted.0 + byte_count noted.0)) (calls_of_steps plan sources (payload_steps noted role))
        (calls_of_steps plan sources (tree_steps plan.goal.rows noted.0 role)) fill.writes)

    inside_target : (row : Row) (call : Call) → from_byte row + byte_count row ≤ 512 * plan.target → IsInside row call → Inside (512 * plan.target) call
    inside_target row (Write at bytes) fits is = let b = is.1 in omega arith
    inside_target row SyncCall fits is = absurd is
    inside_target row (SetLen len) fits is = absurd is

    apart_from : (under row : Row) (call : Call) → AreApart under row ⊎ AreApart row under → IsInside row call → Apart (from_byte under) (byte_count under) call
    apart_from under row (Write at bytes) (inl (inl before)) is = let a = is.0 in inl (omega arith)
    apart_from under row (Write at bytes) (inl (inr behind)) is = let b = is.1 in inr (omega arith)
    apart_from under row (Write at bytes) (inr (inl behind)) is = let b = is.1 in inr (omega arith)
    apart_from under row (Write at bytes) (inr (inr before)) is = let a = is.0 in inl (omega arith)
    apart_from under row SyncCall apart is = absurd is
    apart_from under row (SetLen len) apart is = absurd is

    calls_split : (noted : Noted) (rows : List Noted) → calls_of_steps plan sources (trees_of (noted ∷ rows)) ≡ tree_calls_of noted ++ calls_of_steps plan sources (trees_of rows)
    calls_split noted rows = flat_map-append (calls_of plan sources) (tree_steps plan.goal.rows noted.0 noted.1.role) (trees_of rows)

    all_inside : (rows : List Noted) → All Row_of rows → Each (Inside (512 * plan.target)) (calls_of_steps plan sources (trees_of rows))
    all_inside [] are = tt
    all_inside (noted ∷ rows) are =
        let row = All-head Row_of noted rows are in
        subst (λ (l : List Call). Each (Inside (512 * plan.target)) l) (sym (calls_split noted rows))
        (Each-append (Inside (512 * plan.target)) (tree_calls_of noted) (calls_of_steps plan sources (trees_of rows))
        (Each-imp (IsInside noted.0) (Inside (512 * plan.target)) (λ call is. inside_target noted.0 call (row_inside seen plan formed noted row) is) (tree_calls_of noted) (in_row noted noted.1.role row refl))
        (all_inside rows (All-tail Row_of noted rows are)))

    -- a data row, which no tree touches
    data_apart : (under noted : Noted) (role : Role) (partner : ℕ) (hash : List ℕ) → Row_of under → under.1.role ≡ Data partner hash → Row_of noted → noted.1.role ≡ role
        → Each (Apart (from_byte under.0) (byte_count under.0)) (calls_of_steps plan sources (tree_steps plan.goal.rows noted.0 role))
    unfolding tree_steps
    data_apart under noted Plain partner hash u is row role = tt
    data_apart under noted (Data other root) partner hash u is row role = tt
    data_apart under noted (Hash other blocks salt uuid root) partner hash u is row role =
        let differ : u.place ≢ row.place = λ e.
        let there : get_or (noted_of plan) row.place under ≡ under = subst (λ (k : ℕ). get_or (noted_of plan) k under ≡ under) e u.is in
        let same : noted ≡ under = sym row.is ∙ get_or_default (noted_of plan) row.place noted under row.below ∙ there in
        let clash = sym role ∙ ap (λ (n : Noted). n.1.role) same ∙ is in
        absurd (let no = clash in cc) in
        let apart = rows_apart seen plan formed under noted u.place row.place u.below row.below u.is row.is differ in
        let mine : Each (IsInside noted.0) (calls_of_steps plan sources (tree_steps plan.goal.rows noted.0 (Hash other blocks salt uuid root))) =
        in_row noted (Hash other blocks salt uuid root) row role in
        Each-imp (IsInside noted.0) (Apart (from_byte under.0) (byte_count under.0)) (λ call inside. apart_from under.0 noted.0 call apart inside) _ mine

    all_apart : (under : Noted) (partner : ℕ) (hash : List ℕ) → Row_of under → under.1.role ≡ Data partner hash → (rows : List Noted) → All Row_of rows
        → Each (Apart (from_byte under.0) (byte_count under.0)) (calls_of_steps plan sources (trees_of rows))
    all_apart under partner hash u is [] are = tt
    all_apart under partner hash u is (noted ∷ rows) are =
        subst (λ (l : List Call). Each (Apart (from_byte under.0) (byte_count under.0)) l) (sym (calls_split noted rows))
        (Each-append (Apart (from_byte under.0) (byte_count under.0)) (tree_calls_of noted) (calls_of_steps plan sources (trees_of rows))
        (data_apart under noted noted.1.role partner hash u is (All-head Row_of noted rows are) refl)
        (all_apart under partner hash u is rows (All-tail Row_of noted rows are)))

    -- data rows hold their sources when all trees that are left are done
    record WillHold (base image : List ℕ) (rows : List Noted) : Type 0 where
      long : length image ≡ 512 * plan.target
      hold : HoldContents plan (contents plan sources base) (all_done image (calls_of_steps plan sources (trees_of rows)))

    will_more : (base image : List ℕ) (noted : Noted) (rows : List Noted) → All Row_of (noted ∷ rows) → WillHold base image (noted ∷ rows)
        → WillHold base (all_done image (tree_calls_of noted)) rows
    will_more base image noted rows are will =
        let row = All-head Row_of noted rows are in
        let inside : Each (Inside (512 * plan.target)) (tree_calls_of noted) =
        Each-imp (IsInside noted.0) (Inside (512 * plan.target)) (λ call is. inside_target noted.0 call (row_inside seen plan formed noted row) is) (tree_calls_of noted) (in_row noted noted.1.role row refl) in
        record {
          long = length-all_done (tree_calls_of noted) image (512 * plan.target) will.long inside;
          hold = subst (λ (l : List ℕ). HoldContents plan (contents plan sources base) l)
              (ap (all_done image) (calls_split noted rows) ∙ all_done-append image (tree_calls_of noted) (calls_of_steps plan sources (trees_of rows))) will.hold;
        }

    -- a data row's contents are its source
    data_contents : (base : List ℕ) (under : Noted) (role : Role) (partner : ℕ) (hash : List ℕ) → role ≡ Data partner hash
        → contents_as plan sources base under role ≡ payload sources under
    unfolding contents_as
    data_contents base under role partner hash is = rw is refl

    held_now : (base image : List ℕ) (rows : List Noted) (under : Noted) (partner : ℕ) (hash : List ℕ) → All Row_of rows → WillHold base image rows → Row_of under
        → under.1.role ≡ Data partner hash → under.1.change ≡ New → bytes_at image (from_byte under.0) (byte_count under.0) ≡ payload sources under
    held_now base image rows under partner hash are will u is new =
        let calls = calls_of_steps plan sources (trees_of rows) in
        let P : Noted → Type 0 = λ n. n.1.change ≡ New → range_of (all_done image calls) n.0 ≡ contents plan sources base n in
        let held : range_of (all_done image calls) under.0 ≡ contents plan sources base under = subst P u.is (will.hold u.place under u.below) new in
        sym (bytes_at-all_done (from_byte under.0) (byte_count under.0) calls image (512 * plan.target) will.long (row_inside seen plan formed under u) (all_inside rows are)
        (all_apart under partner hash u is rows are))
        ∙ held ∙ data_contents base under under.1.role partner hash is

    row_laid : (base image : List ℕ) (noted : Noted) (role : Role) (rows : List Noted) → noted.1.role ≡ role → All Row_of (noted ∷ rows) → WillHold base image (noted ∷ rows)
        → AreLaid plan sources image (tree_steps plan.goal.rows noted.0 role)
    unfolding tree_steps
    row_laid base image noted Plain rows is are will = tt
    row_laid base image noted (Data partner root) rows is are will = tt
    row_laid base image noted (Hash partner blocks salt uuid root) rows is are will =
        let row = All-head Row_of noted rows are in
        let p = partner_at seen plan formed noted row partner blocks salt uuid root is in
        let under = p.under in
        let of = are_rows seen plan formed p.place under p.below in
        let u : Row_of under = subst Row_of p.is of in
        let at : byte_of_slot plan.goal.rows partner ≡ from_byte under.0 = p.at in
        let held = held_now base image (noted ∷ rows) under noted.1.slot p.pair.payload_role.0 are will u p.pair.payload_role.1 p.pair.new.0 in
        let fits = row_inside seen plan formed under u in
        let there : payload_at plan sources (from_byte under.0) ≡ payload sources under =
        subst (λ (n : Noted). payload_at plan sources (from_byte n.0) ≡ payload sources n) p.is (payload_of_row seen plan formed sources p.place under p.below) in (
          (
            omega (arith, at, p.whole, fits, will.long),
            ap (cut blocks) (ap₂ (λ (a n : ℕ). bytes_at image a n) at p.whole ∙ held ∙ sym there ∙ ap (payload_at plan sources) (sym at)),
          ),
          laid_none _ _ (zeros_each IsNoTree 0 (from_byte noted.0 + byte_count noted.0 + 4096 * hash_blocks blocks) (no_tree _ _) _ _ (omega arith) (omega arith)),
        )

    trees_laid : (base image : List ℕ) (rows : List Noted) → All Row_of rows → WillHold base image rows → AreLaid plan sources image (trees_of rows)
    trees_laid base image [] are will = tt
    trees_laid base image (noted ∷ rows) are will =
        laid_both image (tree_steps plan.goal.rows noted.0 noted.1.role) (trees_of rows) (row_laid base image noted noted.1.role rows refl are will)
        (trees_laid base (all_done image (tree_calls_of noted)) rows (All-tail Row_of noted rows are) (will_more base image noted rows are will))

    -- the steps of rows without trees
    payloads_none : (rows : List Noted) → All Row_of rows → All IsNoTree (flat_map (λ noted. payload_steps noted noted.1.role) rows)
    payloads_none [] are = All-nil IsNoTree
    payloads_none (noted ∷ rows) are =
        let row = All-head Row_of noted rows are in
        All-append IsNoTree (payload_steps noted noted.1.role) (flat_map (λ n. payload_steps n n.1.role) rows)
        (payload_each IsNoTree noted noted.1.role row.planned_is.source (no_tree _ _)) (payloads_none rows (All-tail Row_of noted rows are))

    new_are : All Row_of (new_rows plan)
    new_are = All-filter (λ noted. is_new noted.1.change) Row_of (noted_of plan) (are_rows seen plan formed)

    new_inside : (call : Call) → IsInNewRow plan call → Inside (512 * plan.target) call
    new_inside call is =
        let row = subst Row_of is.3 (are_rows seen plan formed is.0 is.1 is.2) in
        inside_target is.1.0 call (row_inside seen plan formed is.1 row) is.4.1

    -- the contents, on an image of the target's length
    pub contents_laid : (image : List ℕ) → length image ≡ 512 * plan.target → AreLaid plan sources image (contents_steps plan)
    unfolding contents_steps
    contents_laid image long =
        let payloads = flat_map (λ noted. payload_steps noted noted.1.role) (new_rows plan) in
        let trees = trees_of (new_rows plan) in
        let front = calls_of_steps plan sources payloads in
        let split : calls_of_steps plan sources (payloads ++ trees) ≡ front ++ calls_of_steps plan sources trees = flat_map-append (calls_of plan sources) payloads trees in
        let hold : HoldContents plan (contents plan sources image) (all_done image (calls_of_steps plan sources (payloads ++ trees))) =
        contents_hold plan sources seen formed fit image long in
        laid_both image payloads trees (laid_none image payloads (payloads_none (new_rows plan) new_are))
        (trees_laid image (all_done image front) (new_rows plan) new_are
        record {
          long = length-all_done front image (512 * plan.target) long
              (Each-left (Inside (512 * plan.target)) front (calls_of_steps plan sources trees)
              (subst (λ (l : List Call). Each (Inside (512 * plan.target)) l) split
              (Each-imp (IsInNewRow plan) (Inside (512 * plan.target)) new_inside (calls_of_steps plan sources (payloads ++ trees)) (are_in_new_rows plan sources seen formed fit image long))));
          hold = subst (λ (l : List ℕ). HoldContents plan (contents plan sources image) l) (ap (all_done image) split ∙ all_done-append image front (calls_of_steps plan sources trees)) hold;
        })

    -- a phase
    phase_laid : (image : List ℕ) (steps : List Step) → AreLaid plan sources image steps → AreLaid plan sources image (synced (phase_of steps))
    phase_laid image [] laid = tt
    phase_laid image (step ∷ steps) laid =
        laid_both image ((step ∷ steps) ++ Sync ∷ []) [] (laid_both image (step ∷ steps) (Sync ∷ []) laid (tt, tt)) tt

    -- an image that grows has the target's length then
    grown_long : (old : List ℕ) (b : Bool) → ltb seen.sectors plan.target ≡ b → length old ≡ 512 * seen.sectors
        → length (all_done old (calls_of_steps plan sources (synced (cond b ((Grow (512 * plan.target) ∷ []) ∷ []) [])))) ≡ 512 * plan.target
    unfolding calls_of
    grown_long old true is long = length-resized old (512 * plan.target)
    grown_long old false is long = let few = ltb-false seen.sectors plan.target is in let least = formed.target.least in omega (arith, few, least, long)

    after_growth : (old : List ℕ) → length old ≡ 512 * seen.sectors → length (all_done old (calls_of_steps plan sources (synced (growth plan seen)))) ≡ 512 * plan.target
    unfolding growth
    after_growth old long = grown_long old (ltb seen.sectors plan.target) refl long

    nowhere : Everywhere plan IsNoTree (λ noted. ⊥)
    nowhere = record {
      sync = tt;
      grow = tt;
      mbr = tt;
      primary = (tt, tt, tt);
      backup = (tt, tt, tt);
      payload = λ noted no. absurd no;
      tree = λ noted no. absurd no;
    }

    -- all steps, on an image of the length that was seen
    pub laid : (old : List ℕ) → length old ≡ 512 * seen.sectors → AreLaid plan sources old (steps plan seen)
    unfolding steps phases
    laid old long =
        let order = written_copies plan seen in
        let contents = phase_of (contents_steps plan) in
        let one = part_added (growth plan seen) contents _ _ refl refl in
        let two = part_added _ (flat_map copy_phases order) _ _ one refl in
        let three = part_added _ (mbr_phases plan seen) _ _ two refl in
        let none = λ (image : List ℕ) (steps : List Step) (no : All IsNoTree steps). laid_none image steps no in
        subst (λ (l : List Step). AreLaid plan sources old l) three
        (laid_both old _ _ (laid_both old _ _ (laid_both old (synced (growth plan seen)) (synced contents)
        (none old _ (grown IsNoTree plan (λ noted. ⊥) nowhere seen))
        (phase_laid (all_done old (calls_of_steps plan sources (synced (growth plan seen)))) (contents_steps plan)
        (contents_laid (all_done old (calls_of_steps plan sources (synced (growth plan seen)))) (after_growth old long))))
        (none _ _ (copies IsNoTree plan (λ noted. ⊥) nowhere order)))
        (none _ _ (mbr IsNoTree plan (λ noted. ⊥) nowhere seen)))
