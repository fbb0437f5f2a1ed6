-- The root hashes of a plan's trees, where sources and disk tell.
use Rattle.std.proofs.Common.{◌≡◌, ◌≢◌, ℕ, suc, ◌+◌, ◌*◌, inl, inr, Bool, true, false, cond, filter, flat_map, List, [], ◌∷◌, ◌++◌, get_or, Some, refl, sym, ap, ◌∙◌, subst, arith, All}
use Rattle.std.specs.Prelude.{Any}
use Rattle.std.proofs.lemmas.List.Elements.{All-cons, All-head, All-nil, All-tail}
use Rattle.rp_base.specs.Plan.{IsWellFormed, Noted, noted_of}
use Rattle.rp_base.specs.Trees.{hash_blocks}
use Rattle.rp_base.specs.declared.plan.Plan.{Plan}
use Rattle.rp_base.specs.declared.plan.Role.{Role}
use Rattle.rp_base.specs.declared.plan.Role.TheVariants.{Plain, Data, Hash}
use Rattle.rp_base.specs.declared.seen.Seen.{Seen}
use Rattle.rp_disk.specs.Calls.{all_done}
use Rattle.rp_disk.specs.History.{held}
use Rattle.rp_disk.specs.Made.{Past, Made, dones, history_of}
use Rattle.rp_io.specs.declared.stored.Stored.{Stored}
use Rattle.rp_steps.specs.Contents.{Sources}
use Rattle.rp_steps.specs.Steps.{byte_count, byte_of_slot, contents_steps, copy_phases, from_byte, growth, is_new, mbr_phases, new_rows, phase_of, phases, steps, synced, tree_steps, written_copies}
use Rattle.rp_steps.specs.declared.step.Step.{Step}
use Rattle.rp_steps.specs.declared.step.Step.TheVariants.{Grow, Zero, Copy, Tree, ClosePrimary, ArrayPrimary, HeaderPrimary, CloseBackup, ArrayBackup, HeaderBackup, Mbr, Sync}
use Rattle.rp_verity.specs.Tree.{root_hash}
use Rattle.rp_step.specs.Found.{AreFound, Found, IsFound, Outside, calls_with}
use Rattle.rp_step.specs.Made.{HasOtherRoot, HasRoot}
use Rattle.rp_step.specs.Run.{HaveRoots, StopsAtRoot}
use Rattle.rp_step.specs.Sourced.{sources_in}
use Rattle.rp_step.proofs.Tied.{AreLaid, IsLaid, blocks_are, shown_after, tied}
use Rattle.rp_apply.specs.Commits.{HasOther, HasPlannedRoot, HavePlannedRoots, ShowsOther, root_over}
use Rattle.rp_step.specs.Run.{shown_root}
use Rattle.rp_step.proofs.Stopping.{ShowsOtherStep}
use Rattle.rp_apply.proofs.Can.{IsRow, are_rows, partner_at}
use Rattle.rp_apply.proofs.Every.{every_step}
use Rattle.rp_apply.proofs.Parts.{OfRange, payload_each, zeros_each}
use Rattle.rp_steps.proofs.Copying.{part_added}

-- a tree over what its data row is to hold has the planned root hash
abbrev pub HasPlanned : Plan → Sources → Step → Type 0
HasPlanned plan sources (Tree data_at hash_at blocks salt uuid root) = root_over plan sources data_at blocks salt ≡ root
HasPlanned plan sources other = Unit {0}

-- it has another
abbrev pub HasOtherThan : Plan → Sources → List ℕ → List ℕ → Step → Type 0
HasOtherThan plan sources planned copied (Tree data_at hash_at blocks salt uuid root) =
    (planned ≡ root) × (copied ≡ root_over plan sources data_at blocks salt) × (copied ≢ planned)
HasOtherThan plan sources planned copied other = ⊥

module _ (plan : Plan) (outside : Outside) (files : List Stored) (first : Past) (told : outside.told ≡ Some files) (shows : outside.first ≡ Some first) where
  abbrev sources : Sources
  sources = sources_in files outside.paths

  -- what is known of the rest, behind a step
  next_laid : (made : List Made) (found : Found) (step : Step) (steps : List Step) → IsFound outside made found step
      → AreLaid plan sources (held (history_of first made)) (step ∷ steps)
      → AreLaid plan sources (held (history_of first (made ++ dones (calls_with plan found step)))) steps
  next_laid made found step steps is laid =
      let here = tied plan outside files first told shows made found step is laid.0 in
      subst (λ (image : List ℕ). AreLaid plan sources image steps)
      (sym (shown_after plan outside files first told shows made (calls_with plan found step) ∙ ap (all_done (held (history_of first made))) here)) laid.1

  root_one : (made : List Made) (found : Found) (step : Step) → IsFound outside made found step → IsLaid plan sources (held (history_of first made)) step
      → HasRoot found step → HasPlanned plan sources step
  root_one made found (Tree data_at hash_at blocks salt uuid root) is laid has =
      ap (root_hash salt) (sym (blocks_are plan outside files first told shows made data_at hash_at blocks salt found.blocks is.1 laid.0 laid.1)) ∙ has
  root_one made found (Grow len) is laid has = tt
  root_one made found (Zero at len) is laid has = tt
  root_one made found (Copy file at len) is laid has = tt
  root_one made found ClosePrimary is laid has = tt
  root_one made found ArrayPrimary is laid has = tt
  root_one made found HeaderPrimary is laid has = tt
  root_one made found CloseBackup is laid has = tt
  root_one made found ArrayBackup is laid has = tt
  root_one made found HeaderBackup is laid has = tt
  root_one made found Mbr is laid has = tt
  root_one made found Sync is laid has = tt

  pub roots_planned : (made : List Made) (founds : List Found) (steps : List Step) → AreFound plan outside made founds steps
      → AreLaid plan sources (held (history_of first made)) steps → HaveRoots founds steps → All (HasPlanned plan sources) steps
  roots_planned made [] [] are laid roots = All-nil (HasPlanned plan sources)
  roots_planned made [] (step ∷ steps) are laid roots = absurd are
  roots_planned made (found ∷ founds) [] are laid roots = absurd are
  roots_planned made (found ∷ founds) (step ∷ steps) are laid roots =
      All-cons (HasPlanned plan sources) step steps (root_one made found step are.0 laid.0 roots.0)
      (roots_planned (made ++ dones (calls_with plan found step)) founds steps are.1 (next_laid made found step steps are.0 laid) roots.1)

  other_one : (made new : List Made) (found : Found) (step : Step) (planned copied : List ℕ) → IsFound outside made found step
      → IsLaid plan sources (held (history_of first made)) step → HasOtherRoot found planned copied made new step
      → HasOtherThan plan sources planned copied step
  other_one made new found (Tree data_at hash_at blocks salt uuid root) planned copied is laid other =
      (other.0, other.1 ∙ ap (root_hash salt) (blocks_are plan outside files first told shows made data_at hash_at blocks salt found.blocks is.1 laid.0 laid.1), other.2)
  other_one made new found (Grow len) planned copied is laid other = absurd other
  other_one made new found (Zero at len) planned copied is laid other = absurd other
  other_one made new found (Copy file at len) planned copied is laid other = absurd other
  other_one made new found ClosePrimary planned copied is laid other = absurd other
  other_one made new found ArrayPrimary planned copied is laid other = absurd other
  other_one made new found HeaderPrimary planned copied is laid other = absurd other
  other_one made new found CloseBackup planned copied is laid other = absurd other
  other_one made new found ArrayBackup planned copied is laid other = absurd other
  other_one made new found HeaderBackup planned copied is laid other = absurd other
  other_one made new found Mbr planned copied is laid other = absurd other
  other_one made new found Sync planned copied is laid other = absurd other

  any_later : (P : Step → Type 0) (step : Step) (steps : List Step) → Any P steps → Any P (step ∷ steps)
  any_later P step steps any = (suc any.0, any.1, let below = any.2 in omega arith, any.3, any.4)

  pub stops_at : (made new : List Made) (founds : List Found) (steps : List Step) (planned copied : List ℕ) → AreFound plan outside made founds steps
      → AreLaid plan sources (held (history_of first made)) steps → StopsAtRoot plan founds planned copied made new steps
      → Any (HasOtherThan plan sources planned copied) steps
  stops_at made new [] steps planned copied are laid stops = absurd stops
  stops_at made new (found ∷ founds) [] planned copied are laid stops = absurd stops
  stops_at made new (found ∷ founds) (step ∷ steps) planned copied are laid (inl here) =
      (0, step, omega arith, refl, other_one made new found step planned copied are.0 laid.0 here)
  stops_at made new (found ∷ founds) (step ∷ steps) planned copied are laid (inr later) =
      any_later (HasOtherThan plan sources planned copied) step steps
      (stops_at (made ++ dones (calls_with plan found step)) new founds steps planned copied are.1 (next_laid made found step steps are.0 laid) later.1)

-- what holds of appended lists holds of each
all_left : {X : Type 0} (P : X → Type 0) (xs ys : List X) → All P (xs ++ ys) → All P xs
all_left P [] ys all = All-nil P
all_left P (x ∷ xs) ys all = All-cons P x xs (All-head P x (xs ++ ys) all) (all_left P xs ys (All-tail P x (xs ++ ys) all))

pub all_right : {X : Type 0} (P : X → Type 0) (xs ys : List X) → All P (xs ++ ys) → All P ys
all_right P [] ys all = all
all_right P (x ∷ xs) ys all = all_right P xs ys (All-tail P x (xs ++ ys) all)

of_phase : (P : Step → Type 0) (steps : List Step) → All P (synced (phase_of steps)) → All P steps
of_phase P [] all = All-nil P
of_phase P (step ∷ steps) all = all_left P (step ∷ steps) (Sync ∷ []) (all_left P ((step ∷ steps) ++ Sync ∷ []) [] all)

-- what holds of the steps of new rows holds of those of each
of_each_new : (P : Step → Type 0) (f : Noted → List Step) (rows : List Noted) → All P (flat_map f (filter (λ noted. is_new noted.1.change) rows))
    → All (λ (noted : Noted). is_new noted.1.change ≡ true → All P (f noted)) rows
of_each_new P f [] all = All-nil (λ (noted : Noted). is_new noted.1.change ≡ true → All P (f noted))
of_each_new P f (noted ∷ rows) all = by (is_new noted.1.change) refl all (of_each_new P f rows) where
  news : List Noted
  news = filter (λ n. is_new n.1.change) rows

  R : Noted → Type 0
  R n = is_new n.1.change ≡ true → All P (f n)

  by : (b : Bool) → is_new noted.1.change ≡ b → All P (flat_map f (cond b (noted ∷ news) news)) → (All P (flat_map f news) → All R rows)
      → All R (noted ∷ rows)
  by true is some later =
      All-cons R noted rows (λ e. all_left P (f noted) (flat_map f news) some) (later (all_right P (f noted) (flat_map f news) some))
  by false is some later = All-cons R noted rows (λ e. absurd (let no = sym is ∙ e in cc)) (later some)

-- a step's tree is that of a role
abbrev IsTreeOf : Plan → ℕ → ℕ → List ℕ → List ℕ → Role → Type 0
IsTreeOf plan data_at blocks salt root (Hash partner count its uuid own) =
    (data_at ≡ byte_of_slot plan.goal.rows partner) × (blocks ≡ count) × (salt ≡ its) × (root ≡ own)
IsTreeOf plan data_at blocks salt root other = ⊥

-- a step that writes a tree writes that of a row
abbrev IsOfRow : Plan → Step → Type 0
IsOfRow plan (Tree data_at hash_at blocks salt uuid root) = Any (λ (noted : Noted). IsTreeOf plan data_at blocks salt root noted.1.role) (noted_of plan)
IsOfRow plan other = Unit {0}

of_row : (plan : Plan) (low high : ℕ) → OfRange (IsOfRow plan) low high
of_row plan low high = record { zero = λ at len some from to. tt; copy = λ file at len some from to. tt }

module _ (seen : Seen) (plan : Plan) (formed : IsWellFormed seen plan) where
  tree_of_row : (noted : Noted) (role : Role) → noted.1.role ≡ role → IsRow seen plan formed noted → All (IsOfRow plan) (tree_steps plan.goal.rows noted.0 role)
  unfolding tree_steps
  tree_of_row noted Plain is row = All-nil (IsOfRow plan)
  tree_of_row noted (Data partner root) is row = All-nil (IsOfRow plan)
  tree_of_row noted (Hash partner blocks salt uuid root) is row =
      let from = byte_of_slot plan.goal.rows partner in
      All-cons (IsOfRow plan) (Tree from (from_byte noted.0) blocks salt uuid root) _
      (row.place, noted, row.below, row.is, subst (λ (r : Role). IsTreeOf plan from blocks salt root r) (sym is) (refl, refl, refl, refl))
      (zeros_each (IsOfRow plan) 0 (from_byte noted.0 + byte_count noted.0 + 4096 * hash_blocks blocks) (of_row plan _ _) _ _ (omega arith) (omega arith))

  of_rows : All (IsOfRow plan) (steps plan seen)
  of_rows = every_step (IsOfRow plan) plan (IsRow seen plan formed) record {
    sync = tt;
    grow = tt;
    mbr = tt;
    primary = (tt, tt, tt);
    backup = (tt, tt, tt);
    payload = λ noted row. payload_each (IsOfRow plan) noted noted.1.role row.planned_is.source (of_row plan _ _);
    tree = λ noted row. tree_of_row noted noted.1.role refl row;
  } seen (are_rows seen plan formed)

  module _ (sources : Sources) where
    -- a tree with another root hash is that of a row with another
    other_role : (planned copied : List ℕ) (data_at blocks : ℕ) (salt root : List ℕ) (role : Role) → IsTreeOf plan data_at blocks salt root role
        → (planned ≡ root) × (copied ≡ root_over plan sources data_at blocks salt) × (copied ≢ planned) → HasOther plan sources planned copied role
    other_role planned copied data_at blocks salt root (Hash partner count its uuid own) of other =
        (other.0 ∙ of.3, other.1 ∙ (λ i. root_over plan sources (of.0 i) (of.1 i) (of.2 i)), other.2)
    other_role planned copied data_at blocks salt root Plain of other = absurd of
    other_role planned copied data_at blocks salt root (Data partner hash) of other = absurd of

    other_row : (planned copied : List ℕ) (step : Step) → IsOfRow plan step → HasOtherThan plan sources planned copied step
        → Any (λ (noted : Noted). HasOther plan sources planned copied noted.1.role) (noted_of plan)
    other_row planned copied (Tree data_at hash_at blocks salt uuid root) of other =
        (of.0, of.1, of.2, of.3, other_role planned copied data_at blocks salt root of.1.1.role of.4 other)
    other_row planned copied (Grow len) of other = absurd other
    other_row planned copied (Zero at len) of other = absurd other
    other_row planned copied (Copy file at len) of other = absurd other
    other_row planned copied ClosePrimary of other = absurd other
    other_row planned copied ArrayPrimary of other = absurd other
    other_row planned copied HeaderPrimary of other = absurd other
    other_row planned copied CloseBackup of other = absurd other
    other_row planned copied ArrayBackup of other = absurd other
    other_row planned copied HeaderBackup of other = absurd other
    other_row planned copied Mbr of other = absurd other
    other_row planned copied Sync of other = absurd other

    pub other_among : (planned copied : List ℕ) → Any (HasOtherThan plan sources planned copied) (steps plan seen)
        → Any (λ (noted : Noted). HasOther plan sources planned copied noted.1.role) (noted_of plan)
    other_among planned copied any =
        let of : IsOfRow plan any.1 = subst (IsOfRow plan) any.3 (of_rows any.0 any.1 any.2) in
        other_row planned copied any.1 of any.4

    -- each row with a tree has its step
    trees_planned : All (HasPlanned plan sources) (steps plan seen) → All (HasPlanned plan sources) (flat_map (λ noted. tree_steps plan.goal.rows noted.0 noted.1.role) (new_rows plan))
    unfolding steps phases contents_steps
    trees_planned all =
        let P = HasPlanned plan sources in
        let order = written_copies plan seen in
        let contents = phase_of (contents_steps plan) in
        let one = part_added (growth plan seen) contents _ _ refl refl in
        let two = part_added _ (flat_map copy_phases order) _ _ one refl in
        let three = part_added _ (mbr_phases plan seen) _ _ two refl in
        let front = all_left P ((synced (growth plan seen) ++ synced contents) ++ synced (flat_map copy_phases order)) (synced (mbr_phases plan seen))
        (subst (λ (l : List Step). All P l) (sym three) all) in
        let second = all_right P (synced (growth plan seen)) (synced contents) (all_left P (synced (growth plan seen) ++ synced contents) (synced (flat_map copy_phases order)) front) in
        all_right P _ (flat_map (λ noted. tree_steps plan.goal.rows noted.0 noted.1.role) (new_rows plan)) (of_phase P (contents_steps plan) second)

    role_planned : (noted : Noted) (role : Role) → noted.1.role ≡ role → IsRow seen plan formed noted
        → (is_new noted.1.change ≡ true → All (HasPlanned plan sources) (tree_steps plan.goal.rows noted.0 role)) → HasPlannedRoot plan sources role
    unfolding tree_steps
    role_planned noted Plain is row each = tt
    role_planned noted (Data partner root) is row each = tt
    role_planned noted (Hash partner blocks salt uuid root) is row each =
        let p = partner_at seen plan formed noted row partner blocks salt uuid root is in
        All-head (HasPlanned plan sources) _ _ (each (ap is_new p.pair.new.1))

    pub rows_planned : All (HasPlanned plan sources) (steps plan seen) → HavePlannedRoots plan sources
    rows_planned all k d below =
        let noted = get_or (noted_of plan) k d in
        let trees = of_each_new (HasPlanned plan sources) (λ n. tree_steps plan.goal.rows n.0 n.1.role) (noted_of plan) (trees_planned all) in
        role_planned noted noted.1.role refl (are_rows seen plan formed k d below) (trees k d below)

  -- a tree over shown bytes with another root hash is that of a row
  shown_role : (image planned copied : List ℕ) (data_at blocks : ℕ) (salt root : List ℕ) (role : Role) → IsTreeOf plan data_at blocks salt root role
      → (planned ≡ root) × (copied ≡ shown_root image data_at blocks salt) × (copied ≢ planned) → ShowsOther plan image planned copied role
  shown_role image planned copied data_at blocks salt root (Hash partner count its uuid own) of other =
      (other.0 ∙ of.3, other.1 ∙ (λ i. shown_root image (of.0 i) (of.1 i) (of.2 i)), other.2)
  shown_role image planned copied data_at blocks salt root Plain of other = absurd of
  shown_role image planned copied data_at blocks salt root (Data partner hash) of other = absurd of

  shown_row : (image planned copied : List ℕ) (step : Step) → IsOfRow plan step → ShowsOtherStep image planned copied step
      → Any (λ (noted : Noted). ShowsOther plan image planned copied noted.1.role) (noted_of plan)
  shown_row image planned copied (Tree data_at hash_at blocks salt uuid root) of other =
      (of.0, of.1, of.2, of.3, shown_role image planned copied data_at blocks salt root of.1.1.role of.4 other)
  shown_row image planned copied (Grow len) of other = absurd other
  shown_row image planned copied (Zero at len) of other = absurd other
  shown_row image planned copied (Copy file at len) of other = absurd other
  shown_row image planned copied ClosePrimary of other = absurd other
  shown_row image planned copied ArrayPrimary of other = absurd other
  shown_row image planned copied HeaderPrimary of other = absurd other
  shown_row image planned copied CloseBackup of other = absurd other
  shown_row image planned copied ArrayBackup of other = absurd other
  shown_row image planned copied HeaderBackup of other = absurd other
  shown_row image planned copied Mbr of other = absurd other
  shown_row image planned copied Sync of other = absurd other

  pub shown_among : (image planned copied : List ℕ) → Any (ShowsOtherStep image planned copied) (steps plan seen)
      → Any (λ (noted : Noted). ShowsOther plan image planned copied noted.1.role) (noted_of plan)
  shown_among image planned copied any =
      let of : IsOfRow plan any.1 = subst (IsOfRow plan) any.3 (of_rows any.0 any.1 any.2) in
      shown_row image planned copied any.1 of any.4
