-- The calls of a plan, as the law of stops asks for them: growth, writes into new rows, copies, and the protective MBR.
use Rattle.std.proofs.Common.{◌≡◌, ◌≢◌, ℕ, ◌+◌, ◌-◌, ◌*◌, ◌≤◌, Bool, true, false, cond, eqb, leb, ltb, not, ◌||◌, List, [], ◌∷◌, ◌++◌, length, map, filter, flat_map, replicate, Option, Some, None, refl, sym, ap, ap₂, ◌∙◌, arith, All, append_assoc, inl, inr}
use Rattle.std.specs.Option.{option_map_or}
use Rattle.std.proofs.lemmas.Bool.{eqb-false, eqb-true, or_parts}
use Rattle.std.proofs.lemmas.Grind.{flat_map-append}
use Rattle.std.proofs.lemmas.List.{length-append, length-replicate, map-append}
use Rattle.std.proofs.lemmas.List.Elements.{All-append, All-cons, All-head}
use Rattle.std.proofs.lemmas.List.FromFn.{length-map-range_with_len}
use Rattle.rp_base.specs.Image.{bytes_at}
use Rattle.rp_base.specs.Plan.{Noted}
use Rattle.rp_base.specs.declared.geometry.Which.{Which}
use Rattle.rp_base.specs.declared.geometry.Which.TheVariants.{Primary, Backup}
use Rattle.rp_base.specs.declared.plan.Plan.{Plan}
use Rattle.rp_base.specs.declared.plan.Role.{Role}
use Rattle.rp_base.specs.declared.plan.Role.TheVariants.{Plain, Data, Hash}
use Rattle.rp_base.specs.declared.seen.Mbr.{Mbr as MbrState}
use Rattle.rp_base.specs.declared.seen.Mbr.TheVariants as states
use Rattle.rp_base.specs.declared.seen.Origin.{Origin}
use Rattle.rp_base.specs.declared.seen.Origin.TheVariants as origins
use Rattle.rp_base.specs.declared.seen.Seen.{Seen}
use Rattle.rp_base.specs.declared.table.Row.{Row}
use Rattle.rp_disk.specs.Blocks.{flat}
use Rattle.rp_disk.specs.declared.call.Call.{Call}
use Rattle.rp_disk.specs.declared.call.Call.TheVariants.{Write, SetLen, Sync as SyncCall}
use Rattle.rp_disk.specs.Calls.{resized}
use Rattle.rp_disk.proofs.Agreeing.{length-resized}
use Rattle.rp_stops.specs.Order.{IsMbrPart, written, left, IsOrder, primary_last, backup_last, primary_alone, backup_alone, no_copy, IsUnchanged, contents_blocks, copies, copy_blocks, mbr_call}
use Rattle.rp_base.specs.Trees.{hash_blocks}
use Rattle.rp_verity.specs.Superblock.{superblock}
use Rattle.rp_steps.specs.Calls.{calls_of, calls_of_steps, in_pieces, tree_writes}
use Rattle.rp_steps.specs.Contents.{Sources, tree_over}
use Rattle.rp_steps.specs.Steps.{byte_count, byte_of_slot, contents_steps, copy_order, copy_phases, copy_steps, from_byte, growth, is_neither, is_same, mbr_phases, mebibyte, new_rows, payload_steps, phase_of, phases, rest_steps, source_len, steps, synced, tree_steps, writes_both, writes_mbr, written_copies, zero_steps}
use Rattle.rp_steps.specs.Writes.{piece, pieces}
use Rattle.rp_steps.specs.declared.step.Step.{Step}
use Rattle.rp_steps.specs.declared.step.Step.TheVariants.{Grow, Zero, Copy, Tree, Sync}
use Rattle.rp_steps.specs.declared.step.Step.TheVariants as steps_are
use Rattle.rp_steps.proofs.SameLemmas.{same_table-Decides}
use Rattle.rp_stops.specs.Order as stops

module _ (plan : Plan) (sources : Sources) where
  -- a sync behind each phase is one behind each block of calls
  pub calls-synced : (phases : List (List Step)) → calls_of_steps plan sources (synced phases) ≡ flat (map (calls_of_steps plan sources) phases)
  unfolding calls_of
  calls-synced [] = refl
  calls-synced (phase ∷ phases) =
      flat_map-append (calls_of plan sources) (phase ++ Sync ∷ []) (synced phases)
      ∙ ap (λ (l : List Call). l ++ calls_of_steps plan sources (synced phases)) (flat_map-append (calls_of plan sources) phase (Sync ∷ []))
      ∙ append_assoc (calls_of_steps plan sources phase) (SyncCall ∷ []) (calls_of_steps plan sources (synced phases))
      ∙ ap (λ (l : List Call). calls_of_steps plan sources phase ++ (SyncCall ∷ l)) (calls-synced phases)

  pub growth_as : (len : ℕ) (b : Bool) → map (calls_of_steps plan sources) (cond b ((Grow len ∷ []) ∷ []) []) ≡ cond b ((SetLen len ∷ []) ∷ []) []
  unfolding calls_of
  growth_as len true = refl
  growth_as len false = refl

  pub copies_as : (order : List Which) → map (calls_of_steps plan sources) (flat_map copy_phases order) ≡ copies plan order
  unfolding calls_of
  copies_as [] = refl
  copies_as (Primary ∷ order) = ap (λ (l : List (List Call)). copy_blocks plan Primary ++ l) (copies_as order)
  copies_as (Backup ∷ order) = ap (λ (l : List (List Call)). copy_blocks plan Backup ++ l) (copies_as order)

  -- each step of contents has a call
  abbrev MakesCalls : Step → Type 0
  MakesCalls step = 1 ≤ length (calls_of plan sources step)

  none : All MakesCalls []
  none k d below = absurd (omega arith)

  one : (step : Step) → MakesCalls step → All MakesCalls (step ∷ [])
  one step makes = All-cons MakesCalls step [] makes none

  zero_makes : (at len : ℕ) → 1 ≤ len → MakesCalls (Zero at len)
  unfolding calls_of in_pieces
  zero_makes at len some =
      let bytes : List ℕ = replicate len 0 in
      let long = length-replicate {A = ℕ} len 0 in
      omega (arith, length-map-range_with_len (λ k. Write (at + piece * k) (bytes_at bytes (piece * k) piece)) 0 (pieces (length bytes)))

  copy_makes : (file at len : ℕ) → 1 ≤ len → MakesCalls (Copy file at len)
  unfolding calls_of in_pieces
  copy_makes file at len some =
      let bytes = resized (sources file) len in
      let long = length-resized (sources file) len in
      omega (arith, length-map-range_with_len (λ k. Write (at + piece * k) (bytes_at bytes (piece * k) piece)) 0 (pieces (length bytes)))

  zeros_make : (at len : ℕ) → All MakesCalls (zero_steps at len)
  unfolding zero_steps
  zeros_make at len = by (eqb len 0) refl where
    by : (b : Bool) → eqb len 0 ≡ b → All MakesCalls (cond b [] (Zero at len ∷ []))
    by true is = none
    by false is = let some : len ≢ 0 = eqb-false len 0 is in one (Zero at len) (zero_makes at len (omega arith))

  some_bytes : 1 ≤ mebibyte
  unfolding mebibyte
  some_bytes = omega arith

  rest_makes : (role : Role) (at len : ℕ) → All MakesCalls (rest_steps role at len)
  unfolding rest_steps
  rest_makes Plain at len = by (leb len (2 * mebibyte)) where
    by : (b : Bool) → All MakesCalls (cond b (zero_steps at len) (Zero at mebibyte ∷ Zero (at + (len - mebibyte)) mebibyte ∷ []))
    by true = zeros_make at len
    by false = All-cons MakesCalls (Zero at mebibyte) (Zero (at + (len - mebibyte)) mebibyte ∷ []) (zero_makes at mebibyte some_bytes)
        (one (Zero (at + (len - mebibyte)) mebibyte) (zero_makes (at + (len - mebibyte)) mebibyte some_bytes))
  rest_makes (Data partner root) at len = zeros_make at len
  rest_makes (Hash partner blocks salt uuid root) at len = zeros_make at len

  source_makes : (file : Option ℕ) (at len : ℕ) → 1 ≤ len → All MakesCalls (option_map_or (λ f. Copy f at len ∷ []) file [])
  source_makes None at len some = none
  source_makes (Some file) at len some = one (Copy file at len) (copy_makes file at len some)

  copying_makes : (noted : Noted) → All MakesCalls (copy_steps noted)
  unfolding copy_steps
  copying_makes noted = by (eqb (source_len noted.1) 0) refl where
    by : (b : Bool) → eqb (source_len noted.1) 0 ≡ b
        → All MakesCalls (cond b [] (option_map_or (λ f. Copy f (from_byte noted.0) (source_len noted.1) ∷ []) noted.1.file []))
    by true is = none
    by false is =
        let some : source_len noted.1 ≢ 0 = eqb-false (source_len noted.1) 0 is in
        source_makes noted.1.file (from_byte noted.0) (source_len noted.1) (omega arith)

  payload_makes : (noted : Noted) (role : Role) → All MakesCalls (payload_steps noted role)
  unfolding payload_steps
  payload_makes noted Plain = All-append MakesCalls (copy_steps noted) _ (copying_makes noted) (rest_makes Plain _ _)
  payload_makes noted (Data partner root) = All-append MakesCalls (copy_steps noted) _ (copying_makes noted) (rest_makes (Data partner root) _ _)
  payload_makes noted (Hash partner blocks salt uuid root) = none

  tree_makes : (rows : List Row) (row : Row) (role : Role) → All MakesCalls (tree_steps rows row role)
  unfolding tree_steps calls_of
  tree_makes rows row Plain = none
  tree_makes rows row (Data partner root) = none
  tree_makes rows row (Hash partner blocks salt uuid root) =
      All-cons MakesCalls (Tree (byte_of_slot rows partner) (from_byte row) blocks salt uuid root)
      (zero_steps (from_byte row + 4096 * hash_blocks blocks) (byte_count row - 4096 * hash_blocks blocks))
      (omega (
        arith,
        length-append (tree_writes (from_byte row) blocks (tree_over plan sources (byte_of_slot rows partner) blocks salt))
            (Write (from_byte row) (superblock uuid blocks salt) ∷ []),
      ))
      (zeros_make (from_byte row + 4096 * hash_blocks blocks) (byte_count row - 4096 * hash_blocks blocks))

  each_makes : {X : Type 0} (f : X → List Step) → ((x : X) → All MakesCalls (f x)) → (xs : List X) → All MakesCalls (flat_map f xs)
  each_makes f makes [] = none
  each_makes f makes (x ∷ xs) = All-append MakesCalls (f x) (flat_map f xs) (makes x) (each_makes f makes xs)

  contents_make : All MakesCalls (contents_steps plan)
  unfolding contents_steps
  contents_make =
      All-append MakesCalls _ _ (each_makes (λ noted. payload_steps noted noted.1.role) (λ noted. payload_makes noted noted.1.role) (new_rows plan))
      (each_makes (λ noted. tree_steps plan.goal.rows noted.0 noted.1.role) (λ noted. tree_makes plan.goal.rows noted.0 noted.1.role) (new_rows plan))

  -- so contents are a block where they have steps
  block_as : (phase : List Step) → All MakesCalls phase → map (calls_of_steps plan sources) (phase_of phase) ≡ contents_blocks (calls_of_steps plan sources phase)
  block_as [] makes = refl
  block_as (step ∷ phase) makes = by (calls_of_steps plan sources (step ∷ phase)) refl where
    by : (calls : List Call) → calls_of_steps plan sources (step ∷ phase) ≡ calls → calls_of_steps plan sources (step ∷ phase) ∷ [] ≡ contents_blocks (calls_of_steps plan sources (step ∷ phase))
    by [] is =
        let some : 1 ≤ length (calls_of plan sources step) = All-head MakesCalls step phase makes in
        absurd (omega (arith, ap length is, length-append (calls_of plan sources step) (calls_of_steps plan sources phase)))
    by (call ∷ calls) is = ap (λ (l : List Call). l ∷ []) is ∙ sym (ap contents_blocks is)

  -- the calls of a plan
  pub calls-flat : (seen : Seen) → calls_of_steps plan sources (steps plan seen)
      ≡ flat (stops.growth seen plan ++ (contents_blocks (calls_of_steps plan sources (contents_steps plan)) ++ (copies plan (written_copies plan seen)
      ++ map (calls_of_steps plan sources) (mbr_phases plan seen))))
  unfolding steps phases growth
  calls-flat seen =
      let F = calls_of_steps plan sources in
      let a = growth plan seen in
      let b = phase_of (contents_steps plan) in
      let c = flat_map copy_phases (written_copies plan seen) in
      let d = mbr_phases plan seen in
      calls-synced (((a ++ b) ++ c) ++ d)
      ∙ ap flat (map-append F ((a ++ b) ++ c) d ∙ ap (λ (l : List (List Call)). l ++ map F d) (map-append F (a ++ b) c
      ∙ ap (λ (l : List (List Call)). l ++ map F c) (map-append F a b))
      ∙ append_assoc (map F a ++ map F b) (map F c) (map F d) ∙ append_assoc (map F a) (map F b) (map F c ++ map F d)
      ∙ ap₂ (λ (x y : List (List Call)). x ++ y) (growth_as (512 * plan.target) (ltb seen.sectors plan.target))
      (ap₂ (λ (x y : List (List Call)). x ++ y) (block_as (contents_steps plan) contents_make)
      (ap (λ (l : List (List Call)). l ++ map F d) (copies_as (written_copies plan seen)))))

  mbr_as : (seen : Seen) (state : MbrState) → seen.mbr ≡ state → IsMbrPart seen plan (map (calls_of_steps plan sources) (cond (writes_mbr plan seen state) ((steps_are.Mbr ∷ []) ∷ []) []))
  unfolding writes_mbr calls_of
  mbr_as seen states.Foreign is = left (inl is) refl
  mbr_as seen states.Differs is = written (λ e. let no : states.Differs ≡ states.Foreign = sym is ∙ e in cc) refl
  mbr_as seen states.Same is = by (eqb plan.target seen.sectors) refl where
    by : (b : Bool) → eqb plan.target seen.sectors ≡ b → IsMbrPart seen plan (map (calls_of_steps plan sources) (cond (not b) ((steps_are.Mbr ∷ []) ∷ []) []))
    by true same = left (inr (is, eqb-true plan.target seen.sectors same)) refl
    by false other = written (λ e. let no : states.Same ≡ states.Foreign = sym is ∙ e in cc) refl

  pub mbr_part : (seen : Seen) → IsMbrPart seen plan (map (calls_of_steps plan sources) (mbr_phases plan seen))
  unfolding mbr_phases
  mbr_part seen = mbr_as seen seen.mbr refl

-- what holds where not both copies are written
unchanged : (seen : Seen) (plan : Plan) → writes_both plan seen ≡ false → IsUnchanged seen plan
unfolding writes_both
unchanged seen plan not_both =
    let parts = or_parts _ _ not_both in
    let front = or_parts _ _ parts.0 in record {
      goal = (same_table-Decides plan.goal seen.shown).0 (not_false _ front.0);
      target = eqb-true plan.target seen.sectors (not_false _ front.1);
      origin = λ e. let no : is_neither seen.origin ≡ true = ap is_neither e in cc;
    } where
      not_false : (b : Bool) → not b ≡ false → b ≡ true
      not_false true is = refl
      not_false false is = cc

-- which copies are chosen, by whether both are written and which are the same
abbrev backup_before : Bool → Bool → Bool → List Which
backup_before both p b = cond (both || not b) (Backup ∷ cond (both || not p) (Primary ∷ []) []) (cond (both || not p) (Primary ∷ []) [])

abbrev primary_before : Bool → Bool → Bool → List Which
primary_before both p b = cond (both || not p) (Primary ∷ cond (both || not b) (Backup ∷ []) []) (cond (both || not b) (Backup ∷ []) [])

abbrev chosen : Seen → Plan → List Which → List Which
chosen seen plan order = filter (λ which. writes_both plan seen || not (is_same seen which)) order

module _ (seen : Seen) (plan : Plan) (both p b : Bool) (w : writes_both plan seen ≡ both) (x : seen.primary_same ≡ p) (y : seen.backup_same ≡ b) where
  backup_first : copy_order seen.origin ≡ Backup ∷ Primary ∷ [] → chosen seen plan (copy_order seen.origin) ≡ backup_before both p b
  backup_first order = ap (chosen seen plan) order ∙ (λ i. backup_before (w i) (x i) (y i))

  primary_first : copy_order seen.origin ≡ Primary ∷ Backup ∷ [] → chosen seen plan (copy_order seen.origin) ≡ primary_before both p b
  primary_first order = ap (chosen seen plan) order ∙ (λ i. primary_before (w i) (x i) (y i))

not_backup : (origin seen : Origin) → seen ≡ origin → (origin ≡ origins.Backup → ⊥) → seen ≢ origins.Backup
not_backup origin seen is other e = other (sym is ∙ e)

-- the order of copies is one of those that the law of stops admits
order_as : (seen : Seen) (plan : Plan) (both p b : Bool) (origin : Origin) → writes_both plan seen ≡ both → seen.primary_same ≡ p → seen.backup_same ≡ b
    → seen.origin ≡ origin → IsOrder seen plan (chosen seen plan (copy_order seen.origin))
order_as seen plan true p b origins.Primary w x y z =
    primary_last (not_backup origins.Primary seen.origin z (λ e. cc)) (backup_first seen plan true p b w x y (ap copy_order z))
order_as seen plan true p b origins.Neither w x y z =
    primary_last (not_backup origins.Neither seen.origin z (λ e. cc)) (backup_first seen plan true p b w x y (ap copy_order z))
order_as seen plan true p b origins.Backup w x y z = backup_last z (primary_first seen plan true p b w x y (ap copy_order z))
order_as seen plan false false false origins.Primary w x y z =
    primary_last (not_backup origins.Primary seen.origin z (λ e. cc)) (backup_first seen plan false false false w x y (ap copy_order z))
order_as seen plan false false false origins.Backup w x y z = backup_last z (primary_first seen plan false false false w x y (ap copy_order z))
order_as seen plan false false true origins.Primary w x y z =
    primary_alone (unchanged seen plan w) y (backup_first seen plan false false true w x y (ap copy_order z))
order_as seen plan false false true origins.Backup w x y z =
    primary_alone (unchanged seen plan w) y (primary_first seen plan false false true w x y (ap copy_order z))
order_as seen plan false true false origins.Primary w x y z =
    backup_alone (unchanged seen plan w) x (backup_first seen plan false true false w x y (ap copy_order z))
order_as seen plan false true false origins.Backup w x y z =
    backup_alone (unchanged seen plan w) x (primary_first seen plan false true false w x y (ap copy_order z))
order_as seen plan false true true origins.Primary w x y z =
    no_copy (unchanged seen plan w) x y (backup_first seen plan false true true w x y (ap copy_order z))
order_as seen plan false true true origins.Backup w x y z =
    no_copy (unchanged seen plan w) x y (primary_first seen plan false true true w x y (ap copy_order z))
order_as seen plan false p b origins.Neither w x y z = absurd ((unchanged seen plan w).origin z)

pub order_is : (seen : Seen) (plan : Plan) → IsOrder seen plan (written_copies plan seen)
unfolding written_copies
order_is seen plan = order_as seen plan (writes_both plan seen) seen.primary_same seen.backup_same seen.origin refl refl refl refl
