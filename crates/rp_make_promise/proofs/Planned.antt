-- What is planned for a number: as many rows as definitions, and the root hash of its source.
use Rattle.std.proofs.Common.{◌≡◌, ◌∙◌, ℕ, zero, suc, ◌+◌, ◌*◌, ◌/◌, ◌≤◌, Bool, true, false, List, [], ◌∷◌, length, map, replicate, Option, Some, Result, Ok, Err, All, arith, refl, sym, ap, subst, inl}
use Rattle.std.specs.Prelude.{option_and_then, option_map, unwrap_or, is_some, max}
use Rattle.std.specs.List.{enumerate_from}
use Rattle.rp_apply_command.proofs.Goals.{accepted_of, goal_by}
use Rattle.rp_base.specs.Plan.{IsTarget, IsWellFormed as IsPlan}
use Rattle.rp_base.specs.Table.{IsWhole, TableFits}
use Rattle.rp_base.specs.declared.guid.Guid.{Guid}
use Rattle.rp_base.specs.declared.seen.Seen.{Seen}
use Rattle.rp_defs.specs.WellFormed.{IsWellFormed}
use Rattle.rp_defs.specs.declared.definition.Definition.{Definition}
use Rattle.rp_defs.specs.declared.definition.Verity.{Verity}
use Rattle.rp_defs.specs.declared.definition.Verity.TheVariants.{Off, Data, Hash}
use Rattle.rp_gpt.specs.Shown.{accepted, blank}
use Rattle.rp_gpt.specs.declared.table_fault.Empty.TheVariants.{Require}
use Rattle.rp_idle.specs.Idle.{IsPlanned}
use Rattle.rp_idle.proofs.Public.{plannable}
use Rattle.rp_io.specs.Files.{content}
use Rattle.rp_io.specs.declared.stored.Stored.{Stored}
use Rattle.rp_make_command.specs.Makes.{make_request}
use Rattle.rp_make_command.specs.Summary.{or_root, root_in}
use Rattle.rp_make_definitions.specs.Made.{HasPair, IsMade, first_data, or_data}
use Rattle.rp_make_input.specs.Bytes.{bytes_behind, next, source_bytes}
use Rattle.rp_make_input.specs.MakeInput.{seed_of, source_files}
use Rattle.rp_outcome.specs.Refusals.{Refusal, repair_refusal}
use Rattle.rp_plan.specs.Goal.{goal}
use Rattle.rp_plan.specs.Kept.{kept_files}
use Rattle.rp_plan.specs.Notes.{new_note, role_of, root_planned}
use Rattle.rp_plan.specs.Plannable.{IsPlannable}
use Rattle.rp_plan.proofs.Whole.{goal_well_formed}
use Rattle.rp_planned.specs.Planning.{must_repair, planned_of, planned_unless, seen_of, target_of}
use Rattle.rp_planned.specs.declared.planned.Planned.{Planned}
use Rattle.rp_planned.proofs.Target.{target_is}
use Rattle.rp_reading.specs.Stages.{and_then}
use Rattle.rp_roots.proofs.Known.{fact_told, facts_are_on}
use Rattle.rp_roots.proofs.Over.{root_is}
use Rattle.rp_sizes.specs.Facts.{fact_from, facts, root_of, source_of}
use Rattle.rp_sizes.specs.Needs.{fact_of, is_new_data, matched_of}
use Rattle.rp_sizes.specs.Pairs.{pair_blocks, salt_of}
use Rattle.rp_sizes.specs.declared.need.Fact.{Fact}
use Rattle.rp_verity.specs.Filled.{cut, filled}
use Rattle.rp_verity.specs.Tree.{root_hash}
use Rattle.rp_make_promise.specs.Told.{root_of_number}
use Rattle.rp_make_promise.proofs.Blank.{seen_blank}
use Rattle.rp_make_promise.proofs.Unchanged.{own_target}
use Rattle.rp_make_promise.proofs.Rows.{all_new, made, notes_are, rows_are}

-- so many bytes are made
behind_length : (count state : ℕ) → length (bytes_behind count state) ≡ count
unfolding bytes_behind
behind_length zero state = refl
behind_length (suc count) state = ap suc (behind_length count (next state))

pub source_length : (number : ℕ) → length (source_bytes number) ≡ 4096 * number + 17
source_length number = behind_length (4096 * number + 17) number

-- which fill one block more than the number
blocks_are : (least number len : ℕ) → least ≡ 0 → len ≡ 4096 * number + 17 → max (max least ((len + 4095) / 4096)) 1 ≡ number + 1
blocks_are least number len none is = omega (arith, none, is)

module _ (seed : Guid) (list : List Definition) (known : List Fact) (kept : List ℕ) where
  -- the root hash on the row of a hash tree is that of its data
  root_step : (file : ℕ) (v : Verity) (root : Option (List ℕ)) (later : Option ℕ) → root ≡ option_map (root_planned known) later
      → or_root root (role_of seed list known 0 kept file v) ≡ option_map (root_planned known) (or_data later v)
  root_step file Off root later is = is
  root_step file (Data partner) root later is = is
  root_step file (Hash partner) root later is = refl

  root_from : (slot file : ℕ) (rest : List Definition)
      → root_in (map (new_note seed list known 0 kept) (enumerate_from slot (enumerate_from file rest)))
      ≡ option_map (root_planned known) (first_data rest)
  root_from slot file [] = refl
  root_from slot file (definition ∷ rest) =
      root_step file definition.verity _ (first_data rest) (root_from (slot + 1) (file + 1) rest)

module _ (number : ℕ) (list : List Definition) (image : List ℕ) (planned : Planned) (formed : IsWellFormed list) (each : All IsMade list)
    (pair : HasPair number list) (high : number ≤ 100)
    (told : planned_of (make_request (seed_of number)) list image (source_files number) ≡ Ok planned) where
  abbrev seed : Guid
  seed = seed_of number

  abbrev files : List Stored
  files = source_files number

  abbrev known : Seen → List Fact
  known seen = facts (seed_of number) (source_files number) seen.shown list

  abbrev Parts : Type 0
  Parts = (accepted 512 image Require ≡ Ok planned.seen)
      × (goal planned.seen (target_of 0 planned.seen) list (known planned.seen) seed ≡ Ok planned.plan)

  by_repair : (seen : Seen) (b : Bool) → accepted 512 image Require ≡ Ok seen
      → planned_unless b (make_request seed) list files seen ≡ Ok planned → Parts
  by_repair seen true at is = absurd (let f : ◌≡◌ {A = Result Planned Refusal} (Err repair_refusal) (Ok planned) = is in cc)
  by_repair seen false at is =
      let g = goal_by (make_request seed) list seen (known seen) planned (goal seen (target_of 0 seen) list (known seen) seed) is in
      subst (λ (s : Seen). (accepted 512 image Require ≡ Ok s) × (goal s (target_of 0 s) list (known s) seed ≡ Ok planned.plan)) (sym g.1)
      (at, g.0)

  by_seen : (r : Result Seen Refusal) → seen_of 512 Require image ≡ r
      → and_then r (λ seen. planned_unless (must_repair 0 seen) (make_request seed) list files seen) ≡ Ok planned → Parts
  by_seen (Err refusal) at is = absurd (let f : ◌≡◌ {A = Result Planned Refusal} (Err refusal) (Ok planned) = is in cc)
  by_seen (Ok seen) at is = by_repair seen (must_repair 0 seen) (accepted_of (accepted 512 image Require) seen at) is

  pub parts : Parts
  parts = by_seen (seen_of 512 Require image) refl told

  none : planned.seen.shown.rows ≡ []
  unfolding blank
  none = ap (λ (s : Seen). s.shown.rows) (seen_blank 512 image planned.seen parts.0)

  can : IsPlannable planned.seen × (planned.seen.shown.sector ≡ 512)
  can = plannable 512 image Require planned.seen (inl refl) parts.0

  aim : IsTarget planned.seen.shown.sector planned.seen.sectors (target_of 0 planned.seen)
  aim = subst (λ (s : ℕ). IsTarget s planned.seen.sectors (target_of 0 planned.seen)) (sym can.1)
      (target_is 512 0 planned.seen (inl refl) refl (omega arith)
      (subst (λ (s : ℕ). IsWhole s planned.seen.sectors) can.1 can.0.whole) can.0.most)

  -- as many rows as definitions
  pub rows_planned : length planned.plan.goal.rows ≡ length list
  rows_planned = rows_are planned.seen (target_of 0 planned.seen) list (known planned.seen) seed planned.plan none each parts.1 can.0 aim formed
      (facts_are_on planned.seen list files seed)

  pub plan_formed : IsPlan planned.seen planned.plan
  plan_formed = goal_well_formed planned.seen (target_of 0 planned.seen) list (known planned.seen) seed planned.plan can.0 aim formed
      (facts_are_on planned.seen list files seed) parts.1

  -- what is known of the source
  source_is : source_of files pair.payload ≡ source_bytes number
  source_is = ap (λ (o : Option (List ℕ)). unwrap_or (option_and_then (content files) o) []) pair.source

  fact_is : fact_of (known planned.seen) (number + 1)
      ≡ Some (record { file = number + 1; len = length (source_of files pair.payload); root = Some (root_of seed pair.payload (source_of files pair.payload)) })
  fact_is =
      fact_told seed files planned.seen.shown list (number + 1) pair.payload pair.there (all_new planned.seen.shown list (number + 1) none)
      (ap is_some pair.source)
      ∙ ap (λ (b : Bool). Some (fact_from seed files (record { file = number + 1; pair = b }) pair.payload))
      (ap (is_new_data (matched_of planned.seen.shown list)) pair.half ∙ all_new planned.seen.shown list number none)

  root_known : root_planned (known planned.seen) (number + 1) ≡ root_of seed pair.payload (source_bytes number)
  root_known =
      ap (λ (o : Option Fact). unwrap_or (option_and_then (λ (f : Fact). f.root) o) (replicate 32 0)) fact_is
      ∙ ap (root_of seed pair.payload) source_is

  blocks : pair_blocks pair.payload (length (source_bytes number)) ≡ number + 1
  blocks = blocks_are pair.payload.want.min number (length (source_bytes number)) pair.least (source_length number)

  root_so : root_of seed pair.payload (source_bytes number) ≡ root_of_number number
  root_so =
      root_is seed pair.payload (source_bytes number) (omega (arith, blocks, high))
      ∙ ap (λ (n : ℕ). root_hash (salt_of seed pair.payload.kind) (cut n (filled n (source_bytes number)))) blocks
      ∙ ap (λ (kind : Guid). root_hash (salt_of seed kind) (cut (number + 1) (filled (number + 1) (source_bytes number)))) pair.kind

  -- the root hash of its pair
  pub root_planned_is : root_in planned.plan.notes ≡ Some (root_of_number number)
  root_planned_is =
      let m = made planned.seen (target_of 0 planned.seen) list (known planned.seen) seed planned.plan none each parts.1 in
      ap root_in (notes_are planned.seen (target_of 0 planned.seen) list (known planned.seen) seed planned.plan none each parts.1)
      ∙ root_from seed list (known planned.seen) (kept_files (matched_of planned.seen.shown list) m.1.threshold list) 0 0 list
      ∙ ap (option_map (root_planned (known planned.seen))) pair.first
      ∙ ap (λ (root : List ℕ). Some root) (root_known ∙ root_so)

  -- the plan is a goal for the image by what its sources tell
  pub is_planned : TableFits planned.plan.goal → IsPlanned 512 image Require planned.seen (target_of 0 planned.seen) list
      (facts (seed_of number) (source_files number) planned.seen.shown list) (seed_of number) planned.plan
  is_planned fits = record {
    of_sector = inl refl;
    seen_of = parts.0;
    aim = subst (λ (s : ℕ). IsTarget s planned.seen.sectors (target_of 0 planned.seen)) can.1 aim;
    grows = inl (own_target planned.seen);
    definitions = formed;
    known = facts_are_on planned.seen list files seed;
    goal_is = parts.1;
    fits = fits;
  }
