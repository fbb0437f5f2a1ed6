-- The summary of a run that is done.
use Rattle.std.proofs.Common.{ℕ, ◌≡◌, ◌≤◌, ◌∙◌, ◌+◌, ◌++◌, Bool, true, false, List, [], ◌∷◌, Option, Some, Result, Ok, All, length, refl, sym, ap, subst, append_assoc, cond, zero-add}
use Rattle.std.specs.Prelude.{IfSome, codes, count_by, nat_lt}
use Rattle.std.proofs.lemmas.List.Sums.{sum_by-append}
use Rattle.hex.specs.Hex.{encode_lower}
use Rattle.rp_apply_command.proofs.Goals.{is_told, told_same}
use Rattle.rp_apply.specs.Sourced.{paths_of}
use Rattle.rp_base.specs.declared.plan.Plan.{Plan}
use Rattle.rp_check_command.specs.Reports.{same_line}
use Rattle.rp_defs.specs.declared.definition.Definitions.{Definitions}
use Rattle.rp_disk.specs.Calls.{is_write}
use Rattle.rp_disk.specs.Device.{CanHave}
use Rattle.rp_disk.specs.History.{held}
use Rattle.rp_disk.specs.Made.{Made, Past, dones, history_of}
use Rattle.rp_disk.specs.declared.call.Call.{Call}
use Rattle.rp_disk.specs.declared.call.Call.TheVariants.{SetLen, Sync}
use Rattle.rp_disk.proofs.Noting.{can_before}
use Rattle.rp_disk.proofs.Runs.{more}
use Rattle.rp_io.specs.declared.stored.Stored.{Stored}
use Rattle.rp_make_command.specs.Makes.{Makes, made_store, make_request}
use Rattle.rp_make_command.specs.Summary.{counts_text, front_of, root_in, root_text}
use Rattle.rp_make_definitions.specs.Made.{HasDefinitions, HasPair, IsMade}
use Rattle.rp_make_definitions.proofs.Known.{has_definitions}
use Rattle.rp_make_input.specs.MakeInput.{seed_of, source_files}
use Rattle.rp_make_room.specs.Room.{growth_calls, length_made}
use Rattle.rp_outcome.specs.Device.{Device}
use Rattle.rp_outcome.specs.Output.{Output, PrintsAll}
use Rattle.rp_outcome.specs.Refusals.{Refusal}
use Rattle.rp_planned.specs.Planning.{planned_of}
use Rattle.rp_step.specs.Sourced.{sources_in}
use Rattle.rp_steps.specs.Calls.{calls as calls_for}
use Rattle.rp_steps.specs.Steps.{steps}
use Rattle.rp_steps.specs.Writes.{writes}
use Rattle.rp_steps.proofs.Called.{writes-calls}
use Rattle.rp_make_promise.specs.Told.{TellsSummary, root_of_number, summary_of}
use Rattle.rp_make_promise.proofs.Planned.{plan_formed, root_planned_is, rows_planned}
use Rattle.rp_make_promise.proofs.Went.{Went, went}

same_definitions : (a b : Definitions) → ◌≡◌ {A = Result Definitions Refusal} (Ok a) (Ok b) → a ≡ b
same_definitions a b e = cc

-- the front of a plan with so many rows and this root hash
front_is : (number count rows : ℕ) (root : List ℕ) (plan : Plan) → length plan.goal.rows ≡ rows
    → root_in plan.notes ≡ Some root
    → front_of number plan count ++ same_line ≡ counts_text number rows count ++ encode_lower root ++ codes " check ok\n"
unfolding front_of
front_is number count rows root plan counted rooted =
    ap (λ (n : ℕ). (counts_text number n count ++ root_text (root_in plan.notes) ++ codes " check ") ++ same_line) counted
    ∙ ap (λ (o : Option (List ℕ)). (counts_text number rows count ++ root_text o ++ codes " check ") ++ same_line) rooted
    ∙ append_assoc (counts_text number rows count ++ encode_lower root) (codes " check ") same_line

-- neither syncs nor growth are writes
no_writes : (b : Bool) → count_by is_write (Sync ∷ cond b (SetLen length_made ∷ Sync ∷ []) []) ≡ 0
no_writes true = refl
no_writes false = refl

writes_behind : (len : ℕ) (calls : List Call) → count_by is_write ((Sync ∷ growth_calls len) ++ calls) ≡ count_by is_write calls
writes_behind len calls =
    sum_by-append (λ (call : Call). cond (is_write call) 1 0) (Sync ∷ growth_calls len) calls
    ∙ ap (λ (n : ℕ). n + count_by is_write calls) (no_writes (nat_lt len length_made)) ∙ zero-add (count_by is_write calls)

module _ (number : ℕ) (disk later : Device) (out after : Output) (high : number ≤ 100) (w : Went number disk later out after)
    (past : Past) (can : CanHave past later) where
  abbrev files : List Stored
  files = source_files number

  abbrev image : List ℕ
  image = held (history_of past w.grown.calls)

  pub has : HasDefinitions number
  has = has_definitions number high

  same : has.definitions ≡ w.definitions
  same = same_definitions has.definitions w.definitions (sym has.are ∙ w.are)

  pub each : All IsMade w.definitions.list
  each = subst (λ (d : Definitions). All IsMade d.list) same has.each

  pub pair : HasPair number w.definitions.list
  pair = subst (λ (d : Definitions). HasPair number d.list) same has.pair

  count : length w.definitions.list ≡ number + 2
  count = subst (λ (d : Definitions). length d.list ≡ number + 2) same has.count

  -- the past is one that the disk could have once the plan was carried out
  pub now : CanHave past w.made
  now = can_before w.since can

  -- what was planned is the goal of the image that was grown
  pub told : planned_of (make_request (seed_of number)) w.definitions.list image files ≡ Ok w.planned
  told = is_told (make_request (seed_of number)) w.definitions.list w.grown w.seen (made_store files) w.asked w.planned w.plans past
      (can_before w.carries.earlier now)

  -- the calls that were made of it
  abbrev calls : List Call
  calls = (w.carries.runs (Some past) now).0

  -- they are those of its steps
  pub exact : calls ≡ calls_for w.planned.plan w.planned.seen (sources_in files (paths_of w.definitions.list))
  exact =
      let P : List Stored → Type 0 = λ stored.
      (calls ≡ calls_for w.planned.plan w.planned.seen (sources_in stored (paths_of w.definitions.list))) × Unit {0} in
      (subst (λ (o : Option (List Stored)). IfSome o P)
      (told_same (make_request (seed_of number)) w.definitions.list w.grown w.seen (made_store files) w.asked w.planned w.plans)
      (w.carries.runs (Some past) now).1.exact).0

  -- all calls since the start
  pub grown_by : w.grown.calls ≡ disk.calls ++ dones ((Sync ∷ []) ++ growth_calls w.len)
  grown_by = more disk.calls w.opened.calls w.grown.calls (Sync ∷ []) (growth_calls w.len) w.opens.ran.ok
      (w.grows.ran.ok ∙ ap (λ (l : List Made). l ++ dones (growth_calls w.len)) w.looks.only_read.calls)

  pub made_all : later.calls ≡ disk.calls ++ dones ((Sync ∷ growth_calls w.len) ++ calls)
  made_all = more disk.calls w.seen.calls later.calls (Sync ∷ growth_calls w.len) calls (w.plans.1.only_read.calls ∙ grown_by)
      (w.same ∙ (w.carries.runs (Some past) now).1.ran.ok)

  counted : writes (steps w.planned.plan w.planned.seen) ≡ count_by is_write ((Sync ∷ growth_calls w.len) ++ calls)
  counted =
      sym (writes_behind w.len calls ∙ ap (count_by is_write) exact
      ∙ writes-calls w.planned.plan (sources_in files (paths_of w.definitions.list)) w.planned.seen
      (plan_formed number w.definitions.list image w.planned w.formed each pair high told))

  pub summed : TellsSummary number disk later out after
  summed = record {
    calls = (Sync ∷ growth_calls w.len) ++ calls;
    made = made_all;
    printed = subst (PrintsAll out after)
        (front_is number (writes (steps w.planned.plan w.planned.seen)) (number + 2) (root_of_number number) w.planned.plan
        (rows_planned number w.definitions.list image w.planned w.formed each pair high told ∙ count)
        (root_planned_is number w.definitions.list image w.planned w.formed each pair high told)
        ∙ ap (summary_of number) counted) w.printed;
  }

-- whatever it made
pub tells_so : (number : ℕ) (disk later : Device) (out after : Output) (status : ℕ) → number ≤ 100
    → Makes number disk later out after status → (past : Past) → CanHave past later → status ≡ 0
    → TellsSummary number disk later out after
tells_so number disk later out after status high makes past can done =
    summed number disk later out after high (went number disk later out after status done makes) past can
