-- What a run of `make` leaves, by how far it came.
use Rattle.std.proofs.Common.{ℕ, ◌≡◌, ◌⊎◌, ◌∙◌, ◌++◌, Bool, true, false, cond, List, [], ◌∷◌, Option, Some, Result, Ok, length, refl, sym, ap, subst, inl, inr, append_assoc, arith}
use Rattle.std.specs.Prelude.{nat_lt}
use Rattle.rp_apply_command.specs.Ends.{AtEachMoment, AtTheEnd, CarriesAll, Given}
use Rattle.rp_apply_command.proofs.Moments.{carries_all}
use Rattle.rp_apply_command.proofs.Runs.{same_shown}
use Rattle.rp_defs.specs.declared.definition.Definition.{Definition}
use Rattle.rp_defs.specs.declared.definition.Definitions.{Definitions}
use Rattle.rp_disk.specs.Device.{CanHave}
use Rattle.rp_disk.specs.History.{IsSettled, MayLeave, held, pending_calls}
use Rattle.rp_disk.specs.Made.{Made, Past, dones, history_of}
use Rattle.rp_disk.specs.Runs.{MadeFirst}
use Rattle.rp_disk.specs.Stops.{Agrees, IsFrontOf, Leaves}
use Rattle.rp_disk.specs.declared.call.Call.{Call}
use Rattle.rp_disk.specs.declared.call.Call.TheVariants.{SetLen, Sync}
use Rattle.rp_disk.proofs.Agreeing.{agrees-same}
use Rattle.rp_disk.proofs.Noting.{can_before}
use Rattle.rp_disk.proofs.Runs.{any_moment_behind_sync, dones-append, more}
use Rattle.rp_gpt.specs.declared.table_fault.Empty.TheVariants.{Require}
use Rattle.rp_headline.specs.Left.{IsDoneWith}
use Rattle.rp_headline.proofs.Public.{are_calls_of, rows_filled}
use Rattle.rp_idle.proofs.Public.{plan_for}
use Rattle.rp_io.specs.declared.stored.Stored.{Stored}
use Rattle.rp_make_command.specs.Makes.{Makes, made_store, make_request}
use Rattle.rp_make_input.specs.MakeInput.{seed_of, source_files}
use Rattle.rp_make_room.specs.Room.{growth_calls, length_made, room_in}
use Rattle.rp_outcome.specs.Device.{Device}
use Rattle.rp_outcome.specs.Output.{Output}
use Rattle.rp_outcome.specs.Refusals.{Refusal}
use Rattle.rp_planned.specs.Planning.{target_of}
use Rattle.rp_planned.specs.declared.planned.Planned.{Planned}
use Rattle.rp_steps.specs.Calls.{calls as calls_for, contents_calls}
use Rattle.rp_steps.specs.Contents.{Sources}
use Rattle.rp_stops.specs.Final.{IsFinal}
use Rattle.rp_stops.specs.Honest.{IsTornHonest}
use Rattle.rp_stops.specs.Safe.{IsSafe}
use Rattle.rp_stops.proofs.Carried.{alone}
use Rattle.rp_stops.proofs.Whole.{whole_sectors-honest}
use Rattle.rp_make_promise.specs.Leaves.{IsLeftInMaking, LeavesGoal, calls_behind, calls_planned, contents_for, grown_image, make_calls, planned_for}
use Rattle.rp_make_promise.proofs.Reached.{Carried, Reached, exact, planned_so, reached, room_told}
use Rattle.rp_make_promise.proofs.Room.{held_grown, longer, room_length, same_grown}
use Rattle.rp_make_promise.proofs.Went.{Went, went}

-- the calls of an image that may be grown
calls_grown : (number : ℕ) (old : List ℕ) (len : ℕ) → room_in old ≡ Ok len
    → make_calls number old ≡ (Sync ∷ growth_calls len) ++ calls_planned number (planned_for number (grown_image old))
calls_grown number old len room = ap (λ (r : Result ℕ Refusal). Sync ∷ calls_behind number old r) room

calls_carried : (number : ℕ) (old : List ℕ) (len : ℕ) (definitions : Definitions) (planned : Planned) → room_in old ≡ Ok len
    → planned_for number (grown_image old) ≡ Ok (definitions, planned)
    → make_calls number old ≡ (Sync ∷ growth_calls len) ++ calls_for planned.plan planned.seen (Given definitions.list (source_files number))
calls_carried number old len definitions planned room goal =
    calls_grown number old len room
    ∙ ap (λ (r : Result (Definitions × Planned) Refusal). (Sync ∷ growth_calls len) ++ calls_planned number r) goal

-- the first of the calls that make it were made
called_so : (number : ℕ) (old : List ℕ) (before now : List Made) → Reached number old before now → MadeFirst before (make_calls number old) now
called_so number old before now (inl made) = longer before now (Sync ∷ []) (calls_behind number old (room_in old)) made
called_so number old before now (inr (inl (len, room, made))) =
    subst (λ (l : List Call). MadeFirst before l now) (sym (calls_grown number old len room))
    (longer before now (Sync ∷ growth_calls len) (calls_planned number (planned_for number (grown_image old))) made)
called_so number old before now (inr (inr c)) =
    subst (λ (l : List Call). MadeFirst before l now) (sym (calls_carried number old c.len c.definitions c.planned c.room c.goal)) c.made

-- the front of none is the front of any
front_of_none : (more any : List Call) → IsFrontOf more [] → IsFrontOf more any
front_of_none more any front =
    (front.0 ++ any, sym (append_assoc more front.0 any) ∙ ap (λ (l : List Call). l ++ any) front.1)

-- calls that begin a growth and more are within it, or behind it
abbrev Splits : List Call → List Call → List Call → Type 0
Splits more growth calls = IsFrontOf more growth ⊎ ((rest : List Call) × (more ≡ growth ++ rest) × IsFrontOf rest calls)

same_head : (a b : Call) (x y : List Call) → ◌≡◌ {A = List Call} (a ∷ x) (b ∷ y) → a ≡ b
same_head a b x y e = cc

same_tail : (a b : Call) (x y : List Call) → ◌≡◌ {A = List Call} (a ∷ x) (b ∷ y) → x ≡ y
same_tail a b x y e = cc

splits : (more growth calls : List Call) → IsFrontOf more (growth ++ calls) → Splits more growth calls
splits more [] calls front = inr (more, refl, front)
splits [] (call ∷ growth) calls front = inl (call ∷ growth, refl)
splits (one ∷ more) (call ∷ growth) calls (rest, e) = later (splits more growth calls (rest, same_tail one call (more ++ rest) (growth ++ calls) e)) where
  same : one ≡ call
  same = same_head one call (more ++ rest) (growth ++ calls) e

  later : Splits more growth calls → Splits (one ∷ more) (call ∷ growth) calls
  later (inl within) =
      inl (within.0, ap (λ (c : Call). c ∷ (more ++ within.0)) same ∙ ap (λ (l : List Call). call ∷ l) within.1)
  later (inr (behind, is, front)) =
      inr (behind, ap (λ (c : Call). c ∷ more) same ∙ ap (λ (l : List Call). call ∷ l) is, front)

-- behind the growth its image is certain
leaves_grown : (b : Bool) (old image : List ℕ) (rest : List Call) → (b ≡ false → grown_image old ≡ old)
    → Leaves old (cond b (SetLen length_made ∷ Sync ∷ []) [] ++ rest) image → Leaves (grown_image old) rest image
leaves_grown true old image rest same left = left
leaves_grown false old image rest same left = subst (λ (i : List ℕ). Leaves i rest image) (sym (same refl)) left

module _ (number : ℕ) (old : List ℕ) (before now : List Made) (c : Carried number old before now) where
  abbrev list : List Definition
  list = c.definitions.list

  abbrev given : Sources
  given = Given c.definitions.list (source_files number)

  len : c.len ≡ length old
  len = room_length old c.len c.room

  -- behind the growth a stop leaves no table or the goal
  behind_growth : (rest : List Call) (image : List ℕ) → IsFrontOf rest (calls_for c.planned.plan c.planned.seen given)
      → Leaves (grown_image old) rest image → IsTornHonest 512 (grown_image old) rest image
      → IsSafe 512 (grown_image old) c.planned.seen c.planned.plan (contents_for number (grown_image old) c.definitions c.planned) image
  behind_growth rest image front left honest =
      let target = target_of 0 c.planned.seen in
      (alone 512 (grown_image old) Require c.planned.seen c.planned.plan (contents_calls c.planned.plan given)
      (calls_for c.planned.plan c.planned.seen given) rest image
      (plan_for 512 (grown_image old) Require c.planned.seen target list c.known.0 (seed_of number) c.planned.plan c.known.1)
      (are_calls_of 512 (grown_image old) Require c.planned.seen target list c.known.0 (seed_of number) c.planned.plan c.known.1 given c.fits.notes)
      front left honest).holds (contents_for number (grown_image old) c.definitions c.planned)
      (rows_filled 512 (grown_image old) Require c.planned.seen target list c.known.0 (seed_of number) c.planned.plan c.known.1 given c.fits.notes)

  left_so : (more : List Call) (image : List ℕ)
      → IsFrontOf more (growth_calls c.len ++ calls_for c.planned.plan c.planned.seen given) → Leaves old more image
      → IsLeftInMaking number old more image
  left_so more image front left = by (splits more (growth_calls c.len) (calls_for c.planned.plan c.planned.seen given) front) where
    by : Splits more (growth_calls c.len) (calls_for c.planned.plan c.planned.seen given) → IsLeftInMaking number old more image
    by (inl within) = inl (subst (λ (n : ℕ). IsFrontOf more (growth_calls n)) len within, left)
    by (inr (rest, is, front)) =
        let after : Leaves (grown_image old) rest image =
        leaves_grown (nat_lt c.len length_made) old image rest (same_grown old c.len len c.short)
        (subst (λ (l : List Call). Leaves old l image) is left) in
        inr (record {
          definitions = c.definitions;
          planned = c.planned;
          goal = c.goal;
          rest = rest;
          behind = is ∙ ap (λ (n : ℕ). growth_calls n ++ rest) len;
          honest = behind_growth rest image front after;
          whole = λ whole. behind_growth rest image front after (whole_sectors-honest 512 (grown_image old) rest image after whole);
        })

-- what a stop at any moment might have left
left_in : (number : ℕ) (past : Past) (disk later : Device)
    → Reached number (held (history_of past disk.calls)) disk.calls later.calls
    → AtEachMoment past disk later (IsLeftInMaking number (held (history_of past disk.calls)))
left_in number past disk later (inl reached) = λ made image since.
    elim (any_moment_behind_sync disk.calls later.calls [] reached past made image since) [
      | inl before ↦ inl before
      | inr (rest, is, front, left) ↦ inr (rest, is, left, inl (front_of_none rest (growth_calls (length (held (history_of past disk.calls)))) front, left))
    ]
left_in number past disk later (inr (inl (len, room, reached))) = λ made image since.
    elim (any_moment_behind_sync disk.calls later.calls (growth_calls len) reached past made image since) [
      | inl before ↦ inl before
      | inr (rest, is, front, left) ↦
          inr (
            rest,
            is,
            left,
            inl (subst (λ (n : ℕ). IsFrontOf rest (growth_calls n)) (room_length (held (history_of past disk.calls)) len room) front, left),
          )
    ]
left_in number past disk later (inr (inr c)) = λ made image since.
    elim (any_moment_behind_sync disk.calls later.calls
    (growth_calls c.len ++ calls_for c.planned.plan c.planned.seen (Given c.definitions.list (source_files number))) c.made past made image since) [
      | inl before ↦ inl before
      | inr (rest, is, front, left) ↦
          inr (rest, is, left, left_so number (held (history_of past disk.calls)) disk.calls later.calls c rest image front left)
    ]

-- a growth and its sync
abbrev growth_before : Bool → List Call
growth_before b = cond b (Sync ∷ SetLen length_made ∷ []) []

one_sync : (b : Bool) → Sync ∷ cond b (SetLen length_made ∷ Sync ∷ []) [] ≡ growth_before b ++ Sync ∷ []
one_sync true = refl
one_sync false = refl

module _ (number : ℕ) (disk later : Device) (out after : Output) (status : ℕ) (past : Past) (can : CanHave past later)
    (w : Went number disk later out after) where
  abbrev old : List ℕ
  old = held (history_of past disk.calls)

  abbrev files : List Stored
  files = source_files number

  -- the past is one that the disk could have once the plan was carried out, and at each stage before
  now : CanHave past w.made
  now = can_before w.since can

  room : room_in old ≡ Ok w.len
  room = room_told number disk later out after status past can w.definitions w.are w.formed w.opened w.opens w.looked w.len w.looks
      (can_before w.grows.earlier (can_before w.plans.1.only_read.earlier (can_before w.carries.earlier now)))

  behind : w.grown.calls ≡ disk.calls ++ dones (Sync ∷ growth_calls w.len)
  behind = more disk.calls w.looked.calls w.grown.calls (Sync ∷ []) (growth_calls w.len) (w.looks.only_read.calls ∙ w.opens.ran.ok) w.grows.ran.ok

  goal : planned_for number (grown_image old) ≡ Ok (w.definitions, w.planned)
  goal = planned_so number disk later out after status past can w.definitions w.are w.formed w.len room w.looks.short w.grown behind w.left
      w.seen w.made w.asked w.left w.planned (Ok tt) w.plans w.fits w.carries now

  abbrev calls : List Call
  calls = (w.carries.runs (Some past) now).0

  calls_are : calls ≡ calls_for w.planned.plan w.planned.seen (Given w.definitions.list files)
  calls_are = exact number disk later out after status past can w.definitions w.are w.formed w.len room w.looks.short w.grown behind w.left
      w.seen w.made w.asked w.left w.planned (Ok tt) w.plans w.fits w.carries now

  -- the disk before the last sync of the growth
  abbrev mid : Device
  mid = record { calls = disk.calls ++ dones (growth_before (nat_lt w.len length_made)); answers = []; faults = 0 }

  synced : w.grown.calls ≡ mid.calls ++ dones (Sync ∷ [])
  synced =
      behind ∙ ap (λ (l : List Call). disk.calls ++ dones l) (one_sync (nat_lt w.len length_made))
      ∙ ap (λ (l : List Made). disk.calls ++ l) (dones-append (growth_before (nat_lt w.len length_made)) (Sync ∷ []))
      ∙ sym (append_assoc disk.calls (dones (growth_before (nat_lt w.len length_made))) (dones (Sync ∷ [])))

  shown : held (history_of past mid.calls) ≡ grown_image old
  shown =
      sym (same_shown past mid.calls) ∙ ap (λ (l : List Made). held (history_of past l)) (sym synced)
      ∙ held_grown past disk.calls w.grown.calls w.len behind (room_length old w.len room) w.looks.short

  abbrev Done : List ℕ → List ℕ → Type 0
  Done grown image = IsDoneWith 512 grown w.planned.seen w.definitions.list (seed_of number) w.planned.plan
      (contents_for number grown w.definitions w.planned) image

  whole : (made : List Call) × CarriesAll (make_request (seed_of number)) w.definitions.list mid w.made (made_store (source_files number))
      w.planned (Some past) made
  whole = carries_all (make_request (seed_of number)) w.definitions mid w.grown w.seen w.made (made_store files) w.asked w.left w.planned
      (inl refl) refl (omega arith) w.formed w.fits synced w.plans w.carries (Some past) now

  ends : AtTheEnd past later (Done (grown_image old))
  ends =
      subst (λ (l : List Made). (image : List ℕ) → MayLeave (history_of past l) image → Done (grown_image old) image) (sym w.same)
      (subst (λ (grown : List ℕ). AtTheEnd past w.made (Done grown)) shown whole.1.ends_exactly)

  -- nothing is pending, and the image is the final one
  settled : IsSettled (history_of past w.made.calls)
  settled = whole.1.settled

  shown_left : MayLeave (history_of past w.made.calls) (held (history_of past w.made.calls))
  shown_left =
      let h = history_of past w.made.calls in
      subst (λ (image : List ℕ). Agrees image (pending_calls h) (held h)) (sym settled.bytes) (agrees-same (held h) (pending_calls h))

  pub final_end : IsFinal (grown_image old) w.planned.seen w.planned.plan (contents_for number (grown_image old) w.definitions w.planned)
      (held (history_of past later.calls))
  final_end =
      (ends (held (history_of past later.calls))
      (subst (λ (l : List Made). MayLeave (history_of past l) (held (history_of past l))) (sym w.same) shown_left)).final

  pub leaves_goal : LeavesGoal number disk later past
  leaves_goal = record {
    definitions = w.definitions;
    planned = w.planned;
    goal = goal;
    all =
        more disk.calls w.seen.calls later.calls (Sync ∷ growth_calls w.len) calls (w.plans.1.only_read.calls ∙ behind)
        (w.same ∙ (w.carries.runs (Some past) now).1.ran.ok)
        ∙ ap (λ (l : List Call). disk.calls ++ dones ((Sync ∷ growth_calls w.len) ++ l)) calls_are
        ∙ ap (λ (l : List Call). disk.calls ++ dones l) (sym (calls_carried number old w.len w.definitions w.planned room goal));
    ends = ends;
  }

-- at every status
pub makes_first : (number : ℕ) (disk later : Device) (out after : Output) (status : ℕ) → Makes number disk later out after status
    → (past : Past) → CanHave past later → MadeFirst disk.calls (make_calls number (held (history_of past disk.calls))) later.calls
makes_first number disk later out after status makes past can =
    called_so number (held (history_of past disk.calls)) disk.calls later.calls (reached number disk later out after status past can makes)

pub leaves_in : (number : ℕ) (disk later : Device) (out after : Output) (status : ℕ) → Makes number disk later out after status
    → (past : Past) → CanHave past later
    → AtEachMoment past disk later (IsLeftInMaking number (held (history_of past disk.calls)))
leaves_in number disk later out after status makes past can =
    left_in number past disk later (reached number disk later out after status past can makes)

-- where it is done
pub leaves_so : (number : ℕ) (disk later : Device) (out after : Output) (status : ℕ) → Makes number disk later out after status
    → (past : Past) → CanHave past later → status ≡ 0 → LeavesGoal number disk later past
leaves_so number disk later out after status makes past can done =
    leaves_goal number disk later out after status past can (went number disk later out after status done makes)
