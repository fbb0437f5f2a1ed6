-- Between both plans: what the first leaves of a disk, so that the second can be carried out.
use Rattle.std.proofs.Common.{◌≡◌, ◌∙◌, ℕ, ◌*◌, ◌++◌, false, filter, List, [], ◌∷◌, length, map, Option, Some, None, Ok, refl, sym, ap, subst, All}
use Rattle.std.specs.Prelude.{IfSome, zip}
use Rattle.std.proofs.lemmas.List.Elements.{All-cons, All-head, All-map, All-nil, All-tail}
use Rattle.rp_apply.specs.Called.{AreAlike, AreCallsFor, no_sources}
use Rattle.rp_apply.specs.Commits.{HasPlannedRoot, HavePlannedRoots}
use Rattle.rp_apply.specs.Sourced.{paths_of}
use Rattle.rp_base.specs.Plan.{IsWellFormed, Noted, noted_of}
use Rattle.rp_base.specs.declared.plan.Change.{Change}
use Rattle.rp_base.specs.declared.plan.Change.TheVariants.{New, Changed, Same}
use Rattle.rp_base.specs.declared.plan.Note.{Note}
use Rattle.rp_base.specs.declared.plan.Plan.{Plan}
use Rattle.rp_base.specs.declared.seen.Seen.{Seen}
use Rattle.rp_base.specs.declared.table.Row.{Row}
use Rattle.rp_defs.specs.declared.definition.Definition.{Definition}
use Rattle.rp_defs.specs.declared.definition.Definitions.{Definitions}
use Rattle.rp_disk.specs.Device.{Earlier, Known}
use Rattle.rp_disk.specs.History.{History, held}
use Rattle.rp_disk.specs.Made.{Made, Past, dones, history_of}
use Rattle.rp_disk.specs.declared.call.Call.{Call}
use Rattle.rp_disk.proofs.Noting.{can_before}
use Rattle.rp_disk.proofs.Runs.{held-all_did, history_of-dones}
use Rattle.rp_gpt.specs.declared.table_fault.Empty.{Empty}
use Rattle.rp_io.specs.declared.stored.Stored.{Stored}
use Rattle.rp_outcome.specs.Device.{Device}
use Rattle.rp_outcome.specs.Store.{Store}
use Rattle.rp_reset.proofs.Public.{all_same, reset_is}
use Rattle.rp_reset.specs.Reset.{left_note, reset as reset_of, reset_table}
use Rattle.rp_reset_stops.proofs.Given.{middle_length, old_length, own_length}
use Rattle.rp_reset_stops.specs.Through.{IsResetFor}
use Rattle.rp_step.specs.Sourced.{sources_in}
use Rattle.rp_steps.specs.Calls.{calls_of_steps, contents_calls}
use Rattle.rp_steps.specs.Contents.{NotesFit, RoleFits, Sources}
use Rattle.rp_steps.specs.Steps.{contents_steps, is_new, new_rows}
use Rattle.rp_stops.specs.After.{seen_after}
use Rattle.rp_stops.specs.Order.{AreCallsOf}
use Rattle.rp_apply_command.proofs.Called.{are_calls_for}
use Rattle.rp_apply_command.specs.Applies.{CarriesOut}
use Rattle.rp_apply_command.specs.Carrying.{HasSeenLength, HasToldRoots}
use Rattle.rp_reset_command.specs.Carrying.{CanRenew}
use Rattle.rp_reset_command.specs.Renewing.{seen_left, with_reset}
use Rattle.rp_reset_command.specs.declared.renewal.Renewal.{Renewal}

-- rows that stay aren't new
stay : (change : Change) → change ≡ Same → is_new change ≡ false
stay New e = absurd (cc)
stay Changed e = refl
stay Same e = refl

no_news : (rows : List Noted) → All (λ noted. noted.1.change ≡ Same) rows → filter (λ noted. is_new noted.1.change) rows ≡ []
no_news [] all = refl
no_news (row ∷ rows) all =
    rw (stay row.1.change (All-head (λ (noted : Noted). noted.1.change ≡ Same) row rows all))
    (no_news rows (All-tail (λ (noted : Noted). noted.1.change ≡ Same) row rows all))

no_contents : (plan : Plan) → new_rows plan ≡ [] → contents_steps plan ≡ []
unfolding contents_steps
no_contents plan none = rw none refl

none_alike : (calls others : List Call) → others ≡ [] → AreAlike calls others → calls ≡ []
none_alike [] others none alike = refl
none_alike (call ∷ calls) [] none alike = absurd alike
none_alike (call ∷ calls) (other ∷ others) none alike = absurd (cc)

module _ (seen : Seen) (list : List Definition) (reset : Plan) (made : reset_of seen list ≡ Ok (Some reset)) where
  -- the notes of a reset have no role
  pub plain_notes : NotesFit reset
  plain_notes = subst NotesFit (sym (reset_is seen list reset made))
      (All-map (λ (note : Note). RoleFits note.role) left_note (reset_table seen.shown list).rows (λ k d below. tt))

  -- nothing is written into rows
  pub no_body : (calls : List Call) (are : AreCallsFor seen reset calls) → are.body ≡ []
  no_body calls are = none_alike are.body (contents_calls reset no_sources)
      (ap (λ ss. calls_of_steps reset no_sources ss) (no_contents reset (no_news (noted_of reset) (all_same seen list reset made))))
      are.alike

  -- so the calls are those of which the law of a reset speaks
  pub reset_calls : (calls : List Call) → IsWellFormed seen reset → AreCallsFor seen reset calls → AreCallsOf seen reset [] calls
  reset_calls calls formed are =
      subst (λ (body : List Call). AreCallsOf seen reset body calls) (no_body calls are) (are_calls_for seen reset calls formed plain_notes are)

  -- a reset has no pair
  pub reset_roots : (sources : Sources) → HavePlannedRoots reset sources
  reset_roots sources = subst (λ (p : Plan). HavePlannedRoots p sources) (sym (reset_is seen list reset made)) (plain_roots _ sources (reset_table seen.shown list).rows) where
    plain_roots : (plan : Plan) (sources : Sources) (rows : List Row)
        → All (λ (noted : Noted). HasPlannedRoot plan sources noted.1.role) (zip rows (map left_note rows))
    plain_roots plan sources [] = All-nil (λ (noted : Noted). HasPlannedRoot plan sources noted.1.role)
    plain_roots plan sources (row ∷ rows) =
        All-cons (λ (noted : Noted). HasPlannedRoot plan sources noted.1.role) _ _ tt (plain_roots plan sources rows)

-- a disk has as many bytes behind the reset as before
module _ (list : List Definition) (renewal : Renewal) (reset : Plan) (disk middle : Device) (sources between : Store (List Stored))
    (is : renewal.reset ≡ Some reset) (can : CanRenew list renewal disk sources) where
  left_is : renewal.planned.seen ≡ seen_after renewal.seen reset
  left_is = can.left ∙ ap (seen_left renewal.seen) is

  abbrev ResetAt : History → Type 0
  ResetAt h = (sector : ℕ) × (empty : Empty) × IsResetFor sector (held h) empty renewal.seen list reset

  image_is : Known disk disk ResetAt
  image_is = subst (λ (r : Option Plan). IfSome r (λ plan. Known disk disk (λ h.
      (sector : ℕ) × (empty : Empty) × IsResetFor sector (held h) empty renewal.seen list plan))) is can.image

  long_by : (past : Past) (calls : List Call) → AreCallsFor renewal.seen reset calls → middle.calls ≡ disk.calls ++ dones calls
      → ResetAt (history_of past disk.calls) → length (held (history_of past middle.calls)) ≡ 512 * renewal.planned.seen.sectors
  long_by past calls are made (sector, empty, for) =
      let old = held (history_of past disk.calls) in
      let calls_are : AreCallsOf renewal.seen reset [] calls =
      reset_calls renewal.seen list reset for.reset_is calls for.plan.fits.well_formed are in
      ap (λ (l : List Made). length (held (history_of past l))) made
      ∙ ap (λ (h : History). length (held h)) (history_of-dones past disk.calls calls)
      ∙ ap length (held-all_did (history_of past disk.calls) calls)
      ∙ middle_length sector old empty renewal.seen list reset for calls calls_are
      ∙ old_length sector old empty renewal.seen list reset for
      ∙ ap (λ n. 512 * n) (sym (ap (λ (s : Seen). s.sectors) left_is ∙ own_length sector old empty renewal.seen list reset for))

  pub length_between : (definitions : Definitions) → CarriesOut definitions (with_reset renewal reset) disk middle sources between (Ok tt)
      → HasSeenLength renewal.planned middle
  length_between definitions carries = λ past possible.
      let made = carries.runs (Some past) possible in
      long_by past made.0 made.1.are made.1.ran.ok (image_is past (can_before carries.earlier possible))

  -- and what is planned behind it has the root hashes of its sources
  pub roots_between : Earlier disk middle → between.told ≡ sources.told → HasToldRoots list renewal.planned middle between
  roots_between earlier told = λ past possible.
      subst (λ (t : Option (List Stored)). IfSome t (λ files. HavePlannedRoots renewal.planned.plan (sources_in files (paths_of list))))
      (sym told) (can.roots past (can_before earlier possible))

-- what the reset needs itself
pub first_length : (list : List Definition) (renewal : Renewal) (reset : Plan) (disk : Device) (sources : Store (List Stored))
    → CanRenew list renewal disk sources → HasSeenLength (with_reset renewal reset) disk
first_length list renewal reset disk sources can = can.len

pub first_roots : (list : List Definition) (renewal : Renewal) (reset : Plan) (disk : Device) (sources : Store (List Stored))
    → renewal.reset ≡ Some reset → reset_of renewal.seen list ≡ Ok renewal.reset → HasToldRoots list (with_reset renewal reset) disk sources
first_roots list renewal reset disk sources is made = λ past can. by sources.told where
  by : (t : Option (List Stored)) → IfSome t (λ files. HavePlannedRoots reset (sources_in files (paths_of list)))
  by None = tt
  by (Some files) = reset_roots renewal.seen list reset (made ∙ ap (λ (r : Option Plan). Ok r) is) (sources_in files (paths_of list))

-- where no row is taken out, what was seen is planned for
pub alone_length : (list : List Definition) (renewal : Renewal) (disk : Device) (sources : Store (List Stored)) → renewal.reset ≡ None
    → CanRenew list renewal disk sources → HasSeenLength renewal.planned disk
alone_length list renewal disk sources is can =
    subst (λ (s : Seen). Known disk disk (λ h. length (held h) ≡ 512 * s.sectors)) (sym (can.left ∙ ap (seen_left renewal.seen) is)) can.len
