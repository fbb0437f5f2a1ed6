-- The image that is grown, and the calls since the start.
use Rattle.std.proofs.Common.{◌≡◌, ◌∙◌, ℕ, ◌≤◌, Bool, true, false, cond, List, [], ◌∷◌, ◌++◌, length, Result, Ok, Err, arith, refl, sym, ap, append_assoc}
use Rattle.std.specs.Prelude.{nat_lt}
use Rattle.std.proofs.lemmas.Bool.{ltb-false}
use Rattle.rp_base.specs.declared.seen.Seen.{Seen}
use Rattle.rp_disk.specs.Calls.{all_done, resized}
use Rattle.rp_disk.specs.History.{held}
use Rattle.rp_disk.specs.Made.{Made, Past, dones, history_of}
use Rattle.rp_disk.specs.Runs.{MadeFirst}
use Rattle.rp_disk.specs.declared.call.Call.{Call}
use Rattle.rp_disk.specs.declared.call.Call.TheVariants.{SetLen, Sync}
use Rattle.rp_disk.proofs.Runs.{are_all, first_of_longer, first_of_more, held-all_did, history_of-dones}
use Rattle.rp_gpt.specs.Shown.{accepted}
use Rattle.rp_gpt.specs.declared.table_fault.Empty.TheVariants.{Require}
use Rattle.rp_gpt.specs.declared.table_fault.TableFault.{TableFault}
use Rattle.rp_gpt.specs.declared.table_fault.TableFault.TheVariants as faults
use Rattle.rp_make_room.specs.Room.{growth_calls, is_few, is_looked_at, judged, length_made, length_refusal, room_in}
use Rattle.rp_outcome.specs.Refusals.{Refusal, table_refusal}
use Rattle.rp_roots.proofs.Over.{own_length}
use Rattle.rp_make_promise.specs.Leaves.{grown_image}

same_ok : (a b : ℕ) → ◌≡◌ {A = Result ℕ Refusal} (Ok a) (Ok b) → b ≡ a
same_ok a b e = cc

no_err : {P : Type 0} (refusal : Refusal) (n : ℕ) → ◌≡◌ {A = Result ℕ Refusal} (Err refusal) (Ok n) → P
no_err refusal n e = absurd (cc)

either : (b : Bool) (len n : ℕ) (refusal : Refusal) → cond b (Ok len) (Err refusal) ≡ Ok n → n ≡ len
either true len n refusal e = same_ok len n e
either false len n refusal e = no_err refusal n e

-- an image that may be grown is told by its length
judged_as : (len n : ℕ) (r : Result Seen TableFault) → judged len r ≡ Ok n → n ≡ len
judged_as len n (Ok seen) e = same_ok len n e
judged_as len n (Err (faults.TooShort found)) e = either (is_few found) len n (table_refusal (faults.TooShort found)) e
judged_as len n (Err faults.Disk) e = no_err (table_refusal faults.Disk) n e
judged_as len n (Err (faults.TooLong found)) e = no_err (table_refusal (faults.TooLong found)) n e
judged_as len n (Err faults.ArrayPlace) e = no_err (table_refusal faults.ArrayPlace) n e
judged_as len n (Err (faults.EntryCount count size)) e = no_err (table_refusal (faults.EntryCount count size)) n e
judged_as len n (Err (faults.OtherTable kind)) e = no_err (table_refusal (faults.OtherTable kind)) n e
judged_as len n (Err faults.NoTable) e = no_err (table_refusal faults.NoTable) n e
judged_as len n (Err faults.NotEmpty) e = no_err (table_refusal faults.NotEmpty) n e
judged_as len n (Err (faults.Bounds low last)) e = no_err (table_refusal (faults.Bounds low last)) n e
judged_as len n (Err (faults.RowRange slot)) e = no_err (table_refusal (faults.RowRange slot)) n e
judged_as len n (Err (faults.Overlap a b)) e = no_err (table_refusal (faults.Overlap a b)) n e
judged_as len n (Err faults.Memory) e = no_err (table_refusal faults.Memory) n e

looked_as : (b : Bool) (len n : ℕ) (r : Result Seen TableFault) → cond b (judged len r) (Ok len) ≡ Ok n → n ≡ len
looked_as true len n r e = judged_as len n r e
looked_as false len n r e = same_ok len n e

room_as : (b : Bool) (len n : ℕ) (refusal : Refusal) (rest : Result ℕ Refusal) → (rest ≡ Ok n → n ≡ len) → cond b (Err refusal) rest ≡ Ok n
    → n ≡ len
room_as true len n refusal rest then e = no_err refusal n e
room_as false len n refusal rest then e = then e

pub room_length : (image : List ℕ) (n : ℕ) → room_in image ≡ Ok n → n ≡ length image
room_length image n is =
    room_as (nat_lt length_made (length image)) (length image) n (length_refusal (length image)) _
    (looked_as (is_looked_at (length image)) (length image) n (accepted 512 image Require)) is

-- its calls make it so long
grown_so : (b : Bool) (old : List ℕ) → (b ≡ false → length old ≡ length_made)
    → all_done old (Sync ∷ cond b (SetLen length_made ∷ Sync ∷ []) []) ≡ grown_image old
grown_so true old long = refl
grown_so false old long = sym (ap (resized old) (sym (long refl)) ∙ own_length old)

pub grown_is : (old : List ℕ) (len : ℕ) → len ≡ length old → len ≤ length_made → all_done old (Sync ∷ growth_calls len) ≡ grown_image old
grown_is old len is short =
    grown_so (nat_lt len length_made) old (λ e. let least = ltb-false len length_made e in omega (arith, least, short, is))

-- one that has this length stays
pub same_grown : (old : List ℕ) (len : ℕ) → len ≡ length old → len ≤ length_made → nat_lt len length_made ≡ false → grown_image old ≡ old
same_grown old len is short e =
    let least = ltb-false len length_made e in
    sym (grown_so false old (λ none. omega (arith, least, short, is)))

-- the image shown behind them
pub held_grown : (past : Past) (old now : List Made) (len : ℕ) → now ≡ old ++ dones (Sync ∷ growth_calls len)
    → len ≡ length (held (history_of past old)) → len ≤ length_made → held (history_of past now) ≡ grown_image (held (history_of past old))
held_grown past old now len made is short =
    ap (λ (l : List Made). held (history_of past l)) made ∙ ap held (history_of-dones past old (Sync ∷ growth_calls len))
    ∙ held-all_did (history_of past old) (Sync ∷ growth_calls len) ∙ grown_is (held (history_of past old)) len is short

-- the first calls of a longer plan
pub longer : (old new : List Made) (plan rest : List Call) → MadeFirst old plan new → MadeFirst old (plan ++ rest) new
longer old new plan rest made = (made.0, first_of_longer made.0 plan rest made.1, made.2)

pub behind_all : (old mid new : List Made) (calls plan : List Call) → mid ≡ old ++ dones calls → MadeFirst mid plan new
    → MadeFirst old (calls ++ plan) new
behind_all old mid new calls plan is made = (
  dones calls ++ made.0,
  first_of_more calls made.0 plan made.1,
  made.2 ∙ ap (λ (l : List Made). l ++ made.0) is ∙ append_assoc old (dones calls) made.0,
)

pub made_whole : (old new : List Made) (plan : List Call) → new ≡ old ++ dones plan → MadeFirst old plan new
made_whole old new plan is = (dones plan, are_all plan, is)
