-- The law of a disk: from its history to lists of calls.
use Rattle.std.proofs.Common.{ℕ, List, [], ◌∷◌, ◌++◌, ◌≡◌, ◌+◌, ◌≤◌, nat_le, true, false, cond, refl, sym, ◌∙◌, ap, subst, inl, inr, ⊎_elim, arith, append_assoc, append-nil}
use Rattle.std.proofs.lemmas.Bool.Decides.{nat_tests}
use Rattle.rp_disk.specs.declared.call.Call.{Call}
use Rattle.rp_disk.specs.declared.call.Call.TheVariants.{Write, Sync, SetLen}
use Rattle.rp_disk.specs.Calls.{done, all_done, is_sync, settled, pending}
use Rattle.rp_disk.specs.Stops.{Agrees, Leaves, IsFrontOf}
use Rattle.rp_disk.specs.History.{History, Start, Did, Failed, held, moment, settled_bytes, pending_calls, and_failed, made_since, MayLeave, LeftNow, LeftSince, IsSettled, all_did}
use Rattle.rp_disk.specs.Runs.{Went}
use Rattle.rp_disk.proofs.Agreeing.{agrees-none}
use Rattle.rp_disk.proofs.Pushing.{all_done-more, settled-sync, settled-other, pending-sync, pending-other}

-- where nothing is pending a stop leaves the bytes shown and nothing else
pub settled_leaves : (history : History) (image : List ℕ) → IsSettled history → MayLeave history image → image ≡ held history
settled_leaves history image settled may =
    agrees-none (settled_bytes history) image (subst (λ (l : List Call). Agrees (settled_bytes history) l image) settled.calls may)
    ∙ settled.bytes

-- after a sync that answered Ok nothing is pending
pub synced : (history : History) → IsSettled (Did history Sync)
synced history = record { calls = refl; bytes = refl }

pub le_yes : (a b : ℕ) → a ≤ b → nat_le a b ≡ true
le_yes a b le = grind (arith, nat_tests)

le_no : (a b : ℕ) → b + 1 ≤ a → nat_le a b ≡ false
le_no a b lt = grind (arith, nat_tests)

pub since_later : (since before : ℕ) (made none : List Call) → since ≤ before → cond (nat_le since before) made none ≡ made
since_later since before made none le = ap (λ b. cond b made none) (le_yes since before le)

since_now : (before : ℕ) (made none : List Call) → cond (nat_le (before + 1) before) made none ≡ none
since_now before made none = ap (λ b. cond b made none) (le_no (before + 1) before (omega arith))

pub made_since-now : (history : History) → made_since history (moment history) ≡ []
made_since-now (Start bytes) = refl
made_since-now (Did before call) = since_now (moment before) (made_since before (moment before + 1) ++ call ∷ []) []
made_since-now (Failed before call after) = since_now (moment before) (and_failed (made_since before (moment before + 1)) call) []

-- what a stop since now might have left: no call was made
pub only_now : (history : History) (made : List Call) (image : List ℕ) → LeftSince history (moment history) made image
    → (made ≡ []) × MayLeave history image
only_now (Start bytes) made image left = left
only_now (Did before call) made image (inl now) = (now.0 ∙ made_since-now (Did before call), now.1)
only_now (Did before call) made image (inr older) = absurd (omega (arith, older.0))
only_now (Failed before call after) made image (inl now) = (now.0 ∙ made_since-now (Failed before call after), now.1)
only_now (Failed before call after) made image (inr older) = absurd (omega (arith, older.0))

pub front_whole : (calls : List Call) → IsFrontOf calls calls
front_whole calls = ([], append-nil calls)

-- the first of the first ones
pub front_of_front : (a b c : List Call) → IsFrontOf a b → IsFrontOf b c → IsFrontOf a c
front_of_front a b c ab bc = (ab.0 ++ bc.0, sym (append_assoc a ab.0 bc.0) ∙ ap (λ l. l ++ bc.0) ab.1 ∙ bc.1)

pub front_failed : (calls : List Call) (call : Call) → IsFrontOf calls (and_failed calls call)
front_failed calls (Write at bytes) = (Write at bytes ∷ [], refl)
front_failed calls Sync = front_whole calls
front_failed calls (SetLen len) = (SetLen len ∷ [], refl)

-- what is settled and what is pending of a history, by the calls that were made from a start on
record Stands (start : History) (made : List Call) (base : List ℕ) (open_calls : List Call) : Type 0 where
  base_is : base ≡ settled (held start) made
  calls_are : open_calls ≡ pending made

stands_leaves : (start : History) (made : List Call) (base : List ℕ) (open_calls : List Call) (image : List ℕ)
    → Stands start made base open_calls
    → Agrees base open_calls image → Leaves (held start) made image
stands_leaves start made base open_calls image stands agrees =
    let P : List ℕ → Type 0 = λ b. Agrees b (pending made) image in
    subst P stands.base_is (subst (λ (l : List Call). Agrees base l image) stands.calls_are agrees)

-- one call more that is no sync
stands_other : (start : History) (made : List Call) (base : List ℕ) (open_calls : List Call) (call : Call) → is_sync call ≡ false
    → Stands start made base open_calls
    → Stands start (made ++ call ∷ []) base (open_calls ++ call ∷ [])
stands_other start made base open_calls call isnt stands = record {
  base_is = stands.base_is ∙ sym (settled-other (held start) made call isnt);
  calls_are = ap (λ l. l ++ call ∷ []) stands.calls_are ∙ sym (pending-other made call isnt);
}

-- what is known of a disk that had nothing pending at a start, and then made these calls, which all answered Ok
record Ran (start now : History) (made : List Call) : Type 0 where
  begun : moment start ≤ moment now
  shows : held now ≡ all_done (held start) made
  stands : Stands start made (settled_bytes now) (pending_calls now)
  since : made_since now (moment start) ≡ made
  any_moment : (front : List Call) (image : List ℕ) → LeftSince now (moment start) front image
      → IsFrontOf front made × Leaves (held start) front image

-- what a stop now may leave is said of the calls since then
at_now : (start now : History) (made front : List Call) (image : List ℕ) → Stands start made (settled_bytes now) (pending_calls now)
    → made_since now (moment start) ≡ made
    → LeftNow now (moment start) front image → IsFrontOf front made × Leaves (held start) front image
at_now start now made front image stands since left =
    let P : List Call → Type 0 = λ f. IsFrontOf f made × Leaves (held start) f image in
    subst P (sym (left.0 ∙ since)) (front_whole made, stands_leaves start made (settled_bytes now) (pending_calls now) image stands left.1)

started : (start : History) → IsSettled start → Ran start start []
started start settled = record {
  begun = omega arith;
  shows = refl;
  stands = record { base_is = settled.bytes; calls_are = settled.calls };
  since = made_since-now start;
  any_moment = λ front image left.
      let now = only_now start front image left in
      at_now start start [] front image (record { base_is = settled.bytes; calls_are = settled.calls }) (made_since-now start) (now.0 ∙ sym (made_since-now start), now.1);
}

stands_did : (start now : History) (made : List Call) (call : Call) → Ran start now made
    → Stands start (made ++ call ∷ []) (settled_bytes (Did now call)) (pending_calls (Did now call))
stands_did start now made (Write at bytes) ran =
    stands_other start made (settled_bytes now) (pending_calls now) (Write at bytes) refl ran.stands
stands_did start now made Sync ran =
    record { base_is = ran.shows ∙ sym (settled-sync (held start) made); calls_are = sym (pending-sync made) }
stands_did start now made (SetLen len) ran = stands_other start made (settled_bytes now) (pending_calls now) (SetLen len) refl ran.stands

goes_on : (start now : History) (made : List Call) (call : Call) → Ran start now made → Ran start (Did now call) (made ++ call ∷ [])
goes_on start now made call ran =
    let stands = stands_did start now made call ran in
    let since : made_since (Did now call) (moment start) ≡ made ++ call ∷ [] =
    since_later (moment start) (moment now) (made_since now (moment start) ++ call ∷ []) [] ran.begun
    ∙ ap (λ l. l ++ call ∷ []) ran.since in
    record {
      begun = omega (arith, ran.begun);
      shows = ap (λ s. done s call) ran.shows ∙ sym (all_done-more (held start) made call);
      stands = stands;
      since = since;
      any_moment = λ front image left. ⊎_elim
          (λ at. at_now start (Did now call) (made ++ call ∷ []) front image stands since at)
          (λ older. let is = ran.any_moment front image older.1 in (front_of_front front made (made ++ call ∷ []) is.0 (call ∷ [], refl), is.1)) left;
    }

all_goes_on : (start now : History) (made calls : List Call) → Ran start now made → Ran start (all_did now calls) (made ++ calls)
all_goes_on start now made [] ran = subst (λ (l : List Call). Ran start now l) (sym (append-nil made)) ran
all_goes_on start now made (call ∷ calls) ran =
    subst (λ (l : List Call). Ran start (all_did (Did now call) calls) l) (append_assoc made (call ∷ []) calls)
    (all_goes_on start (Did now call) (made ++ call ∷ []) calls (goes_on start now made call ran))

ran_all : (start : History) (calls : List Call) → IsSettled start → Ran start (all_did start calls) calls
ran_all start calls settled = all_goes_on start start [] calls (started start settled)

-- the last call failed
stands_failed : (start now : History) (made : List Call) (call : Call) → Ran start now made
    → Stands start (and_failed made call) (settled_bytes now) (and_failed (pending_calls now) call)
stands_failed start now made (Write at bytes) ran =
    stands_other start made (settled_bytes now) (pending_calls now) (Write at bytes) refl ran.stands
stands_failed start now made Sync ran = ran.stands
stands_failed start now made (SetLen len) ran =
    stands_other start made (settled_bytes now) (pending_calls now) (SetLen len) refl ran.stands

call_failed : (start now : History) (made : List Call) (call : Call) (after : List ℕ) → Ran start now made
    → (front : List Call) (image : List ℕ)
    → LeftSince (Failed now call after) (moment start) front image
    → IsFrontOf front (and_failed made call) × Leaves (held start) front image
call_failed start now made call after ran front image (inl at) =
    at_now start (Failed now call after) (and_failed made call) front image (stands_failed start now made call ran)
    (since_later (moment start) (moment now) (and_failed (made_since now (moment start)) call) [] ran.begun ∙ ap (λ l. and_failed l call) ran.since) at
call_failed start now made call after ran front image (inr older) =
    let is = ran.any_moment front image older.1 in (front_of_front front made (and_failed made call) is.0 (front_failed made call), is.1)

-- The law. Let nothing be pending at the start, and let each call since but the last have answered Ok. Then each image
-- that a stop since might have left is in `Leaves` of the bytes shown at the start and the calls made by then, which
-- are the first of these calls.
pub law : (start now : History) (calls : List Call) → IsSettled start → Went start calls now
    → (made : List Call) (image : List ℕ) → LeftSince now (moment start) made image
    → IsFrontOf made calls × Leaves (held start) made image
law start now calls settled (inl all) made image left =
    (ran_all start calls settled).any_moment made image (subst (λ (h : History). LeftSince h (moment start) made image) all left)
law start now calls settled (inr failed) made image left =
    subst (λ (l : List Call). IsFrontOf made l × Leaves (held start) made image) (sym failed.3)
    (call_failed start (all_did start failed.0) failed.0 failed.1 failed.2 (ran_all start failed.0 settled) made image
    (subst (λ (h : History). LeftSince h (moment start) made image) failed.4 left))

-- what a stop now may leave counts among what a stop since any moment might have left
pub counts_now : (history : History) (since : ℕ) (image : List ℕ) → MayLeave history image
    → LeftSince history since (made_since history since) image
counts_now (Start bytes) since image may = (refl, may)
counts_now (Did before call) since image may = inl (refl, may)
counts_now (Failed before call after) since image may = inl (refl, may)

-- and what it might have left before one more call still counts
pub counts_before_did : (history : History) (call : Call) (since : ℕ) (made : List Call) (image : List ℕ) → since ≤ moment history
    → LeftSince history since made image → LeftSince (Did history call) since made image
counts_before_did history call since made image le left = inr (le, left)

pub counts_before_failed : (history : History) (call : Call) (after : List ℕ) (since : ℕ) (made : List Call) (image : List ℕ)
    → since ≤ moment history
    → LeftSince history since made image → LeftSince (Failed history call after) since made image
counts_before_failed history call after since made image le left = inr (le, left)
