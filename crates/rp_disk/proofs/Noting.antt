-- From what a disk noted to what is known of its bytes.
use Rattle.std.proofs.Common.{ℕ, ◌+◌, ◌≤◌, ◌<◌, List, [], ◌∷◌, ◌++◌, ◌≡◌, ◌⊎◌, true, false, Option, Some, None, IfSome, Result, Ok, Err, OnOk, OnErr, IfOk, length, refl, sym, ◌∙◌, ap, subst, inl, inr, append_assoc, append-nil, arith}
use Rattle.std.specs.Prelude.{nat_lt, if◌then◌else◌}
use Rattle.std.proofs.lemmas.Bool.Decides.{nat_tests}
use Rattle.rp_base.specs.Image.{bytes_at}
use Rattle.rp_disk.specs.declared.call.Call.{Call}
use Rattle.rp_disk.specs.declared.call.Call.TheVariants.{Write}
use Rattle.rp_disk.specs.History.{History, Did, Failed, held, moment, IsLawful}
use Rattle.rp_disk.specs.Made.{Made, Done, Broke, Past, after_made, history_of, history_told, Makes}
use Rattle.rp_disk.specs.Device.{Answer, Measured, Gave, Missed, Device, Holds, AllHold, CanHave, Known, IsPossible, BeginsWith, Earlier, StaysInsideWhere, missed, missed_by, NotesLength, NotesRead, NotesWrite}
use Rattle.rp_disk.proofs.Runs.{history_of-append}

-- answers and more of them

pub all_hold-append : (past : Past) (answers more : List Answer) → AllHold past (answers ++ more) → AllHold past answers × AllHold past more
all_hold-append past [] more hold = (tt, hold)
all_hold-append past (answer ∷ answers) more hold = let rest = all_hold-append past answers more hold.1 in ((hold.0, rest.0), rest.1)

pub all_hold-more : (past : Past) (answers more : List Answer) → AllHold past answers → AllHold past more → AllHold past (answers ++ more)
all_hold-more past [] more hold holds = holds
all_hold-more past (answer ∷ answers) more hold holds = (hold.0, all_hold-more past answers more hold.1 holds)

pub missed-append : (past : Past) (answers more : List Answer) → missed past (answers ++ more) ≡ missed past answers + missed past more
missed-append past [] more = omega arith
missed-append past (Measured behind len ∷ answers) more = missed-append past answers more
missed-append past (Gave behind at bytes ∷ answers) more = missed-append past answers more
missed-append past (Missed behind end ∷ answers) more = let rest = missed-append past answers more in omega (arith, rest)

-- a lawful history was lawful before its last calls
pub lawful_before : (left : ℕ → List ℕ → List ℕ) (history : History) (made : List Made) → IsLawful (after_made left history made) → IsLawful history
lawful_before left history [] lawful = lawful
lawful_before left history (Done call ∷ made) lawful = (lawful_before left (Did history call) made lawful).0
lawful_before left history (Broke call ∷ made) lawful =
    (lawful_before left (Failed history call (left (moment history) (held history))) made lawful).0

-- what was noted stays

pub noted_first : (before now : Device) → (more : List Made) × (now.calls ≡ before.calls ++ more)
    → (more : List Answer) × (now.answers ≡ before.answers ++ more) → Earlier before now
unfolding BeginsWith
noted_first before now calls answers = record { calls = calls; answers = answers }

pub calls_first : {before now : Device} → Earlier before now → (more : List Made) × (now.calls ≡ before.calls ++ more)
unfolding BeginsWith
calls_first earlier = earlier.calls

pub answers_first : {before now : Device} → Earlier before now → (more : List Answer) × (now.answers ≡ before.answers ++ more)
unfolding BeginsWith
answers_first earlier = earlier.answers

pub earlier_same : (before : Device) → Earlier before before
earlier_same before = noted_first before before ([], sym (append-nil before.calls)) ([], sym (append-nil before.answers))

pub earlier_then : {before mid now : Device} → Earlier before mid → Earlier mid now → Earlier before now
earlier_then {before} {mid} {now} a b =
    let c = calls_first a in let d = calls_first b in let e = answers_first a in let f = answers_first b in
    noted_first before now
    (c.0 ++ d.0, d.1 ∙ ap (λ l. l ++ d.0) c.1 ∙ append_assoc before.calls c.0 d.0)
    (e.0 ++ f.0, f.1 ∙ ap (λ l. l ++ f.0) e.1 ∙ append_assoc before.answers e.0 f.0)

-- a past that the disk can have now, it could have before
pub can_before : {past : Past} {before now : Device} → Earlier before now → CanHave past now → CanHave past before
can_before {past} {before} {now} earlier can =
    let calls = calls_first earlier in let answers = answers_first earlier in
    record {
      lawful = lawful_before past.left (history_of past before.calls) calls.0
          (subst IsLawful (ap (history_of past) calls.1 ∙ history_of-append past before.calls calls.0) can.lawful);
      answers = (all_hold-append past before.answers answers.0 (subst (AllHold past) answers.1 can.answers)).0;
    }

-- what was known before is known now
pub still_known : (before mid now : Device) (P : History → Type 0) → Earlier mid now → Known before mid P → Known before now P
still_known before mid now P earlier known = λ past can. known past (can_before earlier can)

-- of each call

same_then : {A : Type 0} {xs ys : List A} → ys ≡ xs → (more : List A) × (ys ≡ xs ++ more)
same_then {A} {xs} same = ([], same ∙ sym (append-nil xs))

last_holds : (past : Past) (old new : Device) (answer : Answer) → new.answers ≡ old.answers ++ answer ∷ [] → CanHave past new → Holds past answer
last_holds past old new answer is can = (all_hold-append past old.answers (answer ∷ []) (subst (AllHold past) is can.answers)).1.0

module _ {E : Type 0} (old new : Device) where
  pub length_earlier : (result : Result ℕ E) → NotesLength old new result → Earlier old new
  length_earlier (Ok len) notes = noted_first old new (same_then notes.calls) ((Measured old.calls len ∷ [], notes.ok))
  length_earlier (Err e) notes = noted_first old new (same_then notes.calls) (same_then notes.err)

  pub length_known : (result : Result ℕ E) → NotesLength old new result → Known old new (λ h. IfOk result (λ n. n ≡ length (held h)))
  length_known (Ok len) notes = λ past can. last_holds past old new (Measured old.calls len) notes.ok can
  length_known (Err e) notes = λ past can. tt

  pub length_inside : (result : Result ℕ E) → NotesLength old new result → (past : Past) → missed past new.answers ≡ missed past old.answers
  length_inside (Ok len) notes past = ap (missed past) notes.ok ∙ missed-append past old.answers (Measured old.calls len ∷ []) ∙ omega arith
  length_inside (Err e) notes past = ap (missed past) notes.err

-- a call up to an end within the bytes
not_past : (past : Past) (behind : List Made) (end : ℕ) → end ≤ length (held (history_of past behind)) → missed past (Missed behind end ∷ []) ≡ 0
not_past past behind end inside = by_test (length (held (history_of past behind))) inside where
  by_test : (len : ℕ) → end ≤ len → (if nat_lt len end then 1 else 0) + 0 ≡ 0
  by_test len inside = let not : nat_lt len end ≡ false = grind (arith, nat_tests) in rw not (omega arith)

module _ {T E : Type 0} (old new : Device) (at : ℕ) (bytes : List ℕ) where
  pub read_earlier : (result : Result T E) → NotesRead old new at bytes result → Earlier old new
  read_earlier (Ok x) notes = noted_first old new (same_then notes.calls) ((Gave old.calls at bytes ∷ [], notes.ok))
  read_earlier (Err e) notes = noted_first old new (same_then notes.calls) ((Missed old.calls (at + length bytes) ∷ [], notes.err))

  pub read_range : (size : ℕ) → size ≡ length bytes → (result : Result T E) → NotesRead old new at bytes result
      → Known old new (λ h. OnOk result (at + size ≤ length (held h)))
  read_range size is (Ok x) notes = λ past can. rw is (last_holds past old new (Gave old.calls at bytes) notes.ok can).0
  read_range size is (Err e) notes = λ past can. tt

  pub read_bytes : (size : ℕ) → size ≡ length bytes → (result : Result T E) → NotesRead old new at bytes result
      → Known old new (λ h. OnOk result (bytes ≡ bytes_at (held h) at size))
  read_bytes size is (Ok x) notes = λ past can. (last_holds past old new (Gave old.calls at bytes) notes.ok can).1 ∙ ap (bytes_at (held (history_of past old.calls)) at) (sym is)
  read_bytes size is (Err e) notes = λ past can. tt

  pub read_inside : (size : ℕ) → size ≡ length bytes → (result : Result T E) → NotesRead old new at bytes result
      → (past : Past) → at + size ≤ length (held (history_of past old.calls)) → missed past new.answers ≡ missed past old.answers
  read_inside size is (Ok x) notes past inside = ap (missed past) notes.ok ∙ missed-append past old.answers (Gave old.calls at bytes ∷ []) ∙ omega arith
  read_inside size is (Err e) notes past inside =
      let none = not_past past old.calls (at + length bytes) (rw is at inside) in
      ap (missed past) notes.err ∙ missed-append past old.answers (Missed old.calls (at + length bytes) ∷ []) ∙ rw none (omega arith)

missing_more : (old new : List Made) (call : Call) → (new ≡ old) ⊎ (new ≡ old ++ Broke call ∷ []) → (more : List Made) × (new ≡ old ++ more)
missing_more old new call (inl same) = same_then same
missing_more old new call (inr broke) = (Broke call ∷ [], broke)

pub makes_more : {T E : Type 0} {old new : List Made} (call : Call) (result : Result T E) → Makes old call new result → (more : List Made) × (new ≡ old ++ more)
makes_more call (Ok x) makes = (Done call ∷ [], makes.ok)
makes_more {old = old} {new = new} call (Err e) makes = missing_more old new call makes.err

module _ {T E : Type 0} (old new : Device) where
  pub made_earlier : (call : Call) (result : Result T E) → Makes old.calls call new.calls result → new.answers ≡ old.answers → Earlier old new
  made_earlier call result makes same = noted_first old new (makes_more call result makes) (same_then same)

  pub write_earlier : (call : Call) (end : ℕ) (result : Result T E) → Makes old.calls call new.calls result → NotesWrite old new end result → Earlier old new
  write_earlier call end (Ok x) makes notes = let result : Result T E = Ok x in noted_first old new (makes_more call result makes) (same_then notes.ok)
  write_earlier call end (Err e) makes notes =
      let result : Result T E = Err e in noted_first old new (makes_more call result makes) ((Missed old.calls end ∷ [], notes.err))

  pub write_range : (at : ℕ) (bytes : List ℕ) (result : Result T E) → Makes old.calls (Write at bytes) new.calls result
      → Known old new (λ h. OnOk result (at + length bytes ≤ length (held h)))
  write_range at bytes (Ok x) makes = λ past can.
      (subst IsLawful (ap (history_of past) makes.ok ∙ history_of-append past old.calls (Done (Write at bytes) ∷ [])) can.lawful).1
  write_range at bytes (Err e) makes = λ past can. tt

  pub write_inside : (end : ℕ) (result : Result T E) → NotesWrite old new end result
      → (past : Past) → end ≤ length (held (history_of past old.calls)) → missed past new.answers ≡ missed past old.answers
  write_inside end (Ok x) notes past inside = ap (missed past) notes.ok
  write_inside end (Err e) notes past inside =
      let none = not_past past old.calls end inside in
      ap (missed past) notes.err ∙ missed-append past old.answers (Missed old.calls end ∷ []) ∙ rw none (omega arith)

-- of one past, or none

pub possible_before : (told : Option Past) {before now : Device} → Earlier before now → IsPossible told now → IsPossible told before
possible_before None {before} {now} earlier can = tt
possible_before (Some past) {before} {now} earlier can = can_before earlier can

pub possible_lawful : (told : Option Past) (device : Device) → IsPossible told device → IfSome (history_told told device.calls) IsLawful
possible_lawful None device can = tt
possible_lawful (Some past) device can = can.lawful

pub known_told : (told : Option Past) (before now : Device) (P : History → Type 0) → Known before now P → IsPossible told now
    → IfSome (history_told told before.calls) P
known_told None before now P known can = tt
known_told (Some past) before now P known can = known past can

pub inside_told : (told : Option Past) (before now : Device) (P : History → Type 0) → StaysInsideWhere before now P
    → IfSome (history_told told before.calls) (λ h. P h → missed_by told now.answers ≡ missed_by told before.answers)
inside_told None before now P inside = tt
inside_told (Some past) before now P inside = inside past
