-- From a function's run on a disk to what a stop at any moment of it may leave.
use Rattle.std.proofs.Common.{ℕ, ◌+◌, List, [], ◌∷◌, ◌++◌, ◌≡◌, ◌⊎◌, Result, Ok, Err, OnOk, OnErr, length, refl, sym, ◌∙◌, ap, subst, inl, inr, append_assoc, append-nil, length-append, arith}
use Rattle.rp_disk.specs.declared.call.Call.{Call}
use Rattle.rp_disk.specs.declared.call.Call.TheVariants.{Write, Sync, SetLen}
use Rattle.rp_disk.specs.Calls.{all_done}
use Rattle.rp_disk.specs.Stops.{IsFrontOf}
use Rattle.rp_disk.specs.History.{History, Start, Did, Failed, held, moment, IsSettled, all_did, and_failed}
use Rattle.rp_disk.specs.Made.{Made, Done, Broke, Past, dones, count_done, after_made, history_of}
use Rattle.rp_disk.specs.Runs.{AreFirst, MadeFirst, BrokeOff, Runs, Went, AtAnyMoment, AtAnyMomentBehindSync, EndsSettled}
use Rattle.rp_disk.proofs.Law.{law, synced, front_of_front}
use Rattle.rp_disk.proofs.Opened.{law_behind_sync}

-- histories and lists of calls

pub after_made-append : (left : ℕ → List ℕ → List ℕ) (history : History) (made more : List Made)
    → after_made left history (made ++ more) ≡ after_made left (after_made left history made) more
after_made-append left history [] more = refl
after_made-append left history (Done call ∷ made) more = after_made-append left (Did history call) made more
after_made-append left history (Broke call ∷ made) more =
    after_made-append left (Failed history call (left (moment history) (held history))) made more

pub after_made-dones : (left : ℕ → List ℕ → List ℕ) (history : History) (calls : List Call)
    → after_made left history (dones calls) ≡ all_did history calls
after_made-dones left history [] = refl
after_made-dones left history (call ∷ calls) = after_made-dones left (Did history call) calls

pub dones-append : (calls more : List Call) → dones (calls ++ more) ≡ dones calls ++ dones more
dones-append [] more = refl
dones-append (call ∷ calls) more = ap (λ l. Done call ∷ l) (dones-append calls more)

pub all_did-append : (start : History) (made more : List Call) → all_did start (made ++ more) ≡ all_did (all_did start made) more
all_did-append start [] more = refl
all_did-append start (call ∷ made) more = all_did-append (Did start call) made more

-- the bytes shown after calls that were done whole
pub held-all_did : (start : History) (calls : List Call) → held (all_did start calls) ≡ all_done (held start) calls
held-all_did start [] = refl
held-all_did start (call ∷ calls) = held-all_did (Did start call) calls

-- after a sync nothing is pending
pub settled-all_did : (start : History) (calls : List Call) → IsSettled (all_did start (calls ++ Sync ∷ []))
settled-all_did start calls = subst IsSettled (sym (all_did-append start calls (Sync ∷ []))) (synced (all_did start calls))

pub history_of-append : (past : Past) (old more : List Made)
    → history_of past (old ++ more) ≡ after_made past.left (history_of past old) more
history_of-append past old more = after_made-append past.left (Start past.first) old more

pub history_of-dones : (past : Past) (old : List Made) (calls : List Call)
    → history_of past (old ++ dones calls) ≡ all_did (history_of past old) calls
history_of-dones past old calls = history_of-append past old (dones calls) ∙ after_made-dones past.left (history_of past old) calls

-- calls that end with a sync, all done whole
pub ends_settled : (old new : List Made) (calls : List Call) → new ≡ old ++ dones (calls ++ Sync ∷ [])
    → EndsSettled old (calls ++ Sync ∷ []) new
ends_settled old new calls is = λ past.
    let P : History → Type 0 = λ h. IsSettled h × (held h ≡ all_done (held (history_of past old)) (calls ++ Sync ∷ [])) in
    subst P (sym (ap (history_of past) is ∙ history_of-dones past old (calls ++ Sync ∷ [])))
    (settled-all_did (history_of past old) calls, held-all_did (history_of past old) (calls ++ Sync ∷ []))

-- the first of a plan

pub are_all : (plan : List Call) → AreFirst (dones plan) plan
are_all [] = tt
are_all (call ∷ plan) = (refl, are_all plan)

pub first_of_more : (calls : List Call) (made : List Made) (plan : List Call) → AreFirst made plan
    → AreFirst (dones calls ++ made) (calls ++ plan)
first_of_more [] made plan are = are
first_of_more (call ∷ calls) made plan are = (refl, first_of_more calls made plan are)

pub first_of_longer : (made : List Made) (plan rest : List Call) → AreFirst made plan → AreFirst made (plan ++ rest)
first_of_longer [] plan rest are = tt
first_of_longer (made ∷ mades) [] rest are = absurd are
first_of_longer (Done call ∷ mades) (due ∷ plan) rest are = (are.0, first_of_longer mades plan rest are.1)
first_of_longer (Broke call ∷ mades) (due ∷ plan) rest are = are

pub count_done-more : (calls : List Call) (made : List Made) → count_done (dones calls ++ made) ≡ length calls + count_done made
count_done-more [] made = omega arith
count_done-more (call ∷ calls) made = let more = count_done-more calls made in omega arith

-- another function's run within a longer one

-- a run broke off, of which this is a longer one
pub broke_off_within : (old mid new : List Made) (calls plan rest : List Call) → mid ≡ old ++ dones calls → BrokeOff mid plan new
    → BrokeOff old (calls ++ (plan ++ rest)) new
broke_off_within old mid new calls plan rest so broke = (
  dones calls ++ broke.0,
  first_of_more calls broke.0 (plan ++ rest) (first_of_longer broke.0 plan rest broke.1),
  (let count = count_done-more calls broke.0 in let less = broke.2 in omega (arith, length-append calls (plan ++ rest), length-append plan rest)),
  broke.3 ∙ ap (λ l. l ++ broke.0) so ∙ append_assoc old (dones calls) broke.0,
)

-- it broke off at a call of its own
pub broke_off_at : (old mid new : List Made) (calls : List Call) (call : Call) (rest : List Call) → mid ≡ old ++ dones calls
    → (new ≡ mid) ⊎ (new ≡ mid ++ Broke call ∷ []) → BrokeOff old (calls ++ call ∷ rest) new
broke_off_at old mid new calls call rest so failed = broke_off_within old mid new calls (call ∷ []) rest so (one failed)
  where
    one : (new ≡ mid) ⊎ (new ≡ mid ++ Broke call ∷ []) → BrokeOff mid (call ∷ []) new
    one (inl same) = ([], tt, omega arith, same ∙ sym (append-nil mid))
    one (inr broke) = (Broke call ∷ [], (refl, refl), omega arith, broke)

-- the same, of a plan that is known to go on so
pub broke_off_in : (old mid new : List Made) (calls : List Call) (call : Call) (rest plan : List Call) → plan ≡ calls ++ call ∷ rest
    → mid ≡ old ++ dones calls
    → (new ≡ mid) ⊎ (new ≡ mid ++ Broke call ∷ []) → BrokeOff old plan new
broke_off_in old mid new calls call rest plan split so failed =
    let P : List Call → Type 0 = λ l. BrokeOff old l new in subst P (sym split) (broke_off_at old mid new calls call rest so failed)

-- the first of a plan were made, whether all or not
pub made_first : {T E : Type 0} (result : Result T E) (old new : List Made) (plan : List Call) → Runs old plan new result
    → MadeFirst old plan new
made_first (Ok x) old new plan runs = (dones plan, are_all plan, runs.ok)
made_first (Err e) old new plan runs = (runs.err.0, runs.err.1, runs.err.3)

-- to the law

and_failed-more : (first : Call) (made : List Call) (last : Call) → first ∷ and_failed made last ≡ and_failed (first ∷ made) last
and_failed-more first made (Write at bytes) = refl
and_failed-more first made Sync = refl
and_failed-more first made (SetLen len) = refl

front_of_broken : (call : Call) (plan : List Call) → IsFrontOf (and_failed [] call) (call ∷ plan)
front_of_broken (Write at bytes) plan = (plan, refl)
front_of_broken Sync plan = (Sync ∷ plan, refl)
front_of_broken (SetLen len) plan = (plan, refl)

went_one_more : (history : History) (first : Call) (calls : List Call) (now : History) → Went (Did history first) calls now
    → Went history (first ∷ calls) now
went_one_more history first calls now (inl e) = inl e
went_one_more history first calls now (inr w) = inr (first ∷ w.0, w.1, w.2, ap (λ l. first ∷ l) w.3 ∙ and_failed-more first w.0 w.1, w.4)

record Front (left : ℕ → List ℕ → List ℕ) (history : History) (made : List Made) (plan : List Call) : Type 0 where
  calls : List Call
  front : IsFrontOf calls plan
  went : Went history calls (after_made left history made)

front_of : (left : ℕ → List ℕ → List ℕ) (history : History) (made : List Made) (plan : List Call) → AreFirst made plan → Front left history made plan
front_of left history [] plan are = record { calls = []; front = (plan, refl); went = inl refl }
front_of left history (made ∷ mades) [] are = absurd are
front_of left history (Done call ∷ mades) (due ∷ plan) are =
    let r = front_of left (Did history call) mades plan are.1 in
    record {
      calls = call ∷ r.calls;
      front = (r.front.0, ap (λ l. call ∷ l) r.front.1 ∙ ap (λ c. c ∷ plan) are.0);
      went = went_one_more history call r.calls (after_made left (Did history call) mades) r.went;
    }
front_of left history (Broke call ∷ mades) (due ∷ plan) are =
    let after = left (moment history) (held history) in
    let P : List Made → Type 0 = λ l. Went history (and_failed [] call) (after_made left (Failed history call after) l) in
    let Q : Call → Type 0 = λ c. IsFrontOf (and_failed [] call) (c ∷ plan) in
    record {
      calls = and_failed [] call;
      front = subst Q are.0 (front_of_broken call plan);
      went = subst P (sym are.1) (inr ([], call, after, refl, refl));
    }

went_now : (past : Past) (old new : List Made) (plan : List Call) (made : MadeFirst old plan new)
    (f : Front past.left (history_of past old) made.0 plan) → Went (history_of past old) f.calls (history_of past new)
went_now past old new plan made f =
    let now : history_of past new ≡ after_made past.left (history_of past old) made.0 = ap (history_of past) made.2
    ∙ history_of-append past old made.0 in
    let P : History → Type 0 = λ h. Went (history_of past old) f.calls h in
    subst P (sym now) f.went

-- at any moment of a run from a start where nothing was pending
pub any_moment : (old new : List Made) (plan : List Call) → MadeFirst old plan new → AtAnyMoment old plan new
any_moment old new plan made = λ past settled by_then image left.
    let start = history_of past old in
    let f = front_of past.left start made.0 plan made.1 in
    let is = law start (history_of past new) f.calls settled (went_now past old new plan made f) by_then image left in
    (front_of_front by_then f.calls plan is.0 f.front, is.1)

-- at any moment of a run that begins with a sync, from any start
pub any_moment_behind_sync : (old new : List Made) (plan : List Call) → MadeFirst old (Sync ∷ plan) new
    → AtAnyMomentBehindSync old plan new
any_moment_behind_sync old new plan made = λ past.
    let start = history_of past old in
    let f = front_of past.left start made.0 (Sync ∷ plan) made.1 in
    law_behind_sync start (history_of past new) plan f.calls f.front (went_now past old new (Sync ∷ plan) made f)

-- for a function's answers, from what the function that it calls says of its run

pub run_any_moment : {T E : Type 0} (result : Result T E) (old new : List Made) (plan : List Call)
    → Runs old plan new result → AtAnyMoment old plan new
run_any_moment result old new plan runs = any_moment old new plan (made_first result old new plan runs)

pub run_any_moment_behind_sync : {T E : Type 0} (result : Result T E) (old new : List Made) (plan : List Call)
    → Runs old (Sync ∷ plan) new result
    → AtAnyMomentBehindSync old plan new
run_any_moment_behind_sync result old new plan runs =
    any_moment_behind_sync old new plan (made_first result old new (Sync ∷ plan) runs)

pub run_ends_settled : {T E : Type 0} (result : Result T E) (old new : List Made) (calls : List Call)
    → Runs old (calls ++ Sync ∷ []) new result
    → OnOk result (EndsSettled old (calls ++ Sync ∷ []) new)
run_ends_settled (Ok x) old new calls runs = ends_settled old new calls runs.ok
run_ends_settled (Err e) old new calls runs = tt

-- so far these calls were made; one more that was done whole
pub one_more : (old mid new : List Made) (calls : List Call) (call : Call) → mid ≡ old ++ dones calls → new ≡ mid ++ Done call ∷ []
    → new ≡ old ++ dones (calls ++ call ∷ [])
one_more old mid new calls call so done =
    done ∙ ap (λ l. l ++ Done call ∷ []) so ∙ append_assoc old (dones calls) (Done call ∷ [])
    ∙ ap (λ l. old ++ l) (sym (dones-append calls (call ∷ [])))

-- another function's, that were all done whole
pub more : (old mid new : List Made) (calls plan : List Call) → mid ≡ old ++ dones calls → new ≡ mid ++ dones plan
    → new ≡ old ++ dones (calls ++ plan)
more old mid new calls plan so done =
    done ∙ ap (λ l. l ++ dones plan) so ∙ append_assoc old (dones calls) (dones plan) ∙ ap (λ l. old ++ l) (sym (dones-append calls plan))

pub on_err : {T E P : Type 0} (result : Result T E) → P → OnErr result P
on_err (Ok x) p = tt
on_err (Err e) p = p
