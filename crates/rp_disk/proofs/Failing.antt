-- A call that failed leaves possible each past in which it left what a stop in its midst may leave.
use Rattle.std.proofs.Common.{ℕ, ◌+◌, ◌≤◌, ◌<◌, List, [], ◌∷◌, ◌++◌, ◌≡◌, Bool, true, false, length, refl, sym, ◌∙◌, ap, subst, arith}
use Rattle.std.specs.Prelude.{nat_eq, if◌then◌else◌}
use Rattle.std.proofs.lemmas.Bool.Decides.{nat_tests}
use Rattle.rp_base.specs.Image.{bytes_at}
use Rattle.rp_disk.specs.declared.call.Call.{Call}
use Rattle.rp_disk.specs.History.{History, Start, Did, Failed, held, moment, IsLawful}
use Rattle.rp_disk.specs.Made.{Made, Done, Broke, Past, after_made, history_of}
use Rattle.rp_disk.specs.Device.{Answer, Measured, Gave, Missed, Device, Holds, AllHold, AllBehind, CanHave, with_failed}
use Rattle.rp_disk.specs.Stops.{Agrees}
use Rattle.rp_disk.proofs.Runs.{history_of-append}

-- what was left, but for this moment
abbrev pub leaving : (ℕ → List ℕ → List ℕ) → ℕ → List ℕ → ℕ → List ℕ → List ℕ
leaving left at after k image = if nat_eq k at then after else left k image

leaving_at : (left : ℕ → List ℕ → List ℕ) (at : ℕ) (after image : List ℕ) → leaving left at after at image ≡ after
leaving_at left at after image = let is : nat_eq at at ≡ true = grind (arith, nat_tests) in rw is refl

leaving_before : (left : ℕ → List ℕ → List ℕ) (at : ℕ) (after : List ℕ) (k : ℕ) (image : List ℕ) → k < at → leaving left at after k image ≡ left k image
leaving_before left at after k image below = let is : nat_eq k at ≡ false = grind (arith, nat_tests) in rw is refl

made_before : (left : ℕ → List ℕ → List ℕ) (at : ℕ) (after : List ℕ) (history : History) (made : List Made) → moment history + length made ≤ at
    → after_made (leaving left at after) history made ≡ after_made left history made
made_before left at after history [] below = refl
made_before left at after history (Done call ∷ made) below = made_before left at after (Did history call) made (omega (arith, below))
made_before left at after history (Broke call ∷ made) below =
    ap (λ (b : List ℕ). after_made (leaving left at after) (Failed history call b) made) (leaving_before left at after (moment history) (held history) (omega (arith, below)))
    ∙ made_before left at after (Failed history call (left (moment history) (held history))) made (omega (arith, below))

moment_made : (left : ℕ → List ℕ → List ℕ) (history : History) (made : List Made) → moment (after_made left history made) ≡ moment history + length made
moment_made left history [] = omega arith
moment_made left history (Done call ∷ made) = let rest = moment_made left (Did history call) made in omega (arith, rest)
moment_made left history (Broke call ∷ made) =
    let rest = moment_made left (Failed history call (left (moment history) (held history))) made in omega (arith, rest)

module _ (past : Past) (at : ℕ) (after : List ℕ) where
  abbrev pub next : Past
  next = record { first = past.first; left = leaving past.left at after }

  pub same_before : (made : List Made) → length made ≤ at → history_of next made ≡ history_of past made
  same_before made below = made_before past.left at after (Start past.first) made (omega (arith, below))

  still_holds : (answers : List Answer) → AllBehind at answers → AllHold past answers → AllHold next answers
  still_holds [] behind hold = tt
  still_holds (Measured made len ∷ answers) behind hold =
      (subst (λ (h : History). len ≡ length (held h)) (sym (same_before made behind.0)) hold.0, still_holds answers behind.1 hold.1)
  still_holds (Gave made from bytes ∷ answers) behind hold = (
    subst (λ (h : History). (from + length bytes ≤ length (held h)) × (bytes ≡ bytes_at (held h) from (length bytes))) (sym (same_before made behind.0)) hold.0,
    still_holds answers behind.1 hold.1,
  )
  still_holds (Missed made end ∷ answers) behind hold = (tt, still_holds answers behind.1 hold.1)

module _ (past : Past) (device : Device) (call : Call) (after : List ℕ) (can : CanHave past device) (behind : AllBehind (length device.calls) device.answers)
    (honest : Agrees (held (history_of past device.calls)) (call ∷ []) after) where
  abbrev so_then : Past
  so_then = next past (length device.calls) after

  same : history_of so_then device.calls ≡ history_of past device.calls
  same = same_before past (length device.calls) after device.calls (omega arith)

  now : history_of so_then (device.calls ++ Broke call ∷ []) ≡ Failed (history_of past device.calls) call after
  now =
      history_of-append so_then device.calls (Broke call ∷ [])
      ∙ ap (λ (h : History). Failed h call (so_then.left (moment h) (held h))) same
      ∙ ap (λ (k : ℕ). Failed (history_of past device.calls) call (so_then.left k (held (history_of past device.calls)))) (moment_made past.left (Start past.first) device.calls ∙ omega arith)
      ∙ ap (Failed (history_of past device.calls) call) (leaving_at past.left (length device.calls) after (held (history_of past device.calls)))

  pub still_can : (next : Past) × CanHave next (with_failed device call) × (history_of next device.calls ≡ history_of past device.calls)
      × (held (history_of next (device.calls ++ Broke call ∷ [])) ≡ after)
  still_can = (
    so_then,
    record {
      lawful = subst IsLawful (sym now) (can.lawful, honest);
      answers = still_holds past (length device.calls) after device.answers behind can.answers;
    },
    same,
    ap held now,
  )
