-- One more call in what a disk in memory keeps.
use Rattle.std.proofs.Common.{◌≡◌, ℕ, ◌<◌, List, [], ◌∷◌, ◌++◌, Bool, true, false, map, length, refl, sym, ◌∙◌, ap, arith}
use Rattle.rp_disk.specs.declared.call.Call.{Call}
use Rattle.rp_disk.specs.History.{History, Start}
use Rattle.rp_disk.specs.Made.{asked, history_of, unharmed}
use Rattle.rp_disk.specs.Kept.{answered, noted, all_answered, first_kept}
use Rattle.rp_disk.specs.KeptLawful.{replayed, kept, history-kept}

replayed-more : (history : History) (calls : List Call) (oks : List Bool) (call : Call) (ok : Bool) → length calls ≡ length oks
    → replayed history (calls ++ call ∷ []) (oks ++ ok ∷ []) ≡ noted (replayed history calls oks) call ok
replayed-more history [] [] call ok same = refl
replayed-more history [] (o ∷ oks) call ok same = absurd (omega (arith, same))
replayed-more history (c ∷ calls) [] call ok same = absurd (omega (arith, same))
replayed-more history (c ∷ calls) (o ∷ oks) call ok same = replayed-more (noted history c o) calls oks call ok (omega (arith, same))

kept-more : (image first then_first after : List ℕ) (calls : List Call) (oks : List Bool) (call : Call) (ok : Bool)
    → length calls ≡ length oks
    → (calls ≡ [] → then_first ≡ image) → (0 < length calls → then_first ≡ first)
    → kept after then_first (calls ++ call ∷ []) (oks ++ ok ∷ []) ≡ noted (kept image first calls oks) call ok
kept-more image first then_first after [] [] call ok same at_first later = ap (λ b. noted (Start b) call ok) (at_first refl)
kept-more image first then_first after [] (o ∷ oks) call ok same at_first later = absurd (omega (arith, same))
kept-more image first then_first after (c ∷ calls) oks call ok same at_first later =
    replayed-more (Start then_first) (c ∷ calls) oks call ok same
    ∙ ap (λ b. noted (replayed (Start b) (c ∷ calls) oks) call ok) (later (omega arith))

pub calls-more : (calls : List Call) (oks : List Bool) (call : Call) (ok : Bool) → length calls ≡ length oks
    → all_answered (calls ++ call ∷ []) (oks ++ ok ∷ []) ≡ all_answered calls oks ++ answered call ok ∷ []
calls-more [] [] call ok same = refl
calls-more [] (o ∷ oks) call ok same = absurd (omega (arith, same))
calls-more (c ∷ calls) [] call ok same = absurd (omega (arith, same))
calls-more (c ∷ calls) (o ∷ oks) call ok same = ap (λ l. answered c o ∷ l) (calls-more calls oks call ok (omega (arith, same)))

module _ (image first then_first : List ℕ) (calls : List Call) (oks : List Bool) (call : Call) (ok : Bool) (same : length calls ≡ length oks)
    (at_first : calls ≡ [] → then_first ≡ image) (later : 0 < length calls → then_first ≡ first) where
  pub history-more : (after : List ℕ)
      → history_of (unharmed (first_kept after then_first (calls ++ call ∷ []))) (all_answered (calls ++ call ∷ []) (oks ++ ok ∷ []))
      ≡ noted (history_of (unharmed (first_kept image first calls)) (all_answered calls oks)) call ok
  history-more after =
      history-kept after then_first (calls ++ call ∷ []) (oks ++ ok ∷ [])
      ∙ kept-more image first then_first after calls oks call ok same at_first later
      ∙ ap (λ h. noted h call ok) (sym (history-kept image first calls oks))

pub first-more : (image first then_first after : List ℕ) (calls : List Call) (call : Call)
    → (calls ≡ [] → then_first ≡ image) → (0 < length calls → then_first ≡ first)
    → first_kept after then_first (calls ++ call ∷ []) ≡ first_kept image first calls
first-more image first then_first after [] call at_first later = at_first refl
first-more image first then_first after (c ∷ calls) call at_first later = later (omega arith)

-- the first bytes while nothing was noted
pub first-same : (image first then_first : List ℕ) (calls : List Call) → (0 < length calls → then_first ≡ first)
    → first_kept image then_first calls ≡ first_kept image first calls
first-same image first then_first [] later = refl
first-same image first then_first (c ∷ calls) later = later (omega arith)

-- the calls alone are those that it keeps
pub asked-answered : (calls : List Call) (oks : List Bool) → length calls ≡ length oks
    → map asked (all_answered calls oks) ≡ calls
asked-answered [] oks same = refl
asked-answered (c ∷ calls) [] same = absurd (omega (arith, same))
asked-answered (c ∷ calls) (true ∷ oks) same = ap (λ l. c ∷ l) (asked-answered calls oks (omega (arith, same)))
asked-answered (c ∷ calls) (false ∷ oks) same = ap (λ l. c ∷ l) (asked-answered calls oks (omega (arith, same)))
