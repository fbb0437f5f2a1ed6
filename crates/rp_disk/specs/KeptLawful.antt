-- A disk in memory is lawful: what was written lay within the bytes, and a call that failed changed nothing.
use Rattle.std.proofs.Common.{ℕ, List, [], ◌∷◌, ◌≡◌, ◌&&◌, Bool, true, false, refl, sym, subst, length, inl, ◌+◌}
use Rattle.std.proofs.lemmas.Bool.{leb-true}
use Rattle.rp_disk.specs.declared.call.Call.{Call}
use Rattle.rp_disk.specs.declared.call.Call.TheVariants.{Write, Sync, SetLen}
use Rattle.rp_disk.specs.Calls.{IsWithin}
use Rattle.rp_disk.specs.History.{History, Start, Did, Failed, held, IsLawful}
use Rattle.rp_disk.specs.Made.{after_made, history_of, unharmed}
use Rattle.rp_disk.specs.Kept.{fits, noted, writes_fit, all_answered, first_kept}

-- the history with more calls and their answers
abbrev pub replayed : History → List Call → List Bool → History
replayed history [] oks = history
replayed history (call ∷ calls) [] = history
replayed history (call ∷ calls) (ok ∷ oks) = replayed (noted history call ok) calls oks

-- the history of a disk that shows this image
abbrev pub kept : List ℕ → List ℕ → List Call → List Bool → History
kept image first [] oks = Start image
kept image first (call ∷ calls) oks = replayed (Start first) (call ∷ calls) oks

pub after-answered : (history : History) (calls : List Call) (oks : List Bool)
    → after_made (λ moment image. image) history (all_answered calls oks) ≡ replayed history calls oks
after-answered history [] oks = refl
after-answered history (call ∷ calls) [] = refl
after-answered history (call ∷ calls) (true ∷ oks) = after-answered (Did history call) calls oks
after-answered history (call ∷ calls) (false ∷ oks) = after-answered (Failed history call (held history)) calls oks

-- the history of what is kept, call by call
pub history-kept : (image first : List ℕ) (calls : List Call) (oks : List Bool)
    → history_of (unharmed (first_kept image first calls)) (all_answered calls oks) ≡ kept image first calls oks
history-kept image first [] oks = refl
history-kept image first (call ∷ calls) oks = after-answered (Start first) (call ∷ calls) oks

and_left : (a b : Bool) → (a && b) ≡ true → a ≡ true
and_left true b is = refl
and_left false b is = is

and_right : (a b : Bool) → (a && b) ≡ true → b ≡ true
and_right true b is = is
and_right false b is = cc

within_of : (image : List ℕ) (call : Call) → fits image call ≡ true → IsWithin (length image) call
within_of image (Write at bytes) fit = leb-true (at + length bytes) (length image) fit
within_of image Sync fit = tt
within_of image (SetLen len) fit = tt

-- one more call
lawful_noted : (history : History) (call : Call) (ok : Bool) → IsLawful history → writes_fit (noted history call ok) ≡ true
    → IsLawful (noted history call ok)
lawful_noted history call true lawful fit =
    (lawful, within_of (held history) call (and_right (writes_fit history) (fits (held history) call) fit))
lawful_noted history call false lawful fit = (lawful, record { size = inl refl; kept = λ k lt lt' spares. refl })

fit_before : (history : History) (call : Call) (ok : Bool) → writes_fit (noted history call ok) ≡ true → writes_fit history ≡ true
fit_before history call true fit = and_left (writes_fit history) (fits (held history) call) fit
fit_before history call false fit = fit

fit_at_first : (history : History) (calls : List Call) (oks : List Bool) → writes_fit (replayed history calls oks) ≡ true
    → writes_fit history ≡ true
fit_at_first history [] oks fit = fit
fit_at_first history (call ∷ calls) [] fit = fit
fit_at_first history (call ∷ calls) (ok ∷ oks) fit = fit_before history call ok (fit_at_first (noted history call ok) calls oks fit)

lawful_replayed : (history : History) (calls : List Call) (oks : List Bool) → IsLawful history
    → writes_fit (replayed history calls oks) ≡ true → IsLawful (replayed history calls oks)
lawful_replayed history [] oks lawful fit = lawful
lawful_replayed history (call ∷ calls) [] lawful fit = lawful
lawful_replayed history (call ∷ calls) (ok ∷ oks) lawful fit =
    lawful_replayed (noted history call ok) calls oks
    (lawful_noted history call ok lawful (fit_at_first (noted history call ok) calls oks fit)) fit

lawful_kept : (image first : List ℕ) (calls : List Call) (oks : List Bool) → writes_fit (kept image first calls oks) ≡ true
    → IsLawful (kept image first calls oks)
lawful_kept image first [] oks fit = tt
lawful_kept image first (call ∷ calls) oks fit = lawful_replayed (Start first) (call ∷ calls) oks tt fit

pub kept_lawful : (image first : List ℕ) (calls : List Call) (oks : List Bool)
    → writes_fit (history_of (unharmed (first_kept image first calls)) (all_answered calls oks)) ≡ true
    → IsLawful (history_of (unharmed (first_kept image first calls)) (all_answered calls oks))
kept_lawful image first calls oks =
    let P : History → Type 0 = λ h. writes_fit h ≡ true → IsLawful h in
    subst P (sym (history-kept image first calls oks)) (lawful_kept image first calls oks)
