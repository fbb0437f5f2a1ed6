-- What calls, done whole or in part, leave of an image, byte by byte.
use Rattle.std.proofs.Common.{ℕ, List, [], ◌∷◌, ◌++◌, ◌≡◌, ◌⊎◌, ◌+◌, ◌-◌, ◌<◌, ◌≤◌, take, drop, length, get_or, refl, sym, ◌∙◌, ap, subst, inl, inr, ⊎_elim, arith}
use Rattle.std.proofs.lemmas.List.{get_or-drop, get_or-append_right, ext_get_or, length-take-le}
use Rattle.std.proofs.lemmas.Grind.{common_steps}
use Rattle.rp_disk.specs.declared.call.Call.{Call}
use Rattle.rp_disk.specs.declared.call.Call.TheVariants.{Write, Sync, SetLen}
use Rattle.rp_disk.specs.Calls.{overwritten, resized, done, IsWithin}
use Rattle.rp_disk.specs.Stops.{Each, SetsLength, EndsBefore, Spares, Agrees}
use Rattle.rp_disk.specs.History.{History, Start, Did, Failed, held, settled_bytes, pending_calls, MayLeave, IsLawful}

-- lists of calls

pub Each-left : (P : Call → Type 0) (xs ys : List Call) → Each P (xs ++ ys) → Each P xs
Each-left P [] ys each = tt
Each-left P (x ∷ xs) ys each = (each.0, Each-left P xs ys each.1)

pub Each-right : (P : Call → Type 0) (xs ys : List Call) → Each P (xs ++ ys) → Each P ys
Each-right P [] ys each = each
Each-right P (x ∷ xs) ys each = Each-right P xs ys each.1

pub SetsLength-left : (xs ys : List Call) (n : ℕ) → SetsLength xs n → SetsLength (xs ++ ys) n
SetsLength-left [] ys n sets = absurd sets
SetsLength-left (Write at bytes ∷ xs) ys n sets = SetsLength-left xs ys n sets
SetsLength-left (Sync ∷ xs) ys n sets = SetsLength-left xs ys n sets
SetsLength-left (SetLen m ∷ xs) ys n (inl here) = inl here
SetsLength-left (SetLen m ∷ xs) ys n (inr there) = inr (SetsLength-left xs ys n there)

pub SetsLength-right : (xs ys : List Call) (n : ℕ) → SetsLength ys n → SetsLength (xs ++ ys) n
SetsLength-right [] ys n sets = sets
SetsLength-right (Write at bytes ∷ xs) ys n sets = SetsLength-right xs ys n sets
SetsLength-right (Sync ∷ xs) ys n sets = SetsLength-right xs ys n sets
SetsLength-right (SetLen m ∷ xs) ys n sets = inr (SetsLength-right xs ys n sets)

pub Spares-left : (k : ℕ) (xs ys : List Call) → Spares k (xs ++ ys) → Spares k xs
Spares-left k [] ys spares = tt
Spares-left k (Write at bytes ∷ xs) ys spares = (spares.0, Spares-left k xs ys spares.1)
Spares-left k (Sync ∷ xs) ys spares = Spares-left k xs ys spares
Spares-left k (SetLen len ∷ xs) ys spares =
    (⊎_elim (λ below. inl below) (λ each. inr (Each-left (EndsBefore k) xs ys each)) spares.0, Spares-left k xs ys spares.1)

pub Spares-right : (k : ℕ) (xs ys : List Call) → Spares k (xs ++ ys) → Spares k ys
Spares-right k [] ys spares = spares
Spares-right k (Write at bytes ∷ xs) ys spares = Spares-right k xs ys spares.1
Spares-right k (Sync ∷ xs) ys spares = Spares-right k xs ys spares
Spares-right k (SetLen len ∷ xs) ys spares = Spares-right k xs ys spares.1

-- a byte that all calls spare lies below a length that the first of them set, or no later one takes the end past it
below_or_ended : (k n : ℕ) (xs ys : List Call) → Spares k (xs ++ ys) → SetsLength xs n → (k < n) ⊎ Each (EndsBefore k) ys
below_or_ended k n [] ys spares sets = absurd sets
below_or_ended k n (Write at bytes ∷ xs) ys spares sets = below_or_ended k n xs ys spares.1 sets
below_or_ended k n (Sync ∷ xs) ys spares sets = below_or_ended k n xs ys spares sets
below_or_ended k n (SetLen m ∷ xs) ys spares (inl here) =
    ⊎_elim (λ below. inl (subst (λ (j : ℕ). k < j) (sym here) below)) (λ each. inr (Each-right (EndsBefore k) xs ys each)) spares.0
below_or_ended k n (SetLen m ∷ xs) ys spares (inr there) = below_or_ended k n xs ys spares.1 there

ends_before : (k n : ℕ) (calls : List Call) → Each (EndsBefore k) calls → SetsLength calls n → n ≤ k
ends_before k n [] each sets = absurd sets
ends_before k n (Write at bytes ∷ calls) each sets = ends_before k n calls each.1 sets
ends_before k n (Sync ∷ calls) each sets = ends_before k n calls each.1 sets
ends_before k n (SetLen m ∷ calls) each (inl here) = subst (λ (j : ℕ). j ≤ k) (sym here) each.0
ends_before k n (SetLen m ∷ calls) each (inr there) = ends_before k n calls each.1 there

-- images that agree

-- nothing that was done is one of the things that a stop leaves
pub agrees-same : (image : List ℕ) (later : List Call) → Agrees image later image
agrees-same image later = record { size = inl refl; kept = λ k lt lt' spares. refl }

-- where no call is pending a stop leaves the image alone
pub agrees-none : (image new : List ℕ) → Agrees image [] new → new ≡ image
agrees-none image new agrees =
    let same : length new ≡ length image = ⊎_elim (λ same. same) (λ none. absurd none) agrees.size in
    ext_get_or 0 new image same (λ k lt. agrees.kept k (omega arith) lt tt)

-- nor does a sync change it
pub agrees-sync : (image new : List ℕ) → Agrees image (Sync ∷ []) new → new ≡ image
agrees-sync image new agrees =
    let same : length new ≡ length image = ⊎_elim (λ same. same) (λ none. absurd none) agrees.size in
    ext_get_or 0 new image same (λ k lt. agrees.kept k (omega arith) lt tt)

-- one after another
pub agrees-then : (image middle new : List ℕ) (xs ys : List Call) → Agrees image xs middle → Agrees middle ys new
    → Agrees image (xs ++ ys) new
agrees-then image middle new xs ys a b = record {
  size = elim b.size [
    | inr sets ↦ inr (SetsLength-right xs ys (length new) sets)
    | inl same ↦ elim a.size [
      | inl same' ↦ inl (same ∙ same')
      | inr sets ↦ inr (SetsLength-left xs ys (length new) (subst (SetsLength xs) (sym same) sets))
    ]
  ];
  kept = λ k lt lt' spares.
      let here : k < length middle = elim a.size [
        | inl same ↦ omega arith
        | inr sets ↦ elim (below_or_ended k (length middle) xs ys spares sets) [
          | inl below ↦ below
          | inr each ↦ elim b.size [ inl same ↦ omega arith | inr sets' ↦ absurd (omega (arith, ends_before k (length new) ys each sets')) ]
        ]
      ] in
      b.kept k here lt' (Spares-right k xs ys spares) ∙ a.kept k lt here (Spares-left k xs ys spares);
}

-- more pending calls allow more
pub agrees-more : (image : List ℕ) (xs ys : List Call) (new : List ℕ) → Agrees image xs new → Agrees image (xs ++ ys) new
agrees-more image xs ys new agrees = agrees-then image new new xs ys agrees (agrees-same new ys)

-- calls that were done whole

pub length-overwritten : (image : List ℕ) (at : ℕ) (bytes : List ℕ) → at + length bytes ≤ length image
    → length (overwritten image at bytes) ≡ length image
length-overwritten image at bytes fits = grind (arith, common_steps)

pub get_or-overwritten : (image : List ℕ) (at : ℕ) (bytes : List ℕ) (k : ℕ) → at + length bytes ≤ length image
    → (k < at) ⊎ (at + length bytes ≤ k)
    → get_or (overwritten image at bytes) k 0 ≡ get_or image k 0
get_or-overwritten image at bytes k fits (inl below) = grind (arith, common_steps)
get_or-overwritten image at bytes k fits (inr above) =
    get_or-append_right (take at image) (bytes ++ drop (at + length bytes) image) at k 0 (length-take-le at image (omega arith)) (omega arith)
    ∙ get_or-append_right bytes (drop (at + length bytes) image) (length bytes) (k - at) 0 refl (omega arith)
    ∙ get_or-drop (at + length bytes) image (k - at - length bytes) 0
    ∙ ap (λ (i : ℕ). get_or image i 0) (omega arith)

pub length-resized : (image : List ℕ) (len : ℕ) → length (resized image len) ≡ len
length-resized image len = grind (arith, common_steps)

pub get_or-resized : (image : List ℕ) (len k : ℕ) → k < length image → k < len → get_or (resized image len) k 0 ≡ get_or image k 0
get_or-resized image len k lt below = grind (arith, common_steps)

-- a call that was done whole is one of the things that a stop may leave of it
pub agrees-done : (image : List ℕ) (call : Call) → IsWithin (length image) call → Agrees image (call ∷ []) (done image call)
agrees-done image (Write at bytes) inside =
    record { size = inl (length-overwritten image at bytes inside); kept = λ k lt lt' spares. get_or-overwritten image at bytes k inside spares.0 }
agrees-done image Sync inside = agrees-same image (Sync ∷ [])
agrees-done image (SetLen len) inside = record {
  size = inr (inl (length-resized image len));
  kept = λ k lt lt' spares. get_or-resized image len k lt (omega (arith, length-resized image len));
}

-- what a lawful disk shows is among what a stop now may leave
pub shown_left : (history : History) → IsLawful history → MayLeave history (held history)
shown_left (Start bytes) lawful = agrees-same bytes []
shown_left (Did before (Write at bytes)) lawful =
    agrees-then (settled_bytes before) (held before) (done (held before) (Write at bytes)) (pending_calls before) (Write at bytes ∷ [])
    (shown_left before lawful.0) (agrees-done (held before) (Write at bytes) lawful.1)
shown_left (Did before Sync) lawful = agrees-same (held before) []
shown_left (Did before (SetLen len)) lawful =
    agrees-then (settled_bytes before) (held before) (done (held before) (SetLen len)) (pending_calls before) (SetLen len ∷ [])
    (shown_left before lawful.0) (agrees-done (held before) (SetLen len) lawful.1)
shown_left (Failed before (Write at bytes) after) lawful =
    agrees-then (settled_bytes before) (held before) after (pending_calls before) (Write at bytes ∷ []) (shown_left before lawful.0) lawful.1
shown_left (Failed before Sync after) lawful =
    subst (MayLeave before) (sym (agrees-sync (held before) after lawful.1)) (shown_left before lawful.0)
shown_left (Failed before (SetLen len) after) lawful =
    agrees-then (settled_bytes before) (held before) after (pending_calls before) (SetLen len ∷ []) (shown_left before lawful.0) lawful.1
