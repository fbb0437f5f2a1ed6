-- Calls that write what an image is to hold: at each byte that they cover, the value that is planned for it.
use Rattle.std.proofs.Common.{◌≡◌, ℕ, zero, suc, ◌+◌, ◌-◌, ◌<◌, ◌≤◌, ◌⊎◌, inl, inr, List, [], ◌∷◌, ◌++◌, length, get_or, drop, map, flat_map, sym, ap, ◌∙◌, subst, arith}
use Rattle.std.specs.List.{range_with_len}
use Rattle.std.proofs.lemmas.Bool.{cases_lt}
use Rattle.std.proofs.lemmas.List.{get_or-drop, get_or-take}
use Rattle.rp_base.specs.Image.{bytes_at}
use Rattle.rp_disk.specs.declared.call.Call.{Call}
use Rattle.rp_disk.specs.declared.call.Call.TheVariants.{Write, Sync, SetLen}
use Rattle.rp_disk.specs.Calls.{all_done, done, overwritten}
use Rattle.rp_disk.specs.Ranges.{Inside}
use Rattle.rp_disk.specs.Stops.{Each}
use Rattle.rp_disk.proofs.Agreeing.{get_or-overwritten}
use Rattle.rp_disk.proofs.Ranges.{bytes_at-overwritten, bytes_at-take, length-done}

-- a byte of a range
pub get_or-range : (image : List ℕ) (at n k : ℕ) → k < n → get_or (bytes_at image at n) k 0 ≡ get_or image (at + k) 0
get_or-range image at n k below =
    ap (λ (l : List ℕ). get_or l k 0) (bytes_at-take image at n) ∙ get_or-take n (drop at image) k 0 below ∙ get_or-drop at image k 0

-- the call is a write between two places, of the value that is planned for each byte
abbrev pub Writes : (ℕ → ℕ) → ℕ → ℕ → Call → Type 0
Writes value low high (Write at bytes) =
    (low ≤ at) × (at + length bytes ≤ high) × ((i : ℕ) → i < length bytes → get_or bytes i 0 ≡ value (at + i))
Writes value low high Sync = ⊥
Writes value low high (SetLen len) = ⊥

-- the call is a write that covers byte k
abbrev pub Covers : ℕ → Call → Type 0
Covers k (Write at bytes) = (at ≤ k) × (k < at + length bytes)
Covers k Sync = ⊥
Covers k (SetLen len) = ⊥

-- one of the calls does
abbrev pub Covered : ℕ → List Call → Type 0
Covered k [] = ⊥
Covered k (call ∷ calls) = Covers k call ⊎ Covered k calls

-- where the call covers byte k, it puts this value there
abbrev pub Puts : ℕ → ℕ → Call → Type 0
Puts k v (Write at bytes) = at ≤ k → k < at + length bytes → get_or bytes (k - at) 0 ≡ v
Puts k v Sync = Unit {0}
Puts k v (SetLen len) = Unit {0}

pub Covered-left : (k : ℕ) (xs ys : List Call) → Covered k xs → Covered k (xs ++ ys)
Covered-left k [] ys covered = absurd covered
Covered-left k (x ∷ xs) ys (inl here) = inl here
Covered-left k (x ∷ xs) ys (inr later) = inr (Covered-left k xs ys later)

pub Covered-right : (k : ℕ) (xs ys : List Call) → Covered k ys → Covered k (xs ++ ys)
Covered-right k [] ys covered = covered
Covered-right k (x ∷ xs) ys covered = inr (Covered-right k xs ys covered)

pub Each-append : (P : Call → Type 0) (xs ys : List Call) → Each P xs → Each P ys → Each P (xs ++ ys)
Each-append P [] ys x y = y
Each-append P (call ∷ xs) ys x y = (x.0, Each-append P xs ys x.1 y)

pub Each-flat_map : {X : Type 0} (P : Call → Type 0) (f : X → List Call) (xs : List X)
    → ((j : ℕ) (d : X) → j < length xs → Each P (f (get_or xs j d))) → Each P (flat_map f xs)
Each-flat_map P f [] each = tt
Each-flat_map P f (x ∷ xs) each =
    Each-append P (f x) (flat_map f xs) (each 0 x (omega arith)) (Each-flat_map P f xs (λ j d below. each (suc j) d (omega arith)))

pub Covered-flat_map : {X : Type 0} (k : ℕ) (f : X → List Call) (xs : List X) (j : ℕ) (d : X) → j < length xs
    → Covered k (f (get_or xs j d)) → Covered k (flat_map f xs)
Covered-flat_map k f [] j d below covered = absurd (omega arith)
Covered-flat_map k f (x ∷ xs) zero d below covered = Covered-left k (f x) (flat_map f xs) covered
Covered-flat_map k f (x ∷ xs) (suc j) d below covered =
    Covered-right k (f x) (flat_map f xs) (Covered-flat_map k f xs j d (omega arith) covered)

-- calls made of numbers in a row
pub Each-map : (P : Call → Type 0) (f : ℕ → Call) (a n : ℕ) → ((j : ℕ) → a ≤ j → j < a + n → P (f j)) → Each P (map f (range_with_len a n))
Each-map P f a zero each = tt
Each-map P f a (suc n) each = (each a (omega arith) (omega arith), Each-map P f (a + 1) n (λ j low high. each j (omega arith) (omega arith)))

pub Covered-map : (k : ℕ) (f : ℕ → Call) (a n j : ℕ) → a ≤ j → j < a + n → Covers k (f j) → Covered k (map f (range_with_len a n))
Covered-map k f a zero j low high covers = absurd (omega arith)
Covered-map k f a (suc n) j low high covers =
    step (cases_lt a j) (λ (above : a < j). Covered-map k f (a + 1) n j (omega arith) (omega arith) covers) where
      step : (a < j) ⊎ (j ≤ a) → (a < j → Covered k (map f (range_with_len (a + 1) n))) → Covered k (map f (range_with_len a (suc n)))
      step (inl above) later = inr (later above)
      step (inr here) later = let same : j ≡ a = omega arith in inl (subst (λ (i : ℕ). Covers k (f i)) same covers)

-- a write puts what is planned
pub puts_of : (value : ℕ → ℕ) (low high k : ℕ) (call : Call) → Writes value low high call → Puts k (value k) call
puts_of value low high k (Write at bytes) writes = λ from to.
    writes.2 (k - at) (omega arith) ∙ ap value (let e : at + (k - at) ≡ k = omega arith in e)
puts_of value low high k Sync writes = absurd writes
puts_of value low high k (SetLen len) writes = absurd writes

-- a write elsewhere puts nothing at byte k
pub puts_none : (value : ℕ → ℕ) (low high k v : ℕ) (call : Call) → (k < low) ⊎ (high ≤ k) → Writes value low high call → Puts k v call
puts_none value low high k v (Write at bytes) (inl below) writes = λ from to. let a = writes.0 in absurd (omega arith)
puts_none value low high k v (Write at bytes) (inr above) writes = λ from to. let b = writes.1 in absurd (omega arith)
puts_none value low high k v Sync apart writes = absurd writes
puts_none value low high k v (SetLen len) apart writes = absurd writes

pub inside_writes : (value : ℕ → ℕ) (low high n : ℕ) (call : Call) → high ≤ n → Writes value low high call → Inside n call
inside_writes value low high n (Write at bytes) fits writes = let b = writes.1 in omega arith
inside_writes value low high n Sync fits writes = absurd writes
inside_writes value low high n (SetLen len) fits writes = absurd writes

-- the byte of a write, where it covers it
pub get_or-written : (image : List ℕ) (at : ℕ) (bytes : List ℕ) (k : ℕ) → at + length bytes ≤ length image → at ≤ k → k < at + length bytes
    → get_or (overwritten image at bytes) k 0 ≡ get_or bytes (k - at) 0
get_or-written image at bytes k fits from to =
    let here : at + (k - at) ≡ k = omega arith in
    ap (λ i. get_or (overwritten image at bytes) i 0) (sym here)
    ∙ sym (get_or-range (overwritten image at bytes) at (length bytes) (k - at) (omega arith))
    ∙ ap (λ (l : List ℕ). get_or l (k - at) 0) (bytes_at-overwritten at bytes image fits)

one_byte : (call : Call) (image : List ℕ) (k v : ℕ) → Inside (length image) call → Puts k v call → (get_or image k 0 ≡ v) ⊎ Covers k call
    → get_or (done image call) k 0 ≡ v
one_byte (Write at bytes) image k v inside puts held = where_is (cases_lt k at) (cases_lt k (at + length bytes)) held where
  where_is : (k < at) ⊎ (at ≤ k) → (k < at + length bytes) ⊎ (at + length bytes ≤ k) → (get_or image k 0 ≡ v) ⊎ Covers k (Write at bytes)
      → get_or (overwritten image at bytes) k 0 ≡ v
  where_is (inl below) side (inl was) = get_or-overwritten image at bytes k inside (inl below) ∙ was
  where_is (inl below) side (inr covers) = let a = covers.0 in absurd (omega arith)
  where_is (inr from) (inl to) held = get_or-written image at bytes k inside from to ∙ puts from to
  where_is (inr from) (inr above) (inl was) = get_or-overwritten image at bytes k inside (inr above) ∙ was
  where_is (inr from) (inr above) (inr covers) = let b = covers.1 in absurd (omega arith)
one_byte Sync image k v inside puts (inl was) = was
one_byte Sync image k v inside puts (inr covers) = absurd covers
one_byte (SetLen len) image k v inside puts held = absurd inside

-- a byte that some call covers, or that held its value before, holds it when all calls are done that put it there
pub byte_done : (calls : List Call) (image : List ℕ) (n k v : ℕ) → length image ≡ n → Each (Inside n) calls → Each (Puts k v) calls
    → (get_or image k 0 ≡ v) ⊎ Covered k calls → get_or (all_done image calls) k 0 ≡ v
byte_done [] image n k v long inside puts (inl was) = was
byte_done [] image n k v long inside puts (inr covered) = absurd covered
byte_done (call ∷ calls) image n k v long inside puts held =
    let here : Inside (length image) call = subst (λ (m : ℕ). Inside m call) (sym long) inside.0 in
    byte_done calls (done image call) n k v (length-done call image here ∙ long) inside.1 puts.1 (after here held) where
      after : Inside (length image) call → (get_or image k 0 ≡ v) ⊎ (Covers k call ⊎ Covered k calls) → (get_or (done image call) k 0 ≡ v) ⊎ Covered k calls
      after here (inl was) = inl (one_byte call image k v here puts.0 (inl was))
      after here (inr (inl covers)) = inl (one_byte call image k v here puts.0 (inr covers))
      after here (inr (inr later)) = inr later
