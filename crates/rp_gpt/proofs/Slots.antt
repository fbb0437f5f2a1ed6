-- The slots in use, one slot further, and at a slot that is out of order.
use Rattle.std.proofs.Common.{◌≡◌, ℕ, zero, suc, ◌+◌, ◌-◌, ◌*◌, ◌^◌, ◌<◌, ◌≤◌, true, false, cond, List, [], ◌∷◌, ◌++◌, Option, Some, None, refl, ap, ◌∙◌, arith}
use Rattle.std.specs.Prelude.{IsTrue, Bool, not, filter}
use Rattle.std.specs.Option.{option_or}
use Rattle.std.specs.List.{range_with_len}
use Rattle.std.proofs.Math.Nat.{suc-add, zero-add, add-zero}
use Rattle.std.proofs.lemmas.Bool.{leb-true}
use Rattle.std.proofs.lemmas.List.{map-append, append-nil}
use Rattle.std.proofs.lemmas.List.Elements.{filter-append}
use Rattle.std.proofs.lemmas.List.Folds.{find-append}
use Rattle.rp_base.specs.Geometry.{sector_units}
use Rattle.rp_gpt.specs.Fields.{first_lba, last_lba}
use Rattle.rp_gpt.specs.Copy.{entry_of, is_used, is_ordered, used_slots, rows_of, row_of, unordered_slot}
use Rattle.rp_gpt.proofs.Parts.{both}

-- what the test of an entry's LBAs says
pub ordered_bounds : (sector : ℕ) (entry : List ℕ) → IsTrue (is_ordered sector entry) → (first_lba entry ≤ last_lba entry) × (sector_units sector * (last_lba entry + 1) ≤ 2 ^ 35)
unfolding is_ordered
ordered_bounds sector entry h = let p = both _ _ h in (leb-true _ _ p.0, leb-true _ _ p.1)

-- n numbers and k more
pub range_split : (a n k : ℕ) → range_with_len a (n + k) ≡ range_with_len a n ++ range_with_len (a + n) k
range_split a zero k = rw (add-zero a, zero-add k) refl
range_split a (suc n) k =
    rw suc-add (ap (λ xs. a ∷ xs) (range_split (a + 1) n k ∙ ap (λ b. range_with_len (a + 1) n ++ range_with_len b k) (omega arith)))

-- the slots below n, the slot n, and those after it
pub slots_split : (n m : ℕ) → n < m → range_with_len 0 m ≡ range_with_len 0 n ++ n ∷ range_with_len (n + 1) (m - n - 1)
slots_split n m h =
    let e : m ≡ n + suc (m - n - 1) = omega arith in
    ap (range_with_len 0) e ∙ range_split 0 n (suc (m - n - 1)) ∙ ap (λ b. range_with_len 0 n ++ b ∷ range_with_len (b + 1) (m - n - 1)) (zero-add n)

-- no slot
pub rows_of-zero : (sector : ℕ) (array : List ℕ) → rows_of sector array 0 ≡ []
unfolding rows_of used_slots
rows_of-zero sector array = refl

pub unordered-zero : (sector : ℕ) (array : List ℕ) → unordered_slot sector array 0 ≡ None
unfolding unordered_slot used_slots
unordered-zero sector array = refl

-- neither of two options is there
no_or : {T : Type 0} (a b : Option T) → option_or a b ≡ None → b ≡ None
no_or None b h = h
no_or (Some x) b h = cc

none_ordered : (ordered : Bool) (slot : ℕ) (rest : Option ℕ) → cond (not ordered) (Some slot) rest ≡ None → ordered ≡ true
none_ordered true slot rest h = refl
none_ordered false slot rest h = cc

module _ (sector : ℕ) (array : List ℕ) (n : ℕ) where
  -- one slot more
  pub used_more : used_slots array (n + 1) ≡ used_slots array n ++ cond (is_used (entry_of array n)) (n ∷ []) []
  unfolding used_slots
  used_more =
      let test = λ (slot : ℕ). is_used (entry_of array slot) in
      ap (filter test) (range_split 0 n 1) ∙ filter-append test (range_with_len 0 n) (range_with_len (0 + n) 1) ∙ rw zero-add refl

  pub rows_of-unused : is_used (entry_of array n) ≡ false → rows_of sector array (n + 1) ≡ rows_of sector array n
  unfolding rows_of
  rows_of-unused h = rw (used_more, h, append-nil) refl

  pub rows_of-used : is_used (entry_of array n) ≡ true → rows_of sector array (n + 1) ≡ rows_of sector array n ++ row_of sector (entry_of array n) n ∷ []
  unfolding rows_of
  rows_of-used h = rw (used_more, h) (map-append _ _ _)

  pub unordered-unused : is_used (entry_of array n) ≡ false → unordered_slot sector array n ≡ None → unordered_slot sector array (n + 1) ≡ None
  unfolding unordered_slot
  unordered-unused h e = rw (used_more, h, append-nil) e

  pub unordered-used : is_used (entry_of array n) ≡ true → is_ordered sector (entry_of array n) ≡ true → unordered_slot sector array n ≡ None → unordered_slot sector array (n + 1) ≡ None
  unfolding unordered_slot
  unordered-used h o e = rw (used_more, h, find-append, e, o) refl

  -- the first slot in use that is out of order
  pub unordered-found : (m : ℕ) → n < m → is_used (entry_of array n) ≡ true → is_ordered sector (entry_of array n) ≡ false → unordered_slot sector array n ≡ None → unordered_slot sector array m ≡ Some n
  unfolding unordered_slot used_slots
  unordered-found m below h o e = rw (slots_split n m below, filter-append, find-append, e, h, o) refl

  -- where no slot is out of order, no used one is
  pub ordered_at : (m : ℕ) → n < m → unordered_slot sector array m ≡ None → is_used (entry_of array n) ≡ true → is_ordered sector (entry_of array n) ≡ true
  unfolding unordered_slot used_slots
  ordered_at m below none used = none_ordered _ n _ (no_or _ _ (rw (slots_split n m below, filter-append, find-append, used) at none))
