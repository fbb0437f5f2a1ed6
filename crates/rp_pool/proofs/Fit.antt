-- Which runs are free, and where the first of them is.
use Rattle.std.proofs.Common.{◌⊎◌, subst, ◌≡◌, ℕ, zero, suc, ◌+◌, ◌<◌, ◌≤◌, Bool, true, false, cond, List, [], ◌∷◌, length, get_or, map, Some, None, arith, refl, ap, sym, ◌∙◌, zero-add, leb, ◌&&◌}
use Rattle.std.specs.Prelude.{find, count_by}
use Rattle.std.specs.List.{enumerate_from, list_all, range_with_len}
use Rattle.std.proofs.lemmas.Bool.{and_from, le-leb}
use Rattle.std.proofs.lemmas.Bool.Decides.{nat_tests}
use Rattle.std.proofs.lemmas.List.Folds.{list_all_at}
use Rattle.std.proofs.lemmas.List.FromFn.{get_or-enumerate_from, length-enumerate_from}
use Rattle.std.proofs.lemmas.List.Sums.{sum_by-cons}
use Rattle.rp_pool.specs.Region.{Run, apart, is_free}

abbrev pub run_of : ℕ → ℕ → Run
run_of first blocks = record { first = first; blocks = blocks }

apart_true : (f n s m : ℕ) → (m ≡ 0) ⊎ ((f + n ≤ s) ⊎ (s + m ≤ f)) → apart (run_of f n) (run_of s m) ≡ true
apart_true f n s m h = grind (arith, nat_tests)

apart_false : (f n s m : ℕ) → 0 < m → s < f + n → f < s + m → apart (run_of f n) (run_of s m) ≡ false
apart_false f n s m some before behind = grind (arith, nat_tests)

and_false : (b : Bool) → (b && false) ≡ false
and_false true = refl
and_false false = refl

-- a test of each item with its place
all_from : (p : ℕ × ℕ → Bool) (k : ℕ) (xs : List ℕ) → ((i : ℕ) → i < length xs → p (k + i, get_or xs i 0) ≡ true)
    → list_all p (enumerate_from k xs) ≡ true
all_from p k [] h = refl
all_from p k (x ∷ xs) h =
    let here : k + 0 ≡ k = omega arith in
    and_from _ _ (subst (λ j. p (j, x) ≡ true) here (h 0 (omega arith)))
    (all_from p (k + 1) xs (λ i l.
    let there : k + suc i ≡ k + 1 + i = omega arith in
    subst (λ j. p (j, get_or xs i 0) ≡ true) there (h (suc i) (omega arith))))

-- a run that shares no block with one that is out is free
pub is_free_true : (out : List ℕ) (f n : ℕ) → f + n ≤ length out
    → ((s : ℕ) → s < length out → (get_or out s 0 ≡ 0) ⊎ ((f + n ≤ s) ⊎ (s + get_or out s 0 ≤ f)))
    → is_free out (run_of f n) ≡ true
is_free_true out f n within h = and_from _ _ (le-leb (f + n) (length out) within)
    (all_from (λ e. apart (run_of f n) (run_of e.0 e.1)) 0 out (λ i l.
    subst (λ j. apart (run_of f n) (run_of j (get_or out i 0)) ≡ true) (sym (zero-add i)) (apart_true f n i (get_or out i 0) (h i l))))

-- one that ends behind the region isn't
pub is_free_past : (out : List ℕ) (f n : ℕ) → length out < f + n → is_free out (run_of f n) ≡ false
is_free_past out f n past = past_false (f + n) (length out) _ past where
  past_false : (a b : ℕ) (r : Bool) → b < a → (leb a b && r) ≡ false
  past_false a b r past = grind (arith, nat_tests)

-- nor is one that shares a block with a run that is out
pub is_free_met : (out : List ℕ) (f n s : ℕ) → s < length out → 0 < get_or out s 0 → s < f + n → f < s + get_or out s 0
    → is_free out (run_of f n) ≡ false
is_free_met out f n s below some before behind =
    let l : s < length (enumerate_from 0 out) = rw length-enumerate_from below in
    let at : get_or (enumerate_from 0 out) s (0, 0) ≡ (s, get_or out s 0) =
    get_or-enumerate_from 0 out s (0, 0) below ∙ ap (λ j. (j, get_or out s 0)) (zero-add s) in
    let met = list_all_at (λ (e : ℕ × ℕ). apart (run_of f n) (run_of e.0 e.1)) (enumerate_from 0 out) s (0, 0) l
    (ap (λ (e : ℕ × ℕ). apart (run_of f n) (run_of e.0 e.1)) at ∙ apart_false f n s (get_or out s 0) some before behind) in
    ap (λ b. leb (f + n) (length out) && b) met ∙ and_false (leb (f + n) (length out))

-- none of these runs passes the test
pub find_none : (p : Run → Bool) (n a k : ℕ) → ((f : ℕ) → a ≤ f → f < a + k → p (run_of f n) ≡ false)
    → find p (map (λ f. run_of f n) (range_with_len a k)) ≡ None
find_none p n a zero h = refl
find_none p n a (suc k) h =
    ap (λ b. cond b (Some (run_of a n)) (find p (map (λ f. run_of f n) (range_with_len (a + 1) k)))) (h a (omega arith) (omega arith))
    ∙ find_none p n (a + 1) k (λ f low high. h f (omega arith) (omega arith))

-- the first of these runs that passes
pub find_some : (p : Run → Bool) (n a i k j : ℕ) → a + i ≡ j → i < k → ((f : ℕ) → a ≤ f → f < j → p (run_of f n) ≡ false)
    → p (run_of j n) ≡ true → find p (map (λ f. run_of f n) (range_with_len a k)) ≡ Some (run_of j n)
find_some p n a i zero j e below h is = absurd (omega arith)
find_some p n a zero (suc k) j e below h is =
    let same : j ≡ a = omega arith in
    let passes : p (run_of a n) ≡ true = subst (λ x. p (run_of x n) ≡ true) same is in
    ap (λ b. cond b (Some (run_of a n)) (find p (map (λ f. run_of f n) (range_with_len (a + 1) k)))) passes
    ∙ ap (λ x. Some (run_of x n)) (sym same)
find_some p n a (suc i) (suc k) j e below h is =
    ap (λ b. cond b (Some (run_of a n)) (find p (map (λ f. run_of f n) (range_with_len (a + 1) k)))) (h a (omega arith) (omega arith))
    ∙ find_some p n (a + 1) i k j (omega arith) (omega arith) (λ f low high. h f (omega arith) (omega arith)) is

-- none of these blocks counts
pub count_none : (p : ℕ → Bool) (a m k l : ℕ) → m + l ≡ k → ((b : ℕ) → a ≤ b → b < a + m → p b ≡ false)
    → count_by p (range_with_len a k) ≡ count_by p (range_with_len (a + m) l)
count_none p a zero k l e h =
    let same : l ≡ k = omega arith in
    let here : a ≡ a + 0 = omega arith in
    ap (λ x. count_by p (range_with_len a x)) (sym same) ∙ ap (λ x. count_by p (range_with_len x l)) here
count_none p a (suc m) zero l e h = absurd (omega arith)
count_none p a (suc m) (suc k) l e h =
    let next : a + 1 + m ≡ a + suc m = omega arith in
    sum_by-cons (λ b. cond (p b) 1 0) a (range_with_len (a + 1) k)
    ∙ ap (λ b. cond b 1 0 + count_by p (range_with_len (a + 1) k)) (h a (omega arith) (omega arith))
    ∙ zero-add (count_by p (range_with_len (a + 1) k)) ∙ count_none p (a + 1) m k l (omega arith) (λ b low high. h b (omega arith) (omega arith))
    ∙ ap (λ x. count_by p (range_with_len x l)) next
