-- Identifiers that are kept in order: what is found among them, and how they are kept.
use Rattle.std.proofs.Common.{◌≡◌, ◌≢◌, ℕ, zero, suc, ◌+◌, ◌<◌, ◌≤◌, ◌==◌, Bool, true, false, List, [], ◌∷◌, ◌++◌, length, get_or, take, drop, map, Result, Ok, Err, inl, inr, refl, sym, ◌∙◌, ap, arith, eq-eqb, replicate, true≢false}
use Rattle.std.specs.Prelude.{◌||◌, All, MatchResult, is_err, is_ok, insert, not, OnOk}
use Rattle.std.proofs.Common.{nat_cmp}
use Rattle.std.specs.List.{list_any}
use Rattle.std.specs.List.Sorted.{IsBinarySearchResult}
use Rattle.std.proofs.lemmas.Bool.{cases_lt, ne_eqb}
use Rattle.std.proofs.lemmas.Slice.Eq.{bytes_eq-Decides}
use Rattle.std.proofs.lemmas.List.{get_or_default, take_more}
use Rattle.std.proofs.lemmas.List.Elements.{All-append, All-cons, All-head, All-nil, All-tail}
use Rattle.std.proofs.lemmas.List.Folds.{list_any_more}
use Rattle.std.proofs.lemmas.List.Sorted.{IsNonDecreasingBy-from_default, IsNonDecreasingBy-insert, IsPermutation-insert, list_any-IsPermutation, searched}
use Rattle.rp_base.specs.declared.guid.Guid.{Guid}
use Rattle.rp_base.specs.declared.table.Row.{Row}
use Rattle.rp_ident.specs.Naming.{changed, given, is_used, is_zero, same_id, waits}
use Rattle.rp_ident.specs.Kept.{AreKept, IsId, IsPlaceFor, IsRising, number}
use Rattle.rp_ident.specs.declared.used.Used.{Used}
use Rattle.rp_ident.proofs.NumberLemmas.{number-some, number-zero, same-by_number}

any-found : (xs : List ℕ) (i n : ℕ) → i < length xs → get_or xs i 0 ≡ n → list_any (λ m. m == n) xs ≡ true
any-found [] i n inside here = absurd (omega arith)
any-found (x ∷ xs) zero n inside here = rw (eq-eqb x n here) refl
any-found (x ∷ xs) (suc i) n inside here = later (x == n) (any-found xs i n (omega arith) here) where
  later : (b : Bool) → list_any (λ m. m == n) xs ≡ true → (b || list_any (λ m. m == n) xs) ≡ true
  later true found = refl
  later false found = found

any-none : (xs : List ℕ) (n : ℕ) → ((k : ℕ) → k < length xs → get_or xs k 0 ≢ n) → list_any (λ m. m == n) xs ≡ false
any-none [] n others = refl
any-none (x ∷ xs) n others = rw (ne_eqb x n (others 0 (omega arith))) (any-none xs n (λ k inside. others (suc k) (omega arith)))

-- a search among numbers that don't fall finds a number exactly where it is there
pub searched-any : (xs : List ℕ) (n : ℕ) (result : Result ℕ ℕ) → IsBinarySearchResult (λ m. nat_cmp m n) xs result → IsRising xs
    → is_ok result ≡ list_any (λ m. m == n) xs
searched-any xs n (Ok i) found rising =
    let at = searched xs n (Ok i) found rising in
    sym (any-found xs i n at.0 at.1)
searched-any xs n (Err i) found rising =
    let at = searched xs n (Err i) found rising in
    sym (any-none xs n (other at.1 at.2)) where
      other : ((k : ℕ) → k < i → get_or xs k 0 < n) → ((k : ℕ) → i ≤ k → k < length xs → n < get_or xs k 0)
          → (k : ℕ) → k < length xs → get_or xs k 0 ≢ n
      other below above k inside same =
          elim (cases_lt k i) [
            | inl low ↦ let less : get_or xs k 0 < n = below k low in omega arith
            | inr high ↦ let more : n < get_or xs k 0 = above k high inside in omega arith
          ]

-- where it is put
pub place-found : (xs : List ℕ) (n i : ℕ) → IsBinarySearchResult (λ m. nat_cmp m n) xs (Ok i) → IsRising xs → IsPlaceFor xs n i
place-found xs n i found rising =
    let at = searched xs n (Ok i) found rising in
    let inside : i < length xs = at.0 in
    let here : get_or xs i 0 ≡ n = at.1 in
    record {
      before = λ k below. let up : get_or xs k 0 ≤ get_or xs i 0 = rising k i (omega arith) inside in omega arith;
      behind = λ k from end. let up : get_or xs i 0 ≤ get_or xs k 0 = rising i k from end in omega arith;
    }

pub place-missing : (xs : List ℕ) (n i : ℕ) → IsBinarySearchResult (λ m. nat_cmp m n) xs (Err i) → IsRising xs → IsPlaceFor xs n i
place-missing xs n i found rising =
    let at = searched xs n (Err i) found rising in
    record {
      before = λ k below. let less : get_or xs k 0 < n = at.1 k below in omega arith;
      behind = λ k from end. let more : n < get_or xs k 0 = at.2 k from end in omega arith;
    }

-- a number more keeps the order
pub insert-rising : (xs : List ℕ) (i n : ℕ) → i ≤ length xs → IsPlaceFor xs n i → IsRising xs → IsRising (insert xs i n)
insert-rising xs i n inside place rising a b upward end =
    IsNonDecreasingBy-insert (λ (x : ℕ). x) xs i n (IsNonDecreasingBy-from_default (λ (x : ℕ). x) xs 0 rising) inside
    (λ k d below.
    let same : get_or xs k d ≡ get_or xs k 0 = get_or_default xs k d 0 (omega arith) in
    let low : get_or xs k 0 ≤ n = place.before k below in
    omega arith)
    (λ k d from last.
    let same : get_or xs k d ≡ get_or xs k 0 = get_or_default xs k d 0 last in
    let high : n ≤ get_or xs k 0 = place.behind k from last in
    omega arith)
    a b 0 upward end

pub insert-any : (xs : List ℕ) (i n m : ℕ) → list_any (λ k. k == m) (insert xs i n) ≡ (n == m || list_any (λ k. k == m) xs)
insert-any xs i n m = sym (list_any-IsPermutation (λ k. k == m) (n ∷ xs) (insert xs i n) (IsPermutation-insert xs i n))

-- either, in the other order
pub or-swap : (a b c : Bool) → (a || (b || c)) ≡ (b || (a || c))
or-swap true true c = refl
or-swap true false c = refl
or-swap false true c = refl
or-swap false false c = refl

pub or-other : (a b : Bool) → (a || b) ≡ (b || a)
or-other true true = refl
or-other true false = refl
or-other false true = refl
or-other false false = refl

-- the rows have an identifier exactly where they have its number
pub any-rows : (rows : List Row) (id : Guid) → All (λ row. IsId row.id) rows → IsId id
    → list_any (λ row. number row.id == number id) rows ≡ is_used rows id
any-rows [] id ids is = refl
any-rows (row ∷ rows) id ids is =
    rw (same-by_number row.id id (All-head (λ (r : Row). IsId r.id) row rows ids) is, any-rows rows id (All-tail (λ (r : Row). IsId r.id) row rows ids) is) refl

-- a row without an identifier gets one
pub given-any : (rows : List Row) (place n : ℕ) (id : Guid) → n ≢ 0 → waits rows place ≡ true
    → list_any (λ row. number row.id == n) (given rows place id) ≡ (number id == n || list_any (λ row. number row.id == n) rows)
unfolding changed
given-any [] place n id some waiting = absurd (true≢false (sym waiting))
given-any (row ∷ rows) zero n id some waiting =
    let zeros : number row.id ≡ 0 = number-zero row.id waiting in
    let other : number row.id ≢ n = omega arith in
    rw (ne_eqb (number row.id) n other) refl
given-any (row ∷ rows) (suc place) n id some waiting =
    rw (given-any rows place n id some waiting)
    (or-swap (number row.id == n) (number id == n) (list_any (λ row. number row.id == n) rows))

pub given-ids : (rows : List Row) (place : ℕ) (id : Guid) → IsId id → All (λ row. IsId row.id) rows → All (λ row. IsId row.id) (given rows place id)
unfolding changed
given-ids [] place id is ids = ids
given-ids (row ∷ rows) zero id is ids =
    All-cons (λ (r : Row). IsId r.id) (record row { id = id }) rows is (All-tail (λ (r : Row). IsId r.id) row rows ids)
given-ids (row ∷ rows) (suc place) id is ids =
    All-cons (λ (r : Row). IsId r.id) row (given rows place id) (All-head (λ (r : Row). IsId r.id) row rows ids)
    (given-ids rows place id is (All-tail (λ (r : Row). IsId r.id) row rows ids))

either : (a b c : Bool) → (a || b) ≡ true → (b ≡ true → c ≡ true) → (a || c) ≡ true
either true b c used later = refl
either false b c used later = later used

-- what is used stays used
pub given-used : (rows : List Row) (place : ℕ) (id other : Guid) → is_zero other ≡ false → waits rows place ≡ true
    → is_used rows other ≡ true → is_used (given rows place id) other ≡ true
unfolding changed
given-used [] place id other some waiting used = absurd (true≢false (sym waiting))
given-used (row ∷ rows) zero id other some waiting used =
    here (same_id row.id other) (same_id id other) (is_used rows other) refl used where
      here : (a b c : Bool) → same_id row.id other ≡ a → (a || c) ≡ true → (b || c) ≡ true
      here true b c is used =
          let zeros : row.id.0 ≡ replicate 16 0 = (bytes_eq-Decides row.id.0 (replicate 16 0)).0 waiting in
          let same : row.id.0 ≡ other.0 = (bytes_eq-Decides row.id.0 other.0).0 is in
          let none : is_zero other ≡ true = (bytes_eq-Decides other.0 (replicate 16 0)).1 (sym same ∙ zeros) in
          absurd (cc)
      here false true c is used = refl
      here false false c is used = used
given-used (row ∷ rows) (suc place) id other some waiting used =
    either (same_id row.id other) (is_used rows other) (is_used (given rows place id) other) used (given-used rows place id other some waiting)

-- one row more
pub any-more : (rows : List Row) (i n : ℕ) (d : Row) (now old : Bool) → i < length rows
    → now ≡ (number (get_or rows i d).id == n || old) → old ≡ list_any (λ row. number row.id == n) (take i rows)
    → now ≡ list_any (λ row. number row.id == n) (take (i + 1) rows)
any-more rows i n d now old inside is before =
    is ∙ ap (λ (b : Bool). number (get_or rows i d).id == n || b) before
    ∙ or-other (number (get_or rows i d).id == n) (list_any (λ row. number row.id == n) (take i rows))
    ∙ sym (list_any_more (λ (row : Row). number row.id == n) rows i d inside)

pub ids-more : (rows : List Row) (i : ℕ) (d : Row) → i < length rows → IsId (get_or rows i d).id
    → All (λ row. IsId row.id) (take i rows) → All (λ row. IsId row.id) (take (i + 1) rows)
ids-more rows i d inside is ids =
    rw (take_more rows i d inside)
    (All-append (λ (row : Row). IsId row.id) (take i rows) (get_or rows i d ∷ []) ids
    (All-cons (λ (row : Row). IsId row.id) (get_or rows i d) [] is (All-nil (λ (row : Row). IsId row.id))))

-- nothing is kept of a row without an identifier
pub any-same : (a n : ℕ) (found : Bool) → a ≡ 0 → n ≢ 0 → found ≡ (a == n || found)
any-same a n found none some =
    let other : a ≢ n = omega arith in
    rw (ne_eqb a n other) refl

-- a test that failed, and a value that is there
pub not-true : (b : Bool) → not b ≡ true → b ≡ false
not-true true e = sym e
not-true false e = refl

pub not-false : (b : Bool) → not b ≡ false → b ≡ true
not-false true e = refl
not-false false e = sym e

pub when_ok : {A E P : Type 0} (result : Result A E) → is_err result ≡ false → OnOk result P → P
when_ok (Ok v) e p = p
when_ok (Err v) e p = absurd (true≢false e)

-- what is found among the numbers kept is what rows have
pub used-found : (rows : List Row) (used : Used) (id : Guid) (n : ℕ) (xs : List ℕ) (result : Result ℕ ℕ) (found : Bool)
    → AreKept rows used → used.whole ≡ true → is_zero id ≡ false → IsId id → n ≡ number id → xs ≡ used.numbers.items
    → IsBinarySearchResult (λ m. nat_cmp m n) xs result → found ≡ is_ok result → found ≡ is_used rows id
used-found rows used id n xs result found kept whole some is n_is xs_is position found_is =
    let rising : IsRising xs = rw xs_is kept.rising in
    let not_zero : number id ≢ 0 = number-some id is some in
    found_is ∙ searched-any xs n result position rising
    ∙ rw (xs_is, n_is) (kept.found whole (number id) not_zero ∙ any-rows rows id (kept.ids whole) is)

-- an identifier that was given is kept
pub kept-given : (rows : List Row) (place n : ℕ) (id : Guid) (old now : Used) → AreKept rows old → waits rows place ≡ true
    → IsId id → n ≡ number id → (IsRising old.numbers.items → IsRising now.numbers.items)
    → (now.whole ≡ true → (m : ℕ) → list_any (λ k. k == m) now.numbers.items ≡ (n == m || list_any (λ k. k == m) old.numbers.items))
    → (now.whole ≡ true → old.whole ≡ true) → AreKept (given rows place id) now
kept-given rows place n id old now kept waiting is n_is rising found whole = record {
  rising = rising kept.rising;
  found = λ w m some.
      found w m ∙ ap (λ (b : Bool). n == m || b) (kept.found (whole w) m some)
      ∙ rw n_is (sym (given-any rows place m id some waiting));
  ids = λ w. given-ids rows place id is (kept.ids (whole w));
}
