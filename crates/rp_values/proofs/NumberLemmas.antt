-- Numbers, weights, sizes and priorities: what `parse` gives, in the words of specs/Numbers.
use Rattle.std.proofs.Common.{◌≡◌, ℕ, ℤ, pos, negsuc, neg_ℤ, suc, ◌+◌, ◌-◌, ◌*◌, ◌^◌, ◌<◌, ◌≤◌, List, [], ◌∷◌, Bool, true, false, cond, not, ◌&&◌, length, refl, ap, sym, ◌∙◌, arith, leb, Option, Some, None, Result, Ok, Err, OkIff, Decides, is_some, unwrap_or, slice_index, take, int_le, FitsSigned, w32}
use Rattle.std.specs.Char.{is_ascii_digit}
use Rattle.std.specs.List.{list_all}
use Rattle.std.specs.Option.{option_map, option_map_or}
use Rattle.std.specs.Result.{result_ok}
use Rattle.std.specs.Str.{all_ascii_digits}
use Rattle.std.specs.Str.Parse.{digits_value, signed_digits_value, without_leading_sign, IsNumeral, ParsesUnsigned, ParsesSigned}
use Rattle.std.proofs.lemmas.Bool.{le-leb, lt-leb, leb-true, leb-false, ne_eqb}
use Rattle.std.proofs.lemmas.Bool.Decides.{Decides-and, nat_tests}
use native.Mathlib.Nat.{le-mul_of_pos_right}
use Rattle.std.proofs.lemmas.Str.Parse.{IsNumeralModel, numerals_by_value, tells_all_ascii_digits, parse_digits}
use Rattle.rp_values.specs.Numbers.{is_number, number_of, at_most, factor_of, weight_of, size_of, priority_of}

-- digits, by two words of std
pub list_all-is_ascii_digit : (text : List ℕ) → list_all is_ascii_digit text ≡ all_ascii_digits text
list_all-is_ascii_digit [] = refl
list_all-is_ascii_digit (c ∷ cs) = ap (λ b. is_ascii_digit c && b) (list_all-is_ascii_digit cs)

own : IsNumeralModel (λ text. all_ascii_digits text ≡ true) (digits_value 10)
own = numerals_by_value _ tells_all_ascii_digits

-- a value that is told exactly where a test holds
told : {E T : Type 0} {P : Type 0} (r : Result T E) (v : T) (b : Bool) → Decides b P → OkIff r P v → result_ok r ≡ cond b (Some v) None
told (Ok x) v b test h = ap Some h.1 ∙ sym (ap (λ t. cond t (Some v) None) (test.1 h.0))
told (Err e) v true test h = absurd (h (test.0 refl))
told (Err e) v false test h = refl

-- the test of a bound
below : (n k most : ℕ) → k ≡ most + 1 → Decides (leb n most) (n < k)
below n k most is = (λ t. omega (arith, leb-true n most t), λ l. le-leb n most (omega arith))

-- a text with a byte at least is a number where it's digits
is_number-some : (c : ℕ) (cs : List ℕ) → is_number (c ∷ cs) ≡ all_ascii_digits (c ∷ cs)
is_number-some c cs = ap (λ b. not b && all_ascii_digits (c ∷ cs)) (ne_eqb (suc (length cs)) 0 (λ e. omega arith))

-- what `parse` gives for digits, where the greatest number is 2 ^ k - 1
by_text : {E : Type 0} (text : List ℕ) (r : Result ℕ E) (k most : ℕ) → k ≡ most + 1 → all_ascii_digits text ≡ true
    → OkIff r ((0 < length text) × (digits_value 10 text < k)) (digits_value 10 text) → result_ok r ≡ at_most most (number_of text)
by_text [] (Ok x) k most is digits h = absurd (omega (arith, h.0.0))
by_text [] (Err e) k most is digits h = refl
by_text (c ∷ cs) r k most is digits h =
    let n : ℕ = digits_value 10 (c ∷ cs) in
    let test = below n k most is in
    told r n (leb n most) (λ t. (omega arith, test.0 t), λ p. test.1 p.1) h
    ∙ sym (ap (λ b. at_most most (cond b (Some n) None)) (is_number-some c cs ∙ digits))

-- the same in the words of `parse` at 64 bits
pub parsed : {E : Type 0} (text : List ℕ) (r : Result ℕ E) → list_all is_ascii_digit text ≡ true → ParsesUnsigned 64 10 text r
    → result_ok r ≡ at_most (2 ^ 64 - 1) (number_of text)
parsed text r digits h =
    let all = sym (list_all-is_ascii_digit text) ∙ digits in
    by_text text r (2 ^ 64) (2 ^ 64 - 1) refl all (parse_digits own 64 text r h all)

-- what a number within one bound says of a lower one
known : (o : Option ℕ) (most n : ℕ) → at_most most o ≡ Some n → o ≡ Some n
known (Some m) most n h = by_test (leb m most) h where
  by_test : (b : Bool) → cond b (Some m) None ≡ Some n → Some m ≡ Some n
  by_test true e = e
  by_test false e = cc
known None most n h = cc

-- a number above one bound, times a factor, is above a lower bound
beyond : (o : Option ℕ) (most lower factor : ℕ) → lower ≤ most → 1 ≤ factor → at_most most o ≡ None → at_most lower (option_map (λ n. n * factor) o) ≡ None
beyond None most lower factor le some h = refl
beyond (Some m) most lower factor le some h = by_test (leb m most) refl h where
  by_test : (b : Bool) → leb m most ≡ b → cond b (Some m) None ≡ None → at_most lower (Some (m * factor)) ≡ None
  by_test true is e = cc
  by_test false is e = ap (λ b. cond b (Some (m * factor)) None) (lt-leb (m * factor) lower (omega (arith, leb-false m most is, le-mul_of_pos_right {m = factor} m some)))

-- a number times 1, which is what a size without a letter is
once : (o : Option ℕ) → o ≡ option_map (λ n. n * 1) o
once None = refl
once (Some n) = ap Some (omega arith)

-- the weight, by what is known of a number of 64 bits
pub weight_of-none : (text : List ℕ) → None ≡ at_most (2 ^ 64 - 1) (number_of text) → weight_of text ≡ None
unfolding weight_of
weight_of-none text h = ap (at_most 1000000) (once (number_of text)) ∙ beyond (number_of text) (2 ^ 64 - 1) 1000000 1 (omega arith) (omega arith) (sym h)

pub weight_of-some : (text : List ℕ) (n : ℕ) → Some n ≡ at_most (2 ^ 64 - 1) (number_of text) → weight_of text ≡ at_most 1000000 (Some n)
unfolding weight_of
weight_of-some text n h = ap (at_most 1000000) (known (number_of text) (2 ^ 64 - 1) n (sym h))

-- a size's digits and its factor
pub record IsCut (text digits : List ℕ) (factor : ℕ) : Type 0 where
  pub digits_are : digits ≡ cond (is_some (factor_of (slice_index text (length text - 1)))) (take (length text - 1) text) text
  pub factor_is : factor ≡ unwrap_or (factor_of (slice_index text (length text - 1))) 1

-- a size is its digits' number times its factor, the factor being 1 without a letter
by_factor : (f : Option ℕ) (front text digits : List ℕ) (factor : ℕ) → digits ≡ cond (is_some f) front text → factor ≡ unwrap_or f 1
    → option_map_or (λ factor. option_map (λ n. n * factor) (number_of front)) f (number_of text) ≡ option_map (λ n. n * factor) (number_of digits)
by_factor (Some x) front text digits factor d e = rw (d, e) refl
by_factor None front text digits factor d e = rw (d, e) (once (number_of text))

size_of-cut : (text digits : List ℕ) (factor : ℕ) → IsCut text digits factor → size_of text ≡ at_most (2 ^ 60) (option_map (λ n. n * factor) (number_of digits))
unfolding size_of
size_of-cut text digits factor cut =
    ap (at_most (2 ^ 60)) (by_factor (factor_of (slice_index text (length text - 1))) (take (length text - 1) text) text digits factor cut.digits_are cut.factor_is)

-- no letter stands for 0
positive : (letter : ℕ) → 1 ≤ unwrap_or (factor_of letter) 1
positive letter = grind (arith, nat_tests)

-- the size, by what is known of its digits at 64 bits
pub size_of-none : (text digits : List ℕ) (factor : ℕ) → IsCut text digits factor → None ≡ at_most (2 ^ 64 - 1) (number_of digits) → size_of text ≡ None
size_of-none text digits factor cut h =
    let some : 1 ≤ factor = omega (arith, cut.factor_is, positive (slice_index text (length text - 1))) in
    size_of-cut text digits factor cut ∙ beyond (number_of digits) (2 ^ 64 - 1) (2 ^ 60) factor (omega arith) some (sym h)

pub size_of-some : (text digits : List ℕ) (factor n : ℕ) → IsCut text digits factor → Some n ≡ at_most (2 ^ 64 - 1) (number_of digits)
    → size_of text ≡ at_most (2 ^ 60) (Some (n * factor))
size_of-some text digits factor n cut h =
    size_of-cut text digits factor cut ∙ ap (λ o. at_most (2 ^ 60) (option_map (λ n. n * factor) o)) (known (number_of digits) (2 ^ 64 - 1) n (sym h))

pub size_of-huge : (text digits : List ℕ) (factor n : ℕ) → IsCut text digits factor → Some n ≡ at_most (2 ^ 64 - 1) (number_of digits)
    → ¬ (n * factor < 2 ^ 64) → size_of text ≡ None
size_of-huge text digits factor n cut h huge =
    size_of-some text digits factor n cut h ∙ ap (λ b. cond b (Some (n * factor)) None) (lt-leb (n * factor) (2 ^ 60) (omega (arith, huge)))

regroup : {P : Type 0} (a b c : Bool) → Decides (a && (b && c)) P → Decides (a && b && c) P
regroup true b c h = h
regroup false b c h = h

alone : (b : Bool) → (b && true) ≡ true → b ≡ true
alone true h = h
alone false h = h

-- a priority fits exactly where it is within the two bounds
fits : (z : ℤ) → Decides (int_le (neg_ℤ (pos (2 ^ 31))) z && int_le z (pos (2 ^ 31 - 1))) (FitsSigned w32 z)
fits (pos n) = let test = below n (2 ^ 31) (2 ^ 31 - 1) refl in (λ t. record { sfits = test.0 t }, λ f. test.1 f.sfits)
fits (negsuc n) = let test = below n (2 ^ 31) (2 ^ 31 - 1) refl in
    (λ t. record { sfits = test.0 (alone (leb n (2 ^ 31 - 1)) t) }, λ f. ap (λ b. b && true) (test.1 f.sfits))

-- digits as std's `parse` sees them
numeral : (text : List ℕ) → Decides (is_number text) (IsNumeral 10 text)
numeral [] = (λ t. cc, λ n. absurd (omega (arith, n.0)))
numeral (c ∷ cs) =
    (λ t. (omega arith, own.to (c ∷ cs) (sym (is_number-some c cs) ∙ t)), λ n. is_number-some c cs ∙ own.from (c ∷ cs) n.1)

-- what `parse` gives at 32 bits is the priority
pub priority_of-parsed : {E : Type 0} (text : List ℕ) (r : Result ℤ E) → ParsesSigned w32 10 text r → result_ok r ≡ priority_of text
unfolding priority_of
priority_of-parsed text r h =
    let z : ℤ = signed_digits_value 10 text in
    let digits : Bool = is_number (without_leading_sign text) in
    let low : Bool = int_le (neg_ℤ (pos (2 ^ 31))) z in
    let high : Bool = int_le z (pos (2 ^ 31 - 1)) in
    told r z (digits && low && high) (regroup digits low high (Decides-and digits (low && high) (numeral (without_leading_sign text)) (fits z))) h
