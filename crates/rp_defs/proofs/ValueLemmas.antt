-- The values of keys, one key after another.
use Rattle.std.proofs.Common.{◌≡◌, ℕ, zero, suc, ◌+◌, ◌<◌, List, ◌∷◌, [], ◌++◌, Option, Result, Ok, Err, inl, inr, ap, sym, ◌∙◌, arith}
use Rattle.std.specs.List.{range_with_len}
use Rattle.rp_base.specs.Answers.{Gives}
use Rattle.rp_defs.specs.declared.fault.DefFault.{DefFault}
use Rattle.rp_defs.specs.declared.value.Value.{Value}
use Rattle.rp_defs.specs.Answers.{each}
use Rattle.rp_defs.specs.Faults.{no_memory}
use Rattle.rp_defs.proofs.SectionLemmas.{each-push, each-fault}

-- numbers up to one, that one, and those behind it
range_split : (a n k j : ℕ) → k < n → a + k ≡ j → (behind : List ℕ) × (range_with_len a n ≡ range_with_len a k ++ j ∷ behind)
range_split a zero k j lt e = absurd (omega arith)
range_split a (suc n) zero j lt e = let same : a ≡ j =
    omega arith in (range_with_len (a + 1) n, ap (λ x. x ∷ range_with_len (a + 1) n) same)
range_split a (suc n) (suc k) j lt e = let rest = range_split (a + 1) n k j (omega arith) (omega arith) in (rest.0, ap (λ l. a ∷ l) rest.1)

range_last : (a n j : ℕ) → a + n ≡ j → range_with_len a (suc n) ≡ range_with_len a n ++ j ∷ []
range_last a zero j e = let same : a ≡ j = omega arith in ap (λ x. x ∷ []) same
range_last a (suc n) j e = ap (λ l. a ∷ l) (range_last (a + 1) n j (omega arith))

range_more : (n : ℕ) → range_with_len 0 (n + 1) ≡ range_with_len 0 n ++ n ∷ []
range_more n = let next : n + 1 ≡ suc n = omega arith in ap (range_with_len 0) next ∙ range_last 0 n n (omega arith)

abbrev Answer : Type 0
Answer = Result (Option Value) DefFault

given : (answer : Answer) (value : Option Value) → Gives no_memory answer (Ok value) → answer ≡ Ok value
given answer value (inl is) = sym is
given answer value (inr is) = absurd (cc)

-- with the value of one more key
pub values_more : (f : ℕ → Answer) (key : ℕ) (values : List (Option Value)) (value : Option Value)
    → each f (range_with_len 0 key) ≡ Ok values
    → Gives no_memory (f key) (Ok value) → each f (range_with_len 0 (key + 1)) ≡ Ok (values ++ value ∷ [])
values_more f key values value so_far gives =
    ap (each f) (range_more key) ∙ each-push f (range_with_len 0 key) key values value so_far (given (f key) value gives)

-- with the fault of one more key
pub values_faulty : (f : ℕ → Answer) (n key : ℕ) (values : List (Option Value)) (fault : DefFault) → key < n
    → each f (range_with_len 0 key) ≡ Ok values
    → Gives no_memory (f key) (Err fault) → Gives no_memory (each f (range_with_len 0 n)) (Err fault)
values_faulty f n key values fault lt so_far (inl is) =
    let split = range_split 0 n key key lt (omega arith) in
    inl (sym (ap (each f) split.1 ∙ each-fault f (range_with_len 0 key) key split.0 values fault so_far (sym is)))
values_faulty f n key values fault lt so_far (inr is) = let same : fault ≡ no_memory = cc in inr (ap (λ (x : DefFault). Err x) same)
