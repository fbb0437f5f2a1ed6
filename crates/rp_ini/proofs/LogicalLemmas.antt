-- Continued lines are put together one after another.
use Rattle.std.proofs.Common.{◌≡◌, ℕ, List, [], ◌∷◌, ◌++◌, Bool, true, false, refl, ap, sym, ◌∙◌, append_assoc}
use Rattle.rp_ini.specs.Text.{Line, joined, logical_lines, continues, opened}

-- nothing put in front of a logical line changes nothing
pub joined-nothing : (number : ℕ) (text : List ℕ) (lines : List Line)
    → logical_lines (record { number = number; text = text } ∷ lines) ≡ joined number [] (logical_lines (record { number = number; text = text } ∷ lines))
joined-nothing number text lines = by_test (continues text) refl where
  each : (ls : List Line) → joined number (opened text) ls ≡ joined number [] (joined number (opened text) ls)
  each [] = refl
  each (l ∷ ls) = refl

  by_test : (b : Bool) → continues text ≡ b → logical_lines (record { number = number; text = text } ∷ lines) ≡ joined number [] (logical_lines (record { number = number; text = text } ∷ lines))
  by_test true is = rw is (each (logical_lines lines))
  by_test false is = rw is refl

joined-joined : (n m : ℕ) (front text : List ℕ) (lines : List Line) → joined n front (joined m text lines) ≡ joined n (front ++ text) lines
joined-joined n m front text [] = refl
joined-joined n m front text (l ∷ ls) = ap (λ t. record { number = n; text = t } ∷ ls) (sym (append_assoc front text l.text))

-- the number of a line that something is put in front of doesn't count
joined-number : (n k m : ℕ) (front text : List ℕ) (lines : List Line)
    → joined n front (logical_lines (record { number = k; text = text } ∷ lines)) ≡ joined n front (logical_lines (record { number = m; text = text } ∷ lines))
joined-number n k m front text lines = by_test (continues text) refl where
  by_test : (b : Bool) → continues text ≡ b → joined n front (logical_lines (record { number = k; text = text } ∷ lines)) ≡ joined n front (logical_lines (record { number = m; text = text } ∷ lines))
  by_test true is = rw is (joined-joined n k front (opened text) (logical_lines lines) ∙ sym (joined-joined n m front (opened text) (logical_lines lines)))
  by_test false is = rw is refl

logical_lines-open : (line : Line) (lines : List Line) → continues line.text ≡ true → logical_lines (line ∷ lines) ≡ joined line.number (opened line.text) (logical_lines lines)
logical_lines-open line lines is = rw is refl

logical_lines-closed : (line : Line) (lines : List Line) → continues line.text ≡ false → logical_lines (line ∷ lines) ≡ line ∷ logical_lines lines
logical_lines-closed line lines is = rw is refl

-- a continued line goes on in the next one
pub goes_on : (n m : ℕ) (sofar text front next : List ℕ) (lines : List Line) → (continues text ≡ true) × (opened text ≡ front ++ 32 ∷ [])
    → joined n sofar (logical_lines (record { number = n; text = text } ∷ record { number = m; text = next } ∷ lines))
    ≡ joined n ((sofar ++ front) ++ 32 ∷ []) (logical_lines (record { number = n; text = next } ∷ lines))
goes_on n m sofar text front next lines h =
    let following : List Line = record { number = m; text = next } ∷ lines in
    ap (λ ls. joined n sofar ls) (logical_lines-open (record { number = n; text = text }) following h.0)
    ∙ joined-joined n n sofar (opened text) (logical_lines following)
    ∙ ap (λ t. joined n t (logical_lines following)) (ap (λ t. sofar ++ t) h.1 ∙ sym (append_assoc sofar front (32 ∷ [])))
    ∙ joined-number n m n ((sofar ++ front) ++ 32 ∷ []) next lines

-- the end of the text ends a line
pub ends : (n : ℕ) (sofar text front : List ℕ) → (continues text ≡ true) × (opened text ≡ front ++ 32 ∷ [])
    → joined n sofar (logical_lines (record { number = n; text = text } ∷ [])) ≡ record { number = n; text = (sofar ++ front) ++ 32 ∷ [] } ∷ []
ends n sofar text front h =
    ap (λ ls. joined n sofar ls) (logical_lines-open (record { number = n; text = text }) [] h.0)
    ∙ ap (λ t. record { number = n; text = t } ∷ []) (ap (λ t. sofar ++ t) h.1 ∙ sym (append_assoc sofar front (32 ∷ [])))

-- and so does a line that isn't continued
pub closes : (n : ℕ) (sofar text : List ℕ) (lines : List Line) → continues text ≡ false
    → joined n sofar (logical_lines (record { number = n; text = text } ∷ lines)) ≡ record { number = n; text = sofar ++ text } ∷ logical_lines lines
closes n sofar text lines is = ap (λ ls. joined n sofar ls) (logical_lines-closed (record { number = n; text = text }) lines is)

-- the end of the text, as the code finds it
pub ended : (n : ℕ) (sofar text front written : List ℕ) (before lines now : List Line)
    → logical_lines before ≡ joined n sofar (logical_lines (record { number = n; text = text } ∷ lines))
    → (continues text ≡ true) × (opened text ≡ front ++ 32 ∷ []) → (lines ≡ []) × (now ≡ []) → written ≡ (sofar ++ front) ++ 32 ∷ []
    → logical_lines before ≡ record { number = n; text = written } ∷ logical_lines now
ended n sofar text front written before lines now same goes left is =
    same ∙ ap (λ ls. joined n sofar (logical_lines (record { number = n; text = text } ∷ ls))) left.0 ∙ ends n sofar text front goes
    ∙ ap (λ t. record { number = n; text = t } ∷ []) (sym is) ∙ ap (λ ls. record { number = n; text = written } ∷ logical_lines ls) (sym left.1)
