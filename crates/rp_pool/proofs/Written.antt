-- Bytes that are written to a part of a list.
use Rattle.std.proofs.Common.{◌≡◌, ℕ, ◌+◌, ◌-◌, ◌≤◌, List, ◌++◌, length, take, drop, [], append-nil, arith, refl, ap, sym, ◌∙◌}
use Rattle.std.proofs.lemmas.List.{drop-append-le, drop-take, length-append, length-drop, length-take-le, take-append-le}
use Rattle.std.proofs.lemmas.Slice.{drop-append-drop}
use Rattle.std.proofs.Math.Seq.{drop-append-add, drop-append_seam, take-append_seam, take-length}
use Rattle.std.proofs.Math.ListN.{drop_of_length-le}
use Rattle.rp_base.specs.List.{rewritten}
use Rattle.std.proofs.lemmas.Grind.{common_steps}

-- a list with these items written from a place on
abbrev pub over : List ℕ → ℕ → List ℕ → List ℕ
over xs i ws = take i xs ++ (ws ++ drop (length ws) (drop i xs))

-- the part that is written is what was written
pub over_same : (xs : List ℕ) (i : ℕ) (ws : List ℕ) → i ≤ length xs → take (length ws) (drop i (over xs i ws)) ≡ ws
over_same xs i ws within =
    let front : length (take i xs) ≡ i = length-take-le i xs within in
    ap (λ k. take (length ws) (drop k (over xs i ws))) (sym front)
    ∙ ap (take (length ws)) (drop-append_seam (take i xs) (ws ++ drop (length ws) (drop i xs)))
    ∙ take-append_seam ws (drop (length ws) (drop i xs))

-- what lies behind it stays
pub over_behind : (xs : List ℕ) (i j : ℕ) (ws : List ℕ) → i ≤ length xs → length ws ≤ j → drop (i + j) (over xs i ws) ≡ drop j (drop i xs)
over_behind xs i j ws within behind =
    let front : length (take i xs) ≡ i = length-take-le i xs within in
    ap (λ k. drop (k + j) (over xs i ws)) (sym front)
    ∙ drop-append-add (take i xs) (ws ++ drop (length ws) (drop i xs)) j
    ∙ drop-append-drop (length ws) (drop i xs) ws j behind refl

-- what lies before it stays
pub over_before : (xs : List ℕ) (i k m : ℕ) (ws : List ℕ) → i ≤ length xs → k + m ≤ i → take m (drop k (over xs i ws)) ≡ take m (drop k xs)
over_before xs i k m ws within before =
    let front : length (take i xs) ≡ i = length-take-le i xs within in
    let rest : length (drop k (take i xs)) ≡ i - k = length-drop k (take i xs) ∙ ap (λ n. n - k) front in
    let here : k + (i - k) ≡ i = omega arith in
    ap (take m) (drop-append-le k (take i xs) (ws ++ drop (length ws) (drop i xs)) (omega arith))
    ∙ take-append-le m (drop k (take i xs)) (ws ++ drop (length ws) (drop i xs)) (omega arith)
    ∙ ap (λ n. take m (drop k (take n xs))) (sym here)
    ∙ ap (take m) (drop-take k (i - k) xs)
    ∙ take_shorter m (i - k) (drop k xs) (omega arith)
  where
    take_shorter : (m n : ℕ) (xs : List ℕ) → m ≤ n → take m (take n xs) ≡ take m xs
    take_shorter m n xs le = grind (arith, common_steps)

length-over : (xs : List ℕ) (i : ℕ) (ws : List ℕ) → i + length ws ≤ length xs → length (over xs i ws) ≡ length xs
length-over xs i ws fits =
    let front : length (take i xs) ≡ i = length-take-le i xs (omega arith) in
    let rest : length (drop (length ws) (drop i xs)) ≡ length xs - i - length ws =
    length-drop (length ws) (drop i xs) ∙ ap (λ n. n - length ws) (length-drop i xs) in
    let inner = length-append ws (drop (length ws) (drop i xs)) in
    let outer = length-append (take i xs) (ws ++ drop (length ws) (drop i xs)) in
    omega arith

-- what fits has the length already
pub over_fits : (xs : List ℕ) (i : ℕ) (ws : List ℕ) → i + length ws ≤ length xs → rewritten xs (over xs i ws) ≡ over xs i ws
over_fits xs i ws fits =
    let same : length (over xs i ws) ≡ length xs = length-over xs i ws fits in
    let none : drop (length (over xs i ws)) xs ≡ [] = drop_of_length-le xs {i = length (over xs i ws)} (omega arith) in
    ap (λ rest. take (length xs) (over xs i ws ++ rest)) none
    ∙ ap (take (length xs)) (append-nil (over xs i ws))
    ∙ ap (λ n. take n (over xs i ws)) (sym same)
    ∙ take-length (over xs i ws)
