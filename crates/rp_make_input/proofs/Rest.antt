-- Bytes of the generator, one by one.
use Rattle.std.proofs.Common.{◌≡◌, ◌∙◌, ℕ, suc, ◌+◌, ◌-◌, ◌<◌, ◌≤◌, List, [], ◌∷◌, ◌++◌, sym, ap, append_assoc, append-nil, arith}
use Rattle.rp_make_input.specs.Bytes.{bytes_behind, next, top_byte}

-- one more byte was made
pub one_more : (bytes : List ℕ) (count turn state : ℕ) → turn < count
    → bytes ++ bytes_behind (count - turn) state
    ≡ (bytes ++ top_byte (next state) ∷ []) ++ bytes_behind (count - (turn + 1)) (next state)
unfolding bytes_behind
one_more bytes count turn state less =
    let left : count - turn ≡ suc (count - (turn + 1)) = omega arith in
    ap (λ (n : ℕ). bytes ++ bytes_behind n state) left
    ∙ sym (append_assoc bytes (top_byte (next state) ∷ []) (bytes_behind (count - (turn + 1)) (next state)))

-- all were made
pub none_left : (bytes : List ℕ) (count turn state : ℕ) → count ≤ turn → bytes ++ bytes_behind (count - turn) state ≡ bytes
unfolding bytes_behind
none_left bytes count turn state end =
    let left : count - turn ≡ 0 = omega arith in
    ap (λ (n : ℕ). bytes ++ bytes_behind n state) left ∙ append-nil bytes
