-- Shifts of the register are linear over the addition without carry.
use Rattle.std.proofs.Common.{◌≡◌, ℕ, zero, suc, ◌+◌, ◌*◌, ◌/◌, ◌%◌, ◌^◌, ◌<◌, ◌==◌, Bool, true, false, cond, refl, sym, ap, ◌∙◌, arith}
use Rattle.std.specs.Prelude.{bit_and, bit_xor}
use Rattle.std.proofs.lemmas.Nat.{shr-shr}
use Rattle.std.specs.Int.Bits.{xor_assoc, xor_comm, xor_zero_r, xor_shr, xor_mod, and_mask}
use Rattle.std.specs.Int.Bits.{xor_shifted}
use Rattle.std.proofs.Math.Nat.{zero-add, suc-add, pow-suc, mul_assoc}
use Rattle.rp_crc.specs.Crc.{polynomial, shifted}
use Rattle.rp_crc.specs.Tables.{shifts}

-- the polynomial where the bit is a one
masked : ℕ → ℕ
masked d = cond (d == 1) polynomial 0

masked-xor : (d e : ℕ) → d < 2 → e < 2 → masked (bit_xor d e) ≡ bit_xor (masked d) (masked e)
unfolding masked
masked-xor zero e h k = refl
masked-xor (suc zero) zero h k = refl
masked-xor (suc zero) (suc zero) h k = refl
masked-xor (suc zero) (suc (suc e)) h k = absurd (omega arith)
masked-xor (suc (suc d)) e h k = absurd (omega arith)

chosen : (b : Bool) (h : ℕ) → cond b (bit_xor h polynomial) h ≡ bit_xor h (cond b polynomial 0)
chosen true h = refl
chosen false h = sym (xor_zero_r h)

shifted-is : (r : ℕ) → shifted r ≡ bit_xor (r / 2) (masked (r % 2))
unfolding shifted masked
shifted-is r = chosen (r % 2 == 1) (r / 2)

-- the order of four summands is free
pub xor_turned : (a b c d : ℕ) → bit_xor (bit_xor a b) (bit_xor c d) ≡ bit_xor (bit_xor a c) (bit_xor b d)
xor_turned a b c d =
    xor_assoc a b (bit_xor c d)
    ∙ ap (bit_xor a) (sym (xor_assoc b c d) ∙ ap (λ x. bit_xor x d) (xor_comm b c) ∙ xor_assoc c b d)
    ∙ sym (xor_assoc a c (bit_xor b d))

pub shifted-xor : (a b : ℕ) → shifted (bit_xor a b) ≡ bit_xor (shifted a) (shifted b)
shifted-xor a b =
    let halves : bit_xor a b / 2 ≡ bit_xor (a / 2) (b / 2) = xor_shr a b 1 in
    let lowest : bit_xor a b % 2 ≡ bit_xor (a % 2) (b % 2) = xor_mod a b 1 in
    let one : masked (bit_xor (a % 2) (b % 2)) ≡ bit_xor (masked (a % 2)) (masked (b % 2)) =
    masked-xor (a % 2) (b % 2) (omega arith) (omega arith) in
    let turned = xor_turned (a / 2) (b / 2) (masked (a % 2)) (masked (b % 2)) in
    shifted-is (bit_xor a b)
    ∙ ap (λ x. bit_xor x (masked (bit_xor a b % 2))) halves
    ∙ ap (λ x. bit_xor (bit_xor (a / 2) (b / 2)) (masked x)) lowest
    ∙ ap (bit_xor (bit_xor (a / 2) (b / 2))) one
    ∙ turned
    ∙ sym (ap (λ x. bit_xor x (shifted b)) (shifted-is a) ∙ ap (bit_xor (bit_xor (a / 2) (masked (a % 2)))) (shifted-is b))

pub shifted-even : (a : ℕ) → shifted (a * 2) ≡ a
unfolding masked
shifted-even a =
    let half : a * 2 / 2 ≡ a = omega arith in
    let lowest : a * 2 % 2 ≡ 0 = omega arith in
    shifted-is (a * 2) ∙ ap (λ x. bit_xor x (masked (a * 2 % 2))) half
    ∙ ap (λ x. bit_xor a (masked x)) lowest ∙ xor_zero_r a

pub shifts-xor : (n a b : ℕ) → shifts n (bit_xor a b) ≡ bit_xor (shifts n a) (shifts n b)
unfolding shifts
shifts-xor zero a b = refl
shifts-xor (suc n) a b = ap (shifts n) (shifted-xor a b) ∙ shifts-xor n (shifted a) (shifted b)

pub shifts-add : (m n a : ℕ) → shifts (m + n) a ≡ shifts n (shifts m a)
unfolding shifts
shifts-add zero n a = ap (λ k. shifts k a) (zero-add n)
shifts-add (suc m) n a = ap (λ k. shifts k a) (suc-add m n) ∙ shifts-add m n (shifted a)

-- n shifts of n zero bits below a number let them fall out
pub shifts-pow : (n a : ℕ) → shifts n (a * 2 ^ n) ≡ a
unfolding shifts
shifts-pow zero a = omega arith
shifts-pow (suc n) a =
    let e : a * 2 ^ suc n ≡ a * 2 ^ n * 2 = ap (λ x. a * x) (pow-suc 2 n) ∙ sym (mul_assoc a (2 ^ n) 2) in
    ap (λ x. shifts n (shifted x)) e ∙ ap (shifts n) (shifted-even (a * 2 ^ n)) ∙ shifts-pow n a

-- the lowest byte and the others apart
pub shifts_apart : (n x : ℕ) → shifts (8 + n) x ≡ bit_xor (shifts (8 + n) (x % 256)) (shifts n (x / 256))
shifts_apart n x =
    let whole : x ≡ x / 256 * 2 ^ 8 + x % 256 = omega arith in
    let apart : x ≡ bit_xor (x / 256 * 2 ^ 8) (x % 256) =
    whole ∙ sym (xor_shifted (x / 256) 8 (x % 256) (omega arith)) in
    ap (shifts (8 + n)) (apart ∙ xor_comm (x / 256 * 2 ^ 8) (x % 256))
    ∙ shifts-xor (8 + n) (x % 256) (x / 256 * 2 ^ 8)
    ∙ ap (bit_xor (shifts (8 + n) (x % 256))) (shifts-add 8 n (x / 256 * 2 ^ 8) ∙ ap (shifts n) (shifts-pow 8 (x / 256)))

step : (n x : ℕ) → shifts (8 + n) x ≡ bit_xor (shifts (8 + n) (bit_and x 255)) (shifts n (x / 256))
step n x = shifts_apart n x ∙ ap (λ y. bit_xor (shifts (8 + n) y) (shifts n (x / 256))) (sym (and_mask x 8))

-- a register of which a byte is left, by a table
pub shifts_byte : (x : ℕ) → bit_xor (shifts 8 (bit_and x 255)) (x / 256) ≡ shifts 8 x
unfolding shifts
shifts_byte x = sym (step 0 x)

-- byte k of a word and what is above it
step_at : (n k w : ℕ) → shifts (8 + n) (w / 2 ^ k) ≡ bit_xor (shifts (8 + n) (bit_and (w / 2 ^ k) 255)) (shifts n (w / 2 ^ (k + 8)))
step_at n k w = step n (w / 2 ^ k) ∙ ap (λ y. bit_xor (shifts (8 + n) (bit_and (w / 2 ^ k) 255)) (shifts n y)) (shr-shr w k 8)

regroup : (a b c d e f g h : ℕ)
    → bit_xor (bit_xor (bit_xor (bit_xor (bit_xor (bit_xor (bit_xor a b) c) d) e) f) g) h
    ≡ bit_xor a (bit_xor b (bit_xor c (bit_xor d (bit_xor e (bit_xor f (bit_xor g h))))))
regroup a b c d e f g h = simp xor_assoc

-- a word, each byte by a table
pub shifts_word : (w a b c d e f g h : ℕ)
    → a ≡ shifts 64 (bit_and w 255)
    → b ≡ shifts 56 (bit_and (w / 2 ^ 8) 255)
    → c ≡ shifts 48 (bit_and (w / 2 ^ 16) 255)
    → d ≡ shifts 40 (bit_and (w / 2 ^ 24) 255)
    → e ≡ shifts 32 (bit_and (w / 2 ^ 32) 255)
    → f ≡ shifts 24 (bit_and (w / 2 ^ 40) 255)
    → g ≡ shifts 16 (bit_and (w / 2 ^ 48) 255)
    → h ≡ shifts 8 (w / 2 ^ 56)
    → bit_xor (bit_xor (bit_xor (bit_xor (bit_xor (bit_xor (bit_xor a b) c) d) e) f) g) h ≡ shifts 64 w
shifts_word w a b c d e f g h a_is b_is c_is d_is e_is f_is g_is h_is =
    let from_0 : shifts 64 w ≡ bit_xor (shifts 64 (bit_and w 255)) (shifts 56 (w / 2 ^ 8)) = step 56 w in
    let from_1 = step_at 48 8 w in
    let from_2 = step_at 40 16 w in
    let from_3 = step_at 32 24 w in
    let from_4 = step_at 24 32 w in
    let from_5 = step_at 16 40 w in
    let from_6 = step_at 8 48 w in
    let nested = regroup a b c d e f g h in
    cc
