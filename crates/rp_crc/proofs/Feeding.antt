-- Bytes fed to the register, as shifts of it.
use Rattle.std.proofs.Common.{◌≡◌, ℕ, zero, suc, ◌+◌, ◌*◌, ◌/◌, ◌%◌, ◌^◌, ◌<◌, List, [], ◌∷◌, ◌++◌, length, get_or, take, drop, refl, sym, ap, ◌∙◌, arith}
use Rattle.std.specs.Prelude.{bit_xor, fold}
use Rattle.std.specs.Int.{bit_at, from_le_bytes, w64}
use Rattle.std.specs.List.{concat}
use Rattle.std.specs.Int.Bits.{xor_assoc, xor_comm, xor_zero_r, xor_shifted}
use Rattle.std.proofs.lemmas.List.{take_more, append-nil, take-append-drop}
use Rattle.std.proofs.lemmas.List.Folds.{concat-append}
use Rattle.std.proofs.lemmas.List.Sums.{fold-append, fold_more}
use Rattle.std.proofs.Math.Nat.{pow-suc}
use Rattle.std.proofs.Math.Seq.{take-add}
use Rattle.std.specs.Simd.{first_chunks}
use Rattle.rp_crc.specs.Crc.{shifted, fed_bit, fed_byte, fed}
use Rattle.rp_crc.specs.Tables.{shifts}
use Rattle.rp_crc.proofs.Shifts.{shifted-xor, shifted-even, shifts-xor, shifts-add, shifts-pow}

-- n bits of x, the lowest first, fed to the register
fed_low : ℕ → ℕ → ℕ → ℕ
fed_low zero r x = r
fed_low (suc n) r x = fed_low n (fed_bit r (x % 2)) (x / 2)

-- to add a number at once and shift is to add its lowest bit, shift, and add the others
one_bit : (r x : ℕ) → shifted (bit_xor r x) ≡ bit_xor (fed_bit r (x % 2)) (x / 2)
unfolding fed_bit
one_bit r x =
    let whole : x ≡ x / 2 * 2 ^ 1 + x % 2 = omega arith in
    let apart : x ≡ bit_xor (x / 2 * 2) (x % 2) = whole ∙ sym (xor_shifted (x / 2) 1 (x % 2) (omega arith)) in
    ap (λ y. shifted (bit_xor r y)) (apart ∙ xor_comm (x / 2 * 2) (x % 2))
    ∙ ap shifted (sym (xor_assoc r (x % 2) (x / 2 * 2)))
    ∙ shifted-xor (bit_xor r (x % 2)) (x / 2 * 2)
    ∙ ap (bit_xor (shifted (bit_xor r (x % 2)))) (shifted-even (x / 2))

-- n bits one after another, and all at once
fed_low-shifts : (n r x : ℕ) → x < 2 ^ n → fed_low n r x ≡ shifts n (bit_xor r x)
unfolding fed_low shifts
fed_low-shifts zero r x h =
    let e : x ≡ 0 = omega arith in
    sym (ap (bit_xor r) e ∙ xor_zero_r r)
fed_low-shifts (suc n) r x h =
    let p : 2 ^ suc n ≡ 2 ^ n * 2 = pow-suc 2 n in
    let below : x / 2 < 2 ^ n = omega arith in
    fed_low-shifts n (fed_bit r (x % 2)) (x / 2) below ∙ ap (shifts n) (sym (one_bit r x))

fed_byte-low : (r b : ℕ) → fed_byte r b ≡ fed_low 8 r b
unfolding fed_byte fed_low
fed_byte-low r b =
    let bit0 : b % 2 ≡ bit_at b 0 = omega arith in
    let bit1 : b / 2 % 2 ≡ bit_at b 1 = omega arith in
    let bit2 : b / 2 / 2 % 2 ≡ bit_at b 2 = omega arith in
    let bit3 : b / 2 / 2 / 2 % 2 ≡ bit_at b 3 = omega arith in
    let bit4 : b / 2 / 2 / 2 / 2 % 2 ≡ bit_at b 4 = omega arith in
    let bit5 : b / 2 / 2 / 2 / 2 / 2 % 2 ≡ bit_at b 5 = omega arith in
    let bit6 : b / 2 / 2 / 2 / 2 / 2 / 2 % 2 ≡ bit_at b 6 = omega arith in
    let bit7 : b / 2 / 2 / 2 / 2 / 2 / 2 / 2 % 2 ≡ bit_at b 7 = omega arith in
    cc

-- a byte, as eight shifts
pub fed_byte-shifts : (r b : ℕ) → b < 256 → fed_byte r b ≡ shifts 8 (bit_xor r b)
fed_byte-shifts r b h = fed_byte-low r b ∙ fed_low-shifts 8 r b h

-- pieces one after another are the whole
pub fed-append : (r : ℕ) (a b : List ℕ) → fed r (a ++ b) ≡ fed (fed r a) b
unfolding fed
fed-append r a b = fold-append fed_byte r a b

pub fed-none : (r : ℕ) → fed r [] ≡ r
unfolding fed
fed-none r = refl

-- one more byte of a list
pub fed_more : (r : ℕ) (bytes : List ℕ) (i : ℕ) → i < length bytes → get_or bytes i 0 < 256
    → fed r (take (i + 1) bytes) ≡ shifts 8 (bit_xor (fed r (take i bytes)) (get_or bytes i 0))
unfolding fed
fed_more r bytes i within byte =
    fold_more fed_byte r bytes i 0 within ∙ fed_byte-shifts (fold fed_byte r (take i bytes)) (get_or bytes i 0) byte

-- the number that bytes spell, the first of them the lowest
le : List ℕ → ℕ
le [] = 0
le (b ∷ bs) = b + 256 * le bs

le-cons : (r b n : ℕ) → b < 256 → bit_xor (fed_byte r b) n ≡ shifts 8 (bit_xor r (b + 256 * n))
le-cons r b n h =
    let joined : bit_xor b (n * 2 ^ 8) ≡ b + 256 * n =
    xor_comm b (n * 2 ^ 8) ∙ xor_shifted n 8 b h ∙ omega arith in
    ap (λ x. bit_xor x n) (fed_byte-shifts r b h)
    ∙ ap (bit_xor (shifts 8 (bit_xor r b))) (sym (shifts-pow 8 n))
    ∙ sym (shifts-xor 8 (bit_xor r b) (n * 2 ^ 8))
    ∙ ap (shifts 8) (xor_assoc r b (n * 2 ^ 8) ∙ ap (bit_xor r) joined)

-- bytes one after another, and all at once
fed-le : (r : ℕ) (bs : List ℕ) → ((i : ℕ) → get_or bs i 0 < 256) → fed r bs ≡ shifts (8 * length bs) (bit_xor r (le bs))
unfolding fed le shifts
fed-le r [] h = sym (xor_zero_r r)
fed-le r (b ∷ bs) h =
    let eight : 8 + 8 * length bs ≡ 8 * suc (length bs) = omega arith in
    fed-le (fed_byte r b) bs (λ i. h (suc i))
    ∙ ap (shifts (8 * length bs)) (le-cons r b (le bs) (h 0))
    ∙ sym (shifts-add 8 (8 * length bs) (bit_xor r (b + 256 * le bs)))
    ∙ ap (λ n. shifts n (bit_xor r (b + 256 * le bs))) eight

le-eight : (w : List ℕ) → length w ≡ 8 → le w ≡ from_le_bytes w64 w
unfolding le
le-eight (a ∷ b ∷ c ∷ d ∷ e ∷ f ∷ g ∷ h ∷ []) l = omega arith
le-eight [] l = absurd (cc)
le-eight (a ∷ []) l = absurd (cc)
le-eight (a ∷ b ∷ []) l = absurd (cc)
le-eight (a ∷ b ∷ c ∷ []) l = absurd (cc)
le-eight (a ∷ b ∷ c ∷ d ∷ []) l = absurd (cc)
le-eight (a ∷ b ∷ c ∷ d ∷ e ∷ []) l = absurd (cc)
le-eight (a ∷ b ∷ c ∷ d ∷ e ∷ f ∷ []) l = absurd (cc)
le-eight (a ∷ b ∷ c ∷ d ∷ e ∷ f ∷ g ∷ []) l = absurd (cc)
le-eight (a ∷ b ∷ c ∷ d ∷ e ∷ f ∷ g ∷ h ∷ i ∷ w) l = absurd (omega arith)

-- a word of eight bytes, as 64 shifts
pub fed_word : (r : ℕ) (w : List ℕ) → length w ≡ 8 → ((i : ℕ) → get_or w i 0 < 256)
    → fed r w ≡ shifts 64 (bit_xor r (from_le_bytes w64 w))
fed_word r w l h =
    fed-le r w h ∙ ap (λ n. shifts n (bit_xor r (le w))) (ap (λ n. 8 * n) l)
    ∙ ap (λ n. shifts 64 (bit_xor r n)) (le-eight w l)

-- one more word of a list
pub fed_word_more : (r : ℕ) (words : List (List ℕ)) (i : ℕ) → i < length words
    → fed r (concat (take (i + 1) words)) ≡ fed (fed r (concat (take i words))) (get_or words i [])
fed_word_more r words i within =
    let word : List ℕ = get_or words i [] in
    let joined : concat (take (i + 1) words) ≡ concat (take i words) ++ word =
    ap concat (take_more words i [] within) ∙ concat-append (take i words) (word ∷ [])
    ∙ ap (λ x. concat (take i words) ++ x) (append-nil word) in
    ap (fed r) joined ∙ fed-append r (concat (take i words)) word

concat-first_chunks : (n : ℕ) (bytes : List ℕ) → concat (first_chunks 8 n bytes) ≡ take (n * 8) bytes
concat-first_chunks zero bytes = refl
concat-first_chunks (suc n) bytes =
    let longer : 8 + n * 8 ≡ suc n * 8 = omega arith in
    ap (λ rest. take 8 bytes ++ rest) (concat-first_chunks n (drop 8 bytes))
    ∙ sym (take-add 8 (n * 8) bytes) ∙ ap (λ k. take k bytes) longer

-- whole words and then the rest
pub fed_chunks : (r n : ℕ) (bytes : List ℕ) → fed (fed r (concat (first_chunks 8 n bytes))) (drop (n * 8) bytes) ≡ fed r bytes
fed_chunks r n bytes =
    ap (λ front. fed (fed r front) (drop (n * 8) bytes)) (concat-first_chunks n bytes)
    ∙ sym (fed-append r (take (n * 8) bytes) (drop (n * 8) bytes))
    ∙ ap (fed r) (take-append-drop (n * 8) bytes)
