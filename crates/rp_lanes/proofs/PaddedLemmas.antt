-- The bytes of a padded message.
use Rattle.std.proofs.Common.{◌≡◌, ℕ, ◌<◌, ◌≤◌, ◌+◌, ◌-◌, ◌*◌, ◌/◌, ◌%◌, ◌^◌, List, [], ◌∷◌, ◌++◌, length, take, drop, replicate, slice_index, arith, refl, ap, sym, ◌∙◌, length-append, length-drop}
use Rattle.std.proofs.lemmas.List.{append_assoc, drop-append-le, ext_get_or, get_or-append_right, get_or-drop, get_or-take, length-replicate, length-take-le, take-append-le}
use Rattle.std.proofs.Math.Seq.{drop-append-add}
use Rattle.std.specs.Int.{w64, to_be_bytes}
use Rattle.sha2.specs.Sha256.{padded_message, padding}
use Rattle.rp_lanes.specs.Blocks.{padded_block, padded_blocks}

-- the padding but for the length
abbrev front : ℕ → List ℕ
front n = 0x80 ∷ replicate ((119 - n % 64) % 64) 0

length-front : (n : ℕ) → length (front n) ≡ 1 + (119 - n % 64) % 64
length-front n = omega (arith, length-replicate {A = ℕ} ((119 - n % 64) % 64) 0)

-- the length in bits
abbrev bits : ℕ → List ℕ
bits n = to_be_bytes w64 (n * 8 % 2 ^ 64)

padded_in_two : (m : List ℕ) → padded_message m ≡ (m ++ front (length m)) ++ bits (length m)
padded_in_two m = sym (append_assoc m (front (length m)) (bits (length m)))

length-padded_front : (m : List ℕ) → length (m ++ front (length m)) ≡ padded_blocks (length m) * 64 - 8
length-padded_front m = omega (arith, length-append m (front (length m)), length-front (length m))

pub length-padded_message : (m : List ℕ) → length (padded_message m) ≡ padded_blocks (length m) * 64
length-padded_message m =
    let eight : length (bits (length m)) ≡ 8 = refl in
    ap length (padded_in_two m)
    ∙ omega (arith, length-append (m ++ front (length m)) (bits (length m)), length-padded_front m)

-- the length stands in the last eight bytes
pub padded_at_length : (m : List ℕ) (p v k : ℕ) → v ≡ length m * 8 % 2 ^ 64 → k + padded_blocks (length m) * 64 ≡ p + 8
    → slice_index (padded_message m) p ≡ slice_index (to_be_bytes w64 v) k
padded_at_length m p v k ev ek =
    let place : p - (padded_blocks (length m) * 64 - 8) ≡ k = omega arith in
    ap (λ (x : List ℕ). slice_index x p) (padded_in_two m)
    ∙ get_or-append_right (m ++ front (length m)) (bits (length m)) (padded_blocks (length m) * 64 - 8) p 0
    (length-padded_front m) (omega arith)
    ∙ ap (λ (n : ℕ). slice_index (bits (length m)) n) place
    ∙ ap (λ (n : ℕ). slice_index (to_be_bytes w64 n) k) (sym ev)

-- 64 bytes that stand in a message
part_length : (m : List ℕ) (i : ℕ) → i < padded_blocks (length m) → length (padded_block i m) ≡ 64
part_length m i h =
    length-take-le 64 (drop (i * 64) (padded_message m))
    (omega (arith, length-drop (i * 64) (padded_message m), length-padded_message m))

-- a block from its bytes
pub padded_block_is : (m x : List ℕ) (i : ℕ) → i < padded_blocks (length m) → length x ≡ 64
    → ((p : ℕ) → p < 64 → slice_index x p ≡ slice_index (padded_message m) (i * 64 + p)) → x ≡ padded_block i m
padded_block_is m x i h l e =
    ext_get_or 0 x (padded_block i m) (l ∙ sym (part_length m i h)) (λ p lt.
    let below : p < 64 = omega arith in
    e p below ∙ sym (get_or-take 64 (drop (i * 64) (padded_message m)) p 0 below ∙ get_or-drop (i * 64) (padded_message m) p 0))

-- a block that stands in the data behind the salt
pub padded_block_inner : (s d : List ℕ) (i from to : ℕ) → length s + from ≡ i * 64 → to ≡ from + 64 → to ≤ length d
    → take (to - from) (drop from d) ≡ padded_block i (s ++ d)
padded_block_inner s d i from to at et fits =
    let rest = padding (length (s ++ d)) in
    let width : to - from ≡ 64 = omega arith in
    let whole : padded_message (s ++ d) ≡ s ++ (d ++ rest) = append_assoc s d rest in
    let past : drop (i * 64) (s ++ (d ++ rest)) ≡ drop from (d ++ rest) =
    ap (λ (n : ℕ). drop n (s ++ (d ++ rest))) (sym at) ∙ drop-append-add s (d ++ rest) from in
    let inside : drop from (d ++ rest) ≡ drop from d ++ rest = drop-append-le from d rest (omega arith) in
    rw width (sym (ap (λ (x : List ℕ). take 64 (drop (i * 64) x)) whole ∙ ap (λ (x : List ℕ). take 64 x) (past ∙ inside)
    ∙ take-append-le 64 (drop from d) rest (omega (arith, length-drop from d))))
