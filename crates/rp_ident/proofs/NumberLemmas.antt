-- An identifier as a number: two are the same exactly where their numbers are.
use Rattle.std.proofs.Common.{◌≡◌, ◌≢◌, ℕ, zero, suc, ◌+◌, ◌*◌, ◌-◌, ◌%◌, ◌/◌, ◌<◌, ◌≤◌, ◌==◌, Bool, true, false, List, [], ◌∷◌, length, get_or, drop, replicate, inl, inr, refl, sym, ◌∙◌, ap, arith, drop-cons, add-one}
use Rattle.std.specs.Int.{w128, from_le_bytes}
use Rattle.std.specs.Str.{bytes_eq}
use Rattle.std.proofs.lemmas.Bool.{ne_eqb}
use Rattle.std.proofs.lemmas.Bool.Decides.{eqb_tells}
use Rattle.std.proofs.lemmas.List.{drop_all}
use Rattle.std.proofs.lemmas.Slice.Eq.{bytes_eq-Decides}
use Rattle.rp_base.specs.declared.guid.Guid.{Guid}
use Rattle.rp_ident.specs.Naming.{is_zero, same_id}
use Rattle.rp_ident.specs.Kept.{IsId, number}

-- bytes as a number, the low one first
abbrev worth : List ℕ → ℕ
worth [] = 0
worth (b ∷ bs) = b + 256 * worth bs

worth-drop : (bs : List ℕ) (i : ℕ) → i < length bs → worth (drop i bs) ≡ get_or bs i 0 + 256 * worth (drop (i + 1) bs)
worth-drop bs i inside = rw (add-one, drop-cons bs i 0 inside) refl

-- bytes that are as much are the same
worth-same : (xs ys : List ℕ) → length xs ≡ length ys → ((i : ℕ) → get_or xs i 0 < 256) → ((i : ℕ) → get_or ys i 0 < 256)
    → worth xs ≡ worth ys → xs ≡ ys
worth-same [] [] long small_x small_y same = refl
worth-same [] (y ∷ ys) long small_x small_y same = absurd (omega arith)
worth-same (x ∷ xs) [] long small_x small_y same = absurd (omega arith)
worth-same (x ∷ xs) (y ∷ ys) long small_x small_y same =
    let low_x : x < 256 = small_x 0 in
    let low_y : y < 256 = small_y 0 in
    let here : x ≡ y = omega arith in
    let above : worth xs ≡ worth ys = omega arith in
    let rest : xs ≡ ys = worth-same xs ys (omega arith) (λ i. small_x (suc i)) (λ i. small_y (suc i)) above in
    rw (here, rest) refl

worth-16 : (bs : List ℕ) → length bs ≡ 16 → from_le_bytes w128 bs ≡ worth bs
worth-16 bs long =
    let w0 : worth (drop 0 bs) ≡ get_or bs 0 0 + 256 * worth (drop 1 bs) = worth-drop bs 0 (omega arith) in
    let w1 : worth (drop 1 bs) ≡ get_or bs 1 0 + 256 * worth (drop 2 bs) = worth-drop bs 1 (omega arith) in
    let w2 : worth (drop 2 bs) ≡ get_or bs 2 0 + 256 * worth (drop 3 bs) = worth-drop bs 2 (omega arith) in
    let w3 : worth (drop 3 bs) ≡ get_or bs 3 0 + 256 * worth (drop 4 bs) = worth-drop bs 3 (omega arith) in
    let w4 : worth (drop 4 bs) ≡ get_or bs 4 0 + 256 * worth (drop 5 bs) = worth-drop bs 4 (omega arith) in
    let w5 : worth (drop 5 bs) ≡ get_or bs 5 0 + 256 * worth (drop 6 bs) = worth-drop bs 5 (omega arith) in
    let w6 : worth (drop 6 bs) ≡ get_or bs 6 0 + 256 * worth (drop 7 bs) = worth-drop bs 6 (omega arith) in
    let w7 : worth (drop 7 bs) ≡ get_or bs 7 0 + 256 * worth (drop 8 bs) = worth-drop bs 7 (omega arith) in
    let w8 : worth (drop 8 bs) ≡ get_or bs 8 0 + 256 * worth (drop 9 bs) = worth-drop bs 8 (omega arith) in
    let w9 : worth (drop 9 bs) ≡ get_or bs 9 0 + 256 * worth (drop 10 bs) = worth-drop bs 9 (omega arith) in
    let w10 : worth (drop 10 bs) ≡ get_or bs 10 0 + 256 * worth (drop 11 bs) = worth-drop bs 10 (omega arith) in
    let w11 : worth (drop 11 bs) ≡ get_or bs 11 0 + 256 * worth (drop 12 bs) = worth-drop bs 11 (omega arith) in
    let w12 : worth (drop 12 bs) ≡ get_or bs 12 0 + 256 * worth (drop 13 bs) = worth-drop bs 12 (omega arith) in
    let w13 : worth (drop 13 bs) ≡ get_or bs 13 0 + 256 * worth (drop 14 bs) = worth-drop bs 13 (omega arith) in
    let w14 : worth (drop 14 bs) ≡ get_or bs 14 0 + 256 * worth (drop 15 bs) = worth-drop bs 14 (omega arith) in
    let w15 : worth (drop 15 bs) ≡ get_or bs 15 0 + 256 * worth (drop 16 bs) = worth-drop bs 15 (omega arith) in
    let end : worth (drop 16 bs) ≡ 0 = ap worth (drop_all 16 bs (omega arith)) in
    let whole : worth (drop 0 bs) ≡ worth bs = refl in
    omega arith

number-worth : (id : Guid) → IsId id → number id ≡ worth id.0
unfolding number
number-worth id is = worth-16 id.0 is.len

pub number-same : (a b : Guid) → IsId a → IsId b → number a ≡ number b → a.0 ≡ b.0
number-same a b is_a is_b same =
    worth-same a.0 b.0 (is_a.len ∙ sym is_b.len) is_a.bytes is_b.bytes (sym (number-worth a is_a) ∙ same ∙ number-worth b is_b)

pub number-equal : (a b : Guid) → a.0 ≡ b.0 → number a ≡ number b
unfolding number
number-equal a b same = ap (from_le_bytes w128) same

-- two identifiers are the same where their numbers are
pub same-by_number : (a b : Guid) → IsId a → IsId b → (number a == number b) ≡ same_id a b
same-by_number a b is_a is_b =
    elim (eqb_tells (number a) (number b)) [
      | inl w ↦ w.0 ∙ sym ((bytes_eq-Decides a.0 b.0).1 (number-same a b is_a is_b w.1))
      | inr w ↦ w.0 ∙ sym (differs a b (same_id a b) refl w.1)
    ] where
      differs : (a b : Guid) (t : Bool) → same_id a b ≡ t → number a ≢ number b → t ≡ false
      differs a b false is other = refl
      differs a b true is other = absurd (other (number-equal a b ((bytes_eq-Decides a.0 b.0).0 is)))

-- the identifier of zeros
none-is : IsId (record { 0 = replicate 16 0 })
none-is = record { len = refl; bytes = λ i. zeros i 16 } where
  zeros : (i n : ℕ) → get_or (replicate n 0) i 0 < 256
  zeros i zero = omega arith
  zeros zero (suc n) = omega arith
  zeros (suc i) (suc n) = zeros i n

number-none : number (record { 0 = replicate 16 0 }) ≡ 0
unfolding number
number-none = refl

-- an identifier isn't zero exactly where its number isn't
pub number-some : (id : Guid) → IsId id → is_zero id ≡ false → number id ≢ 0
number-some id is some zero_number =
    let same : id.0 ≡ replicate 16 0 = number-same id (record { 0 = replicate 16 0 }) is none-is (zero_number ∙ sym number-none) in
    let zeros : is_zero id ≡ true = (bytes_eq-Decides id.0 (replicate 16 0)).1 same in
    absurd (cc)

pub number-zero : (id : Guid) → is_zero id ≡ true → number id ≡ 0
number-zero id zeros =
    number-equal id (record { 0 = replicate 16 0 }) ((bytes_eq-Decides id.0 (replicate 16 0)).0 zeros) ∙ number-none
