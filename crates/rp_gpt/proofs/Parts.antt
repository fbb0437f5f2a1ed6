-- Lists of zeros, and a checksum in three pieces.
use Rattle.std.proofs.Common.{◌≡◌, ℕ, zero, suc, Bool, true, false, eqb, List, [], ◌∷◌, ◌++◌, length, replicate, refl, sym, ap, ◌∙◌}
use Rattle.std.specs.Prelude.{IsTrue, ◌↔◌, ◌&&◌}
use Rattle.std.specs.List.{list_all}
use Rattle.std.proofs.lemmas.Bool.{false≢true, eqb-true}
use Rattle.rp_crc.specs.Crc.{fed}
use Rattle.rp_crc.proofs.Feeding.{fed-append}

-- both halves of a test
pub both : (a b : Bool) → (a && b) ≡ true → (a ≡ true) × (b ≡ true)
both true b h = (refl, h)
both false b h = absurd (false≢true h)

-- a list of zeros, by a test and by an equation
pub zeros_from_all : (xs : List ℕ) → list_all (λ byte. eqb byte 0) xs ≡ true → xs ≡ replicate (length xs) 0
zeros_from_all [] h = refl
zeros_from_all (x ∷ xs) h =
    let p = both (eqb x 0) (list_all (λ byte. eqb byte 0) xs) h in
    ap (λ y. y ∷ xs) (eqb-true x 0 p.0) ∙ ap (λ ys. 0 ∷ ys) (zeros_from_all xs p.1)

pub all_from_zeros : (n : ℕ) → list_all (λ byte. eqb byte 0) (replicate n 0) ≡ true
all_from_zeros zero = refl
all_from_zeros (suc n) = all_from_zeros n

not_all : (xs : List ℕ) (n : ℕ) → length xs ≡ n → (xs ≡ replicate n 0 → ⊥) → (b : Bool) → list_all (λ byte. eqb byte 0) xs ≡ b → false ≡ b
not_all xs n long other false e = refl
not_all xs n long other true e = absurd (other (zeros_from_all xs e ∙ ap (λ k. replicate k 0) long))

-- a test that decides whether a list is all zeros
pub all_is : (xs : List ℕ) (n : ℕ) (b : Bool) → length xs ≡ n → (IsTrue b ↔ (xs ≡ replicate n 0)) → b ≡ list_all (λ byte. eqb byte 0) xs
all_is xs n true long h = sym (ap (list_all (λ byte. eqb byte 0)) (h.0 refl) ∙ all_from_zeros n)
all_is xs n false long h = not_all xs n long (λ e. false≢true (h.1 e)) _ refl

pub fed_three : (r : ℕ) (xs ys zs : List ℕ) → fed r (xs ++ ys ++ zs) ≡ fed (fed (fed r xs) ys) zs
fed_three r xs ys zs = fed-append r (xs ++ ys) zs ∙ ap (λ s. fed s zs) (fed-append r xs ys)
