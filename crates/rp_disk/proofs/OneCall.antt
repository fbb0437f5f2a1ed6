-- What a stop may leave of one call.
use Rattle.std.proofs.Common.{ℕ, List, [], ◌∷◌, ◌≡◌, ◌⊎◌, ◌↔◌, ◌+◌, ◌-◌, ◌<◌, ◌≤◌, take, drop, length, get_or, sym, ◌∙◌, ap, subst, inl, inr, ⊎_elim, arith, length-take, length-drop}
use Rattle.std.proofs.lemmas.List.{get_or-take, get_or-drop, ext_get_or}
use Rattle.rp_disk.specs.declared.call.Call.TheVariants.{Write, Sync, SetLen}
use Rattle.rp_disk.specs.Stops.{Agrees}
use Rattle.rp_disk.proofs.Agreeing.{agrees-same}

-- images that agree below a place, or from a place on

same_take : (n m : ℕ) (xs ys : List ℕ) → length (take n xs) ≡ length (take m ys)
    → ((k : ℕ) → k < length (take n xs) → get_or xs k 0 ≡ get_or ys k 0) → take n xs ≡ take m ys
same_take n m xs ys long same = ext_get_or 0 (take n xs) (take m ys) long
    (λ k lt. get_or-take n xs k 0 (omega (arith, length-take n xs)) ∙ same k lt ∙ sym (get_or-take m ys k 0 (omega (arith, length-take m ys))))

same_drop : (n : ℕ) (xs ys : List ℕ) → length xs ≡ length ys → ((k : ℕ) → n ≤ k → k < length xs → get_or xs k 0 ≡ get_or ys k 0)
    → drop n xs ≡ drop n ys
same_drop n xs ys long same = ext_get_or 0 (drop n xs) (drop n ys) (omega (arith, length-drop n xs, length-drop n ys))
    (λ k lt. get_or-drop n xs k 0 ∙ same (n + k) (omega arith) (omega (arith, length-drop n xs)) ∙ sym (get_or-drop n ys k 0))

from_take : (n m : ℕ) (xs ys : List ℕ) (k : ℕ) → take n xs ≡ take m ys → k < n → k < m → get_or xs k 0 ≡ get_or ys k 0
from_take n m xs ys k same lt lt' = sym (get_or-take n xs k 0 lt) ∙ ap (λ (l : List ℕ). get_or l k 0) same ∙ get_or-take m ys k 0 lt'

from_drop : (n : ℕ) (xs ys : List ℕ) (k : ℕ) → drop n xs ≡ drop n ys → n ≤ k → get_or xs k 0 ≡ get_or ys k 0
from_drop n xs ys k same le =
    let i : k ≡ n + (k - n) = omega arith in
    ap (λ (j : ℕ). get_or xs j 0) i ∙ sym (get_or-drop n xs (k - n) 0) ∙ ap (λ (l : List ℕ). get_or l (k - n) 0) same
    ∙ get_or-drop n ys (k - n) 0 ∙ ap (λ (j : ℕ). get_or ys j 0) (sym i)

-- of a write: any bytes in its range, and the others as they were
pub left_of_write : (image new : List ℕ) (at : ℕ) (bytes : List ℕ)
    → Agrees image (Write at bytes ∷ []) new ↔ ((length new ≡ length image) × (take at new ≡ take at image) × (drop (at + length bytes) new ≡ drop (at + length bytes) image))
left_of_write image new at bytes = (to, from)
  where
    to : Agrees image (Write at bytes ∷ []) new
        → (length new ≡ length image) × (take at new ≡ take at image) × (drop (at + length bytes) new ≡ drop (at + length bytes) image)
    to agrees =
        let long : length new ≡ length image = ⊎_elim (λ same. same) (λ none. absurd none) agrees.size in (
          long,
          same_take at at new image (omega (arith, length-take at new, length-take at image))
              (λ k lt. agrees.kept k (omega (arith, length-take at new)) (omega (arith, length-take at new)) (inl (omega (arith, length-take at new)), tt)),
          same_drop (at + length bytes) new image long (λ k le lt. agrees.kept k (omega arith) lt (inr le, tt)),
        )

    from : (length new ≡ length image) × (take at new ≡ take at image) × (drop (at + length bytes) new ≡ drop (at + length bytes) image)
        → Agrees image (Write at bytes ∷ []) new
    from is = record {
      size = inl is.0;
      kept =
          λ k lt lt' spares. ⊎_elim (λ below. from_take at at new image k is.1 below below) (λ above. from_drop (at + length bytes) new image k is.2 above) spares.0;
    }

-- of a sync: the bytes as they were
pub left_of_sync : (image new : List ℕ) → Agrees image (Sync ∷ []) new ↔ (new ≡ image)
left_of_sync image new = (to, λ same. subst (Agrees image (Sync ∷ [])) (sym same) (agrees-same image (Sync ∷ [])))
  where
    to : Agrees image (Sync ∷ []) new → new ≡ image
    to agrees =
        let long : length new ≡ length image = ⊎_elim (λ same. same) (λ none. absurd none) agrees.size in
        ext_get_or 0 new image long (λ k lt. agrees.kept k (omega arith) lt tt)

-- of a change of length: the former bytes, or the new length with any bytes past the former end
pub left_of_set_len : (image new : List ℕ) (len : ℕ)
    → Agrees image (SetLen len ∷ []) new ↔ ((new ≡ image) ⊎ ((length new ≡ len) × (take (length image) new ≡ take len image)))
left_of_set_len image new len = (to, from)
  where
    to : Agrees image (SetLen len ∷ []) new → (new ≡ image) ⊎ ((length new ≡ len) × (take (length image) new ≡ take len image))
    to agrees = elim agrees.size [
      | inl long ↦ inl (ext_get_or 0 new image long (λ k lt. agrees.kept k (omega arith) lt (inr tt, tt)))
      | inr (inr none) ↦ absurd none
      | inr (inl long) ↦ inr (
        long,
        same_take (length image) len new image (omega (arith, length-take (length image) new, length-take len image))
            (λ k lt. agrees.kept k (omega (arith, length-take (length image) new)) (omega (arith, length-take (length image) new)) (inr tt, tt)),
      )
    ]

    from : (new ≡ image) ⊎ ((length new ≡ len) × (take (length image) new ≡ take len image)) → Agrees image (SetLen len ∷ []) new
    from (inl same) = subst (Agrees image (SetLen len ∷ [])) (sym same) (agrees-same image (SetLen len ∷ []))
    from (inr is) =
        record { size = inr (inl is.0); kept = λ k lt lt' spares. from_take (length image) len new image k is.1 lt (omega (arith, is.0)) }
