use Rattle.std.proofs.Common.{◌≡◌, ℕ, zero, suc, ◌<◌, ◌+◌, ◌*◌, ◌⊎◌, ⊎_elim, List, [], ◌∷◌, ◌++◌, length, refl, sym, ◌∙◌, ap, subst, arith, append_assoc}
use Rattle.rp_disk.specs.declared.call.Call.{Call}
use Rattle.rp_disk.specs.declared.call.Call.TheVariants.{Write}
use Rattle.rp_disk_example.specs.Copies.{row_of}

or_last : (i count : ℕ) → i < suc count → (i ≡ count) ⊎ (i < count)
or_last i count below = grind arith

-- a row of writes from one of them on
pub row_split : (at count i : ℕ) (bytes : List ℕ) → i < count
    → (rest : List Call) × (row_of at count bytes ≡ row_of at i bytes ++ Write (at + i * length bytes) bytes ∷ rest)
row_split at zero i bytes below = absurd (omega arith)
row_split at (suc count) i bytes below = ⊎_elim
    (λ (last : i ≡ count). ([], let P : ℕ → Type 0 = λ j. row_of at (suc count) bytes ≡ row_of at j bytes ++ Write (at + j * length bytes) bytes ∷ [] in subst P (sym last) refl))
    (λ (before : i < count). let r = row_split at count i bytes before in (
      r.0 ++ Write (at + count * length bytes) bytes ∷ [],
      ap (λ l. l ++ Write (at + count * length bytes) bytes ∷ []) r.1
          ∙ append_assoc (row_of at i bytes) (Write (at + i * length bytes) bytes ∷ r.0) (Write (at + count * length bytes) bytes ∷ []),
    ))
    (or_last i count below)
