-- Writes into a slice, one behind another.
use Rattle.std.proofs.Common.{◌≡◌, ℕ, ◌+◌, ◌<◌, ◌≤◌, List, [], ◌∷◌, ◌++◌, length, take, get_or, ap, sym, ◌∙◌, arith}
use borrow.Rule.Slice.PartMut.{put_mid}
use Rattle.std.specs.List.{flat_map, concat}
use Rattle.std.proofs.lemmas.List.{flat_map_more, take_more, append_assoc, append-nil}
use Rattle.std.proofs.lemmas.Slice.{take-put_mid}
use Rattle.rp_gpt.specs.Numbers.{u16_bytes, units_bytes}

pub put : (out bytes : List ℕ) (at k : ℕ) → at + length bytes ≤ length out → take (at + length bytes) (put_mid at k out bytes) ≡ take at out ++ bytes
put out bytes at k h = take-put_mid at k out bytes (at + length bytes) (omega arith) (omega arith)

-- one unit more of a name
pub units-more : (front units : List ℕ) (k : ℕ) → k < length units → front ++ units_bytes (take k units) ++ u16_bytes (get_or units k 0) ≡ front ++ units_bytes (take (k + 1) units)
unfolding units_bytes
units-more front units k below =
    flat_map_more u16_bytes front (take k units) (get_or units k 0) ∙ ap (λ us. front ++ flat_map u16_bytes us) (sym (take_more units k 0 below))

-- five parts, one behind another
pub five-joined : (a b c d e : List ℕ) → a ++ b ++ c ++ d ++ e ≡ a ++ (b ++ (c ++ (d ++ e)))
five-joined a b c d e = simp append_assoc

-- the fields of an entry, and of a header, one behind another
pub six-joined : (a b c d e f : List ℕ) → a ++ b ++ c ++ d ++ e ++ f ≡ concat (a ∷ b ∷ c ∷ d ∷ e ∷ f ∷ [])
six-joined a b c d e f = simp (append_assoc, append-nil)

pub fourteen-joined : (a b c d e f g h i j k l m n : List ℕ) → a ++ b ++ c ++ d ++ e ++ f ++ g ++ h ++ i ++ j ++ k ++ l ++ m ++ n ≡ concat (a ∷ b ∷ c ∷ d ∷ e ∷ f ∷ g ∷ h ∷ i ∷ j ∷ k ∷ l ∷ m ∷ n ∷ [])
fourteen-joined a b c d e f g h i j k l m n = simp (append_assoc, append-nil)
