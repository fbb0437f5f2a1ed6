-- What an answer depends on.
use Rattle.std.proofs.Common.{◌≡◌, ◌≢◌, ℕ, List, length, Err, refl, ne_eqb}
use Rattle.rp_base.specs.declared.geometry.Which.{Which}
use Rattle.rp_base.specs.declared.geometry.Which.TheVariants.{Primary}
use Rattle.rp_gpt.specs.declared.copy.CopyFault.TheVariants.{Signature}
use Rattle.rp_gpt.specs.Fields.{signature}
use Rattle.rp_gpt.specs.Copy.{header_of, array_of, entry_bytes, chosen_entries, header_fault, judged, answer}

-- the primary's places are the same on each disk
pub answer-primary : (bytes : List ℕ) (sectors others sector : ℕ) → answer bytes Primary sectors sector ≡ answer bytes Primary others sector
unfolding answer judged header_fault
answer-primary bytes sectors others sector = refl

-- an answer is that of a header, of the entries that it is read with, and of the length of the place
pub answer-parts : (bytes others : List ℕ) (which : Which) (sectors sector : ℕ) → length bytes ≡ length others → header_of sector bytes which ≡ header_of sector others which → entry_bytes (chosen_entries sector (length bytes) (header_of sector bytes which)) (array_of sector bytes which) ≡ entry_bytes (chosen_entries sector (length bytes) (header_of sector bytes which)) (array_of sector others which) → answer bytes which sectors sector ≡ answer others which sectors sector
unfolding answer
answer-parts bytes others which sectors sector long header entries = rw (entries, long, header) refl

-- no signature, no copy
pub answer-unsigned : (bytes : List ℕ) (which : Which) (sectors sector : ℕ) → signature (header_of sector bytes which) ≢ 0x5452415020494645 → answer bytes which sectors sector ≡ Err Signature
unfolding answer judged header_fault
answer-unsigned bytes which sectors sector other = rw (ne_eqb _ _ other) refl
