-- A read with a limit needs one byte past it.
use Rattle.std.proofs.Common.{◌≡◌, ℕ, ◌+◌, ◌<◌, List, [], ◌++◌, Bool, true, false, length, take, refl, ap, sym, ◌∙◌, arith, cond, nat_le, subst, take_all}
use Rattle.std.specs.Prelude.{Option, Some, None, IfSome, option_map}
use Rattle.std.proofs.lemmas.Bool.{leb-true, leb-false, lt-leb}
use Rattle.std.proofs.lemmas.List.{length-take-le}
use Rattle.std.specs.Io.Take.{take_limit, take_inner, take_remaining}
use Rattle.std.specs.declared.io.traits.Take.{Take}
use Rattle.rp_io.specs.declared.folders.Content.{Content}
use Rattle.rp_io.specs.declared.folders.Content.TheVariants.{Whole, More}
use Rattle.rp_io.specs.Files.{limited}

limited_short : (limit : ℕ) (bytes : List ℕ) → limit < length bytes → limited limit bytes ≡ More
limited_short limit bytes more = ap (λ t. cond t (Whole bytes) More) (lt-leb (length bytes) limit more)

limited_part : (limit : ℕ) (left : List ℕ) → limited limit (take (limit + 1) left) ≡ limited limit left
limited_part limit left = by_test (nat_le (length left) limit) refl where
  by_test : (t : Bool) → nat_le (length left) limit ≡ t → limited limit (take (limit + 1) left) ≡ limited limit left
  by_test true h = let le = leb-true (length left) limit h in ap (limited limit) (take_all (limit + 1) left (omega arith))
  by_test false h =
      let more = leb-false (length left) limit h in
      let len = length-take-le (limit + 1) left (omega arith) in
      limited_short limit (take (limit + 1) left) (omega arith) ∙ sym (limited_short limit left more)

known_part : (known : Option (List ℕ)) (count limit : ℕ) (bytes : List ℕ) (held : Content) → count ≡ limit + 1
    → IfSome (option_map (take count) known) (λ part. bytes ≡ part) → held ≡ limited limit bytes → IfSome known (λ left. held ≡ limited limit left)
known_part None count limit bytes held is read gives = tt
known_part (Some left) count limit bytes held is read gives =
    gives ∙ ap (limited limit) (read ∙ ap (λ n. take n left) is) ∙ limited_part limit left

from_start : (known : Option (List ℕ)) (start bytes : List ℕ) → start ≡ [] → IfSome known (λ part. bytes ≡ start ++ part) → IfSome known (λ part. bytes ≡ part)
from_start None start bytes is read = tt
from_start (Some part) start bytes is read = read ∙ ap (λ s. s ++ part) is

pub limited_read : {F : Type 0} (remaining : F → Option (List ℕ)) (file : F) (part : Take F) (limit : ℕ) (start bytes : List ℕ) (held : Content)
    → take_limit part ≡ limit + 1 → take_inner part ≡ file → start ≡ [] → IfSome (take_remaining remaining part) (λ left. bytes ≡ start ++ left)
    → held ≡ limited limit bytes → IfSome (remaining file) (λ left. held ≡ limited limit left)
limited_read remaining file part limit start bytes held is inner empty read gives =
    let same = known_part (remaining (take_inner part)) (take_limit part) limit bytes held is (from_start _ start bytes empty read) gives in
    subst (λ f. IfSome (remaining f) (λ left. held ≡ limited limit left)) inner same
