-- A bound below another one.
use Rattle.std.proofs.Common.{◌≡◌, ℕ, Bool, true, false, cond, leb, Option, None, Some, refl, arith}
use Rattle.std.proofs.lemmas.Bool.Decides.{nat_tests}
use Rattle.rp_values.specs.Numbers.{at_most}

by_test : (n : ℕ) (b : Bool) → leb n 1000000 ≡ b → at_most 100 (cond b (Some n) None) ≡ at_most 100 (Some n)
by_test n true is = refl
by_test n false is = by_least (leb n 100) refl where
  by_least : (c : Bool) → leb n 100 ≡ c → None ≡ cond c (Some n) None
  by_least true small = absurd (grind (arith, nat_tests))
  by_least false large = refl

pub most_of_weight : (number : Option ℕ) → at_most 100 (at_most 1000000 number) ≡ at_most 100 number
most_of_weight None = refl
most_of_weight (Some n) = by_test n (leb n 1000000) refl
