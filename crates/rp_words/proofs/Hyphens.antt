-- What stands behind a hyphen, as the runtime finds it.
use Rattle.std.proofs.Common.{◌≡◌, ◌≢◌, ℕ, List, [], ◌∷◌, Bool, true, false, cond, eqb, Option, None, Some, refl, sym, ap, arith, Bor}
use Rattle.std.specs.Prelude.{MatchOption, option_map}
use Rattle.std.proofs.lemmas.Bool.Decides.{nat_tests}
use Rattle.rp_words.specs.Words.{behind_hyphen}

by_test : (byte : ℕ) (rest : List ℕ) (found : Option (Bor (List ℕ))) (b : Bool) → eqb byte 45 ≡ b
    → MatchOption found ((more : List ℕ) → byte ∷ rest ≢ 45 ∷ more) (λ x. byte ∷ rest ≡ 45 ∷ x.now)
    → option_map (λ x. x.now) found ≡ cond b (Some rest) None
by_test byte rest None true is isnt = absurd (isnt rest (ap (λ n. n ∷ rest) (grind (arith, nat_tests))))
by_test byte rest None false is isnt = refl
by_test byte rest (Some x) true is same = ap Some (sym (cc))
by_test byte rest (Some x) false is same = absurd (grind (arith, nat_tests))

pub behind_hyphen-found : (text : List ℕ) (found : Option (Bor (List ℕ)))
    → MatchOption found ((more : List ℕ) → text ≢ 45 ∷ more) (λ x. text ≡ 45 ∷ x.now)
    → option_map (λ x. x.now) found ≡ behind_hyphen text
behind_hyphen-found [] None isnt = refl
behind_hyphen-found [] (Some x) same = absurd (cc)
behind_hyphen-found (byte ∷ rest) found is = by_test byte rest found (eqb byte 45) refl is
