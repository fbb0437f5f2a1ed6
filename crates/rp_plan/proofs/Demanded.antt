-- Answers taken from others, with the demands of their faults.
use Rattle.std.proofs.Common.{◌≡◌, ◌∙◌, Result, Ok, Err, inl, inr, ap, sym, subst, Option, None}
use Rattle.rp_base.specs.Answers.{Gives}
use Rattle.rp_demand.specs.declared.demand.Demand.{Demand}
use Rattle.rp_demand.specs.declared.demand.Demand.TheVariants.{Memory}
use Rattle.rp_plan.specs.Goal.{after, unless}

ok_is : {A F : Type 0} (demand : F → Demand) (answer : Result A F) (a : A) → Ok a ≡ after demand answer (λ a. Ok a) → answer ≡ Ok a
ok_is demand (Ok b) a is = cc
ok_is demand (Err f) a is = cc

err_is : {A B F : Type 0} (demand : F → Demand) (answer : Result A F) (next : A → Result B Demand) (e : Demand)
    → Err e ≡ after demand answer (λ a. Ok a) → Err e ≡ after demand answer next
err_is demand (Ok b) next e is = cc
err_is demand (Err f) next e is = cc

-- what was given at Ok is the answer's value
pub given_ok : {A F : Type 0} (demand : F → Demand) (answer : Result A F) (a : A) → Gives Memory (after demand answer (λ a. Ok a)) (Ok a)
    → answer ≡ Ok a
given_ok demand answer a (inl is) = ok_is demand answer a is
given_ok demand answer a (inr is) = cc

-- a demand is one of what is taken from the answer too
pub given_err : {A B F : Type 0} (demand : F → Demand) (answer : Result A F) (next : A → Result B Demand) (e : Demand)
    → Gives Memory (after demand answer (λ a. Ok a)) (Err e) → Gives Memory (after demand answer next) (Err e)
given_err demand answer next e (inl is) = inl (err_is demand answer next e is)
given_err demand answer next e (inr is) = inr (cc)

-- where nothing is demanded
pub given_unless : {A : Type 0} (o : Option Demand) (answer r : Result A Demand) → o ≡ None → Gives Memory answer r → Gives Memory (unless o answer) r
given_unless o answer r is given = subst (λ p. Gives Memory (unless p answer) r) (sym is) given

-- an answer of what follows
pub given_next : {A B F : Type 0} (demand : F → Demand) (answer : Result A F) (next : A → Result B Demand) (a : A) (r : Result B Demand)
    → answer ≡ Ok a → Gives Memory (next a) r → Gives Memory (after demand answer next) r
given_next demand answer next a r is (inl same) = inl (same ∙ ap (λ o. after demand o next) (sym is))
given_next demand answer next a r is (inr memory) = inr memory
