-- What a comparison says of all that may be found.
use Rattle.std.proofs.Common.{inl, inr, subst, ◌≡◌, ℕ, zero, suc, ◌+◌, ◌<◌, ◌≤◌, Bool, true, false, not, ◌&&◌, cond, List, [], ◌∷◌, map, length, get_or, Option, Some, None, arith, refl, ap, sym, ◌∙◌, lit<}
use Rattle.std.specs.Prelude.{find, nat_le, option_map}
use Rattle.std.specs.List.{flat_map, list_all, range_with_len}
use Rattle.std.specs.Option.{option_or}
use Rattle.std.proofs.lemmas.Bool.{and_parts, cases_Bool, cases_lt, leb-true}
use Rattle.std.proofs.lemmas.List.Folds.{find-append}
use Rattle.rp_types.specs.declared.arch.Designator.{Designator}
use Rattle.rp_types.specs.declared.arch.Designator.TheVariants.{Root, Usr, Home, Srv, Esp, Xbootldr, Swap, RootVerity, RootVeritySig, UsrVerity, UsrVeritySig, Tmp, Var}
use Rattle.rp_policy.specs.declared.judging.Found.{Found}
use Rattle.rp_policy.specs.declared.policy.Policy.{Policy}
use Rattle.rp_policy.specs.declared.beyond.Counter.{Counter}
use Rattle.rp_policy.specs.Beyond.{IsFound, all_found, allows, counter_of, first_beyond, is_beyond, states_of}
use Rattle.rp_policy.specs.Judging.{flags_of}
use Rattle.rp_policy.specs.Reading.{designators}
use Rattle.rp_policy.proofs.Finding.{find-some}

-- where nothing passes, the first doesn't, nor do the others
first_fails : {X : Type 0} (p : X → Bool) (x : X) (xs : List X) → find p (x ∷ xs) ≡ None → (p x ≡ false) × (find p xs ≡ None)
first_fails p x xs is = elim (cases_Bool (p x)) [
  | inl t ↦
      let found : Some x ≡ None = sym (ap (λ b. cond b (Some x) (find p xs)) t) ∙ is in
      cc
  | inr t ↦ (t, sym (ap (λ b. cond b (Some x) (find p xs)) t) ∙ is)
]

or_none : {X : Type 0} (a b : Option X) → option_or a b ≡ None → (a ≡ None) × (b ≡ None)
or_none None b is = (refl, is)
or_none (Some x) b is = cc

map_none : {X Y : Type 0} (f : X → Y) (a : Option X) → option_map f a ≡ None → a ≡ None
map_none f None is = refl
map_none f (Some x) is = cc

-- nothing of these kinds passes
kinds_fail : (p : Found → Bool) (a count kinds : ℕ) → find p (flat_map states_of (range_with_len a count)) ≡ None → a ≤ kinds
    → kinds < a + count
    → find p (states_of kinds) ≡ None
kinds_fail p a zero kinds is low high = absurd (omega arith)
kinds_fail p a (suc count) kinds is low high =
    let parts = or_none (find p (states_of a)) (find p (flat_map states_of (range_with_len (a + 1) count)))
    (sym (find-append p (states_of a) (flat_map states_of (range_with_len (a + 1) count))) ∙ is) in
    elim (cases_lt a kinds) [
      | inl past ↦ kinds_fail p (a + 1) count kinds parts.1 (omega arith) (omega arith)
      | inr here ↦ let same : a ≡ kinds = omega arith in subst (λ k. find p (states_of k) ≡ None) same parts.0
    ]

-- the four states of some kinds
abbrev still : ℕ → Bool → Found
still kinds read_only = record { kinds = record { 0 = kinds }; read_only = read_only; growfs = false }

abbrev growing : ℕ → Bool → Found
growing kinds read_only = record { kinds = record { 0 = kinds }; read_only = read_only; growfs = true }

state_fails : (p : Found → Bool) (kinds : ℕ) (read_only growfs : Bool) → find p (states_of kinds) ≡ None
    → p (record { kinds = record { 0 = kinds }; read_only = read_only; growfs = growfs }) ≡ false
state_fails p kinds read_only growfs is =
    let first = first_fails p (still kinds false) (growing kinds false ∷ still kinds true ∷ growing kinds true ∷ []) is in
    let second = first_fails p (growing kinds false) (still kinds true ∷ growing kinds true ∷ []) first.1 in
    let third = first_fails p (still kinds true) (growing kinds true ∷ []) second.1 in
    let fourth = first_fails p (growing kinds true) [] third.1 in
    by_state read_only growfs first.0 second.0 third.0 fourth.0
  where
    by_state : (r g : Bool) → p (still kinds false) ≡ false → p (growing kinds false) ≡ false → p (still kinds true) ≡ false
        → p (growing kinds true) ≡ false → p (record { kinds = record { 0 = kinds }; read_only = r; growfs = g }) ≡ false
    by_state false false a b c d = a
    by_state false true a b c d = b
    by_state true false a b c d = c
    by_state true true a b c d = d

-- nothing that may be found passes
found_fails : (p : Option Found → Bool) (found : Option Found) → find p all_found ≡ None → IsFound found → p found ≡ false
unfolding all_found
found_fails p None is may = (first_fails p None (map Some (flat_map states_of (range_with_len 1 15))) is).0
found_fails p (Some f) is may =
    let rest = (first_fails p None (map Some (flat_map states_of (range_with_len 1 15))) is).1 in
    let bare = map_none Some (find (λ x. p (Some x)) (flat_map states_of (range_with_len 1 15)))
    (sym (find-some p (flat_map states_of (range_with_len 1 15))) ∙ rest) in
    let low = may.0 in
    let high = may.1 in
    state_fails (λ x. p (Some x)) f.kinds.0 f.read_only f.growfs (kinds_fail (λ x. p (Some x)) 1 15 f.kinds.0 bare low (omega arith))

-- of no designator anything is beyond
counter_fails : (a b : Policy) (ds : List Designator) (i : ℕ) (d : Designator) → counter_of ds a b ≡ None → i < length ds
    → first_beyond a b (get_or ds i d) ≡ None
counter_fails a b [] i d is below = absurd (omega arith)
counter_fails a b (e ∷ ds) zero d is below = (or_none (first_beyond a b e) (counter_of ds a b) is).0
counter_fails a b (e ∷ ds) (suc i) d is below =
    counter_fails a b ds i d (or_none (first_beyond a b e) (counter_of ds a b) is).1 (omega arith)

designator_fails : (a b : Policy) (d : Designator) → counter_of designators a b ≡ None → first_beyond a b d ≡ None
designator_fails a b Root is = counter_fails a b designators 0 Root is (lit< tt)
designator_fails a b Usr is = counter_fails a b designators 1 Root is (lit< tt)
designator_fails a b Home is = counter_fails a b designators 2 Root is (lit< tt)
designator_fails a b Srv is = counter_fails a b designators 3 Root is (lit< tt)
designator_fails a b Esp is = counter_fails a b designators 4 Root is (lit< tt)
designator_fails a b Xbootldr is = counter_fails a b designators 5 Root is (lit< tt)
designator_fails a b Swap is = counter_fails a b designators 6 Root is (lit< tt)
designator_fails a b RootVerity is = counter_fails a b designators 7 Root is (lit< tt)
designator_fails a b RootVeritySig is = counter_fails a b designators 8 Root is (lit< tt)
designator_fails a b UsrVerity is = counter_fails a b designators 9 Root is (lit< tt)
designator_fails a b UsrVeritySig is = counter_fails a b designators 10 Root is (lit< tt)
designator_fails a b Tmp is = counter_fails a b designators 11 Root is (lit< tt)
designator_fails a b Var is = counter_fails a b designators 12 Root is (lit< tt)

within : (a b : ℕ) (found : Option Found) → is_beyond a b found ≡ false → allows a found ≡ true → allows b found ≡ true
unfolding is_beyond
within a b found is allowed = elim (cases_Bool (allows b found)) [
  | inl t ↦ t
  | inr t ↦
      let beyond : (true && not false) ≡ false = sym (ap (λ x. x && not (allows b found)) allowed ∙ ap (λ x. true && not x) t) ∙ is in
      cc
]

-- no counter: the second policy allows all that the first allows
pub no_counter : (a b : Policy) (d : Designator) (found : Option Found) → counter_of designators a b ≡ None → IsFound found
    → allows (flags_of a d).0 found ≡ true → allows (flags_of b d).0 found ≡ true
no_counter a b d found is may allowed =
    within (flags_of a d).0 (flags_of b d).0 found
    (found_fails (is_beyond (flags_of a d).0 (flags_of b d).0) found
    (map_none (λ f. record { designator = d; found = f }) (find (is_beyond (flags_of a d).0 (flags_of b d).0) all_found)
    (designator_fails a b d is)) may)
    allowed

-- what is found passes
found_passes : {X : Type 0} (p : X → Bool) (xs : List X) (x : X) → find p xs ≡ Some x → p x ≡ true
found_passes p [] x is = cc
found_passes p (y ∷ ys) x is = elim (cases_Bool (p y)) [
  | inl t ↦
      let here : Some y ≡ Some x = sym (ap (λ b. cond b (Some y) (find p ys)) t) ∙ is in
      let same : y ≡ x = cc in
      subst (λ z. p z ≡ true) same t
  | inr t ↦ found_passes p ys x (sym (ap (λ b. cond b (Some y) (find p ys)) t) ∙ is)
]

beyond : (a b : ℕ) (found : Option Found) → is_beyond a b found ≡ true → (allows a found ≡ true) × (allows b found ≡ false)
unfolding is_beyond
beyond a b found is =
    let parts = and_parts (allows a found) (not (allows b found)) is in (
      parts.0,
      elim (cases_Bool (allows b found)) [
        | inr t ↦ t
        | inl t ↦ let no : not true ≡ true = ap not (sym t) ∙ parts.1 in cc
      ],
    )

-- whether a record of facts may be found
abbrev is_found : Option Found → Bool
is_found None = true
is_found (Some f) = nat_le 1 f.kinds.0 && nat_le f.kinds.0 15

all_are_found : list_all is_found all_found ≡ true
unfolding all_found
all_are_found = refl

may_be_found : (found : Option Found) → is_found found ≡ true → IsFound found
may_be_found None is = tt
may_be_found (Some f) is =
    let parts = and_parts (nat_le 1 f.kinds.0) (nat_le f.kinds.0 15) is in
    (leb-true 1 f.kinds.0 parts.0, leb-true f.kinds.0 15 parts.1)

-- what is found among those that all pass a test, passes it
found_among : {X : Type 0} (p q : X → Bool) (xs : List X) (x : X) → list_all q xs ≡ true → find p xs ≡ Some x → q x ≡ true
found_among p q [] x all is = cc
found_among p q (y ∷ ys) x all is =
    let parts = and_parts (q y) (list_all q ys) all in
    elim (cases_Bool (p y)) [
      | inl t ↦
          let here : Some y ≡ Some x = sym (ap (λ b. cond b (Some y) (find p ys)) t) ∙ is in
          let same : y ≡ x = cc in
          subst (λ z. q z ≡ true) same parts.0
      | inr t ↦ found_among p q ys x parts.1 (sym (ap (λ b. cond b (Some y) (find p ys)) t) ∙ is)
    ]

-- it may be found, and one policy allows it, and another denies it
abbrev pub IsBetween : Policy → Policy → Counter → Type 0
IsBetween a b c =
    IsFound c.found × (allows (flags_of a c.designator).0 c.found ≡ true) × (allows (flags_of b c.designator).0 c.found ≡ false)

of_first : (a b : Policy) (d : Designator) (r : Option (Option Found)) (c : Counter)
    → find (is_beyond (flags_of a d).0 (flags_of b d).0) all_found ≡ r
    → option_map (λ found. record { designator = d; found = found }) r ≡ Some c
    → IsBetween a b c
of_first a b d None c is same = cc
of_first a b d (Some found) c is same =
    let counter : record { designator = d; found = found } ≡ c = cc in
    let test = is_beyond (flags_of a d).0 (flags_of b d).0 in
    let parts = beyond (flags_of a d).0 (flags_of b d).0 found (found_passes test all_found found is) in
    let may = may_be_found found (found_among test is_found all_found found all_are_found is) in
    subst (λ (x : Counter). IsBetween a b x) counter (may, parts.0, parts.1)

-- a counter may be found, is allowed by the first policy and denied by the second
pub counter_between : (a b : Policy) (ds : List Designator) (c : Counter) → counter_of ds a b ≡ Some c → IsBetween a b c
counter_between a b [] c is = cc
counter_between a b (d ∷ ds) c is = by_first (first_beyond a b d) refl (λ rest. counter_between a b ds c rest)
  where
    by_first : (r : Option Counter) → first_beyond a b d ≡ r → (counter_of ds a b ≡ Some c → IsBetween a b c) → IsBetween a b c
    by_first None same later = later (ap (λ o. option_or o (counter_of ds a b)) (sym same) ∙ is)
    by_first (Some e) same later = of_first a b d (find (is_beyond (flags_of a d).0 (flags_of b d).0) all_found) c refl
        (same ∙ ap (λ o. option_or o (counter_of ds a b)) (sym same) ∙ is)
