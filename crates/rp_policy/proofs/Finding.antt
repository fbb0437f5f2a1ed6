-- Where the first that passes a test is found, part by part.
use Rattle.std.proofs.Common.{◌≡◌, ℕ, suc, ◌+◌, ◌<◌, ◌≤◌, Bool, true, false, cond, List, [], ◌∷◌, map, length, drop, get_or, Option, Some, None, arith, refl, ap, sym, ◌∙◌, drop-cons}
use Rattle.std.specs.Prelude.{find, option_map}
use Rattle.std.specs.List.{flat_map, range_with_len}
use Rattle.std.specs.Option.{option_or}
use Rattle.std.proofs.Math.ListN.{drop_of_length-le}
use Rattle.std.proofs.lemmas.List.Folds.{find-append}
use Rattle.rp_types.specs.declared.arch.Designator.{Designator}
use Rattle.rp_policy.specs.declared.judging.Found.{Found}
use Rattle.rp_policy.specs.declared.policy.Flags.{Flags}
use Rattle.rp_policy.specs.declared.policy.Policy.{Policy}
use Rattle.rp_policy.specs.Beyond.{all_found, counter_of, is_beyond, states_of}
use Rattle.rp_policy.specs.Judging.{flags_of}

option_map-cond : {A B : Type 0} (f : A → B) (b : Bool) (x y : Option A)
    → option_map f (cond b x y) ≡ cond b (option_map f x) (option_map f y)
option_map-cond f true x y = refl
option_map-cond f false x y = refl

pub find-some : (p : Option Found → Bool) (xs : List Found) → find p (map Some xs) ≡ option_map Some (find (λ x. p (Some x)) xs)
find-some p [] = refl
find-some p (x ∷ xs) = ap (cond (p (Some x)) (Some (Some x))) (find-some p xs)
    ∙ sym (option_map-cond Some (p (Some x)) (Some x) (find (λ y. p (Some y)) xs))

-- the first of those with these kinds and those behind
abbrev pub found_from : ℕ → ℕ → ℕ → ℕ → Option (Option Found)
found_from a b kinds count = option_map Some (find (λ f. is_beyond a b (Some f)) (flat_map states_of (range_with_len kinds count)))

pub found_start : (a b : ℕ) → is_beyond a b None ≡ false → find (is_beyond a b) all_found ≡ found_from a b 1 15
unfolding all_found
found_start a b none = ap (λ t. cond t (Some None) (find (is_beyond a b) (map Some (flat_map states_of (range_with_len 1 15))))) none
    ∙ find-some (is_beyond a b) (flat_map states_of (range_with_len 1 15))

pub found_first : (a b : ℕ) → is_beyond a b None ≡ true → Some None ≡ find (is_beyond a b) all_found
unfolding all_found
found_first a b some = sym (ap (λ t. cond t (Some None)
    (find (is_beyond a b) (map Some (flat_map states_of (range_with_len 1 15))))) some)

pub found_here : (a b kinds count : ℕ) (f : Found) → Some f ≡ find (λ x. is_beyond a b (Some x)) (states_of kinds)
    → found_from a b kinds (suc count) ≡ Some (Some f)
found_here a b kinds count f is =
    ap (option_map Some) (find-append (λ x. is_beyond a b (Some x)) (states_of kinds)
    (flat_map states_of (range_with_len (kinds + 1) count))
    ∙ ap (λ o. option_or o (find (λ x. is_beyond a b (Some x)) (flat_map states_of (range_with_len (kinds + 1) count)))) (sym is))

pub found_later : (a b kinds count : ℕ) → None ≡ find (λ x. is_beyond a b (Some x)) (states_of kinds)
    → found_from a b kinds (suc count) ≡ found_from a b (kinds + 1) count
found_later a b kinds count is =
    ap (option_map Some) (find-append (λ x. is_beyond a b (Some x)) (states_of kinds)
    (flat_map states_of (range_with_len (kinds + 1) count))
    ∙ ap (λ o. option_or o (find (λ x. is_beyond a b (Some x)) (flat_map states_of (range_with_len (kinds + 1) count)))) (sym is))

-- the first designator, or those behind
pub counter_here : (a b : Policy) (d : Designator) (ds : List Designator) (found : Option Found)
    → Some found ≡ find (is_beyond (flags_of a d).0 (flags_of b d).0) all_found
    → counter_of (d ∷ ds) a b ≡ Some (record { designator = d; found = found })
counter_here a b d ds found is =
    ap (λ o. option_or (option_map (λ f. record { designator = d; found = f }) o) (counter_of ds a b)) (sym is)

pub counter_later : (a b : Policy) (d : Designator) (ds : List Designator)
    → None ≡ find (is_beyond (flags_of a d).0 (flags_of b d).0) all_found → counter_of (d ∷ ds) a b ≡ counter_of ds a b
counter_later a b d ds is =
    ap (λ o. option_or (option_map (λ f. record { designator = d; found = f }) o) (counter_of ds a b)) (sym is)

-- the designator at a place, or those behind it
pub counter_at : (a b : Policy) (ds : List Designator) (i : ℕ) (d0 : Designator) (fa fb : Flags) (found : Option Found) → i < length ds
    → fa ≡ flags_of a (get_or ds i d0) → fb ≡ flags_of b (get_or ds i d0) → Some found ≡ find (is_beyond fa.0 fb.0) all_found
    → counter_of (drop i ds) a b ≡ Some (record { designator = get_or ds i d0; found = found })
counter_at a b ds i d0 fa fb found below fa_is fb_is is =
    ap (λ rest. counter_of rest a b) (drop-cons ds i d0 below)
    ∙ counter_here a b (get_or ds i d0) (drop (suc i) ds) found
    (is ∙ ap (λ (f : Flags). find (is_beyond f.0 fb.0) all_found) fa_is
    ∙ ap (λ (f : Flags). find (is_beyond (flags_of a (get_or ds i d0)).0 f.0) all_found) fb_is)

pub counter_past : (a b : Policy) (ds : List Designator) (i : ℕ) (d0 : Designator) (fa fb : Flags) → i < length ds
    → fa ≡ flags_of a (get_or ds i d0) → fb ≡ flags_of b (get_or ds i d0) → None ≡ find (is_beyond fa.0 fb.0) all_found
    → counter_of (drop i ds) a b ≡ counter_of (drop (i + 1) ds) a b
counter_past a b ds i d0 fa fb below fa_is fb_is is =
    let next : suc i ≡ i + 1 = omega arith in
    ap (λ rest. counter_of rest a b) (drop-cons ds i d0 below)
    ∙ counter_later a b (get_or ds i d0) (drop (suc i) ds)
    (is ∙ ap (λ (f : Flags). find (is_beyond f.0 fb.0) all_found) fa_is
    ∙ ap (λ (f : Flags). find (is_beyond (flags_of a (get_or ds i d0)).0 f.0) all_found) fb_is)
    ∙ ap (λ n. counter_of (drop n ds) a b) next

pub counter_end : (a b : Policy) (ds : List Designator) (i : ℕ) → length ds ≤ i → counter_of (drop i ds) a b ≡ None
counter_end a b ds i past = ap (λ rest. counter_of rest a b) (drop_of_length-le ds {i = i} past)
