-- The walk over new definitions.
use Rattle.std.proofs.Common.{◌≡◌, ℕ, ℤ, ◌+◌, ◌-◌, ◌<◌, Bool, true, false, cond, List, [], ◌∷◌, ◌++◌, length, get_or, drop, fold, max, slice_set, Option, Some, None, Result, Ok, Err, refl, ap, sym, ◌∙◌, append_assoc}
use Rattle.std.specs.Prelude.{int_le}
use Rattle.std.specs.Option.{option_map_or}
use Rattle.std.proofs.lemmas.List.{drop_more}
use Rattle.rp_areas.specs.declared.gaps.Area.{Area}
use Rattle.rp_place.specs.declared.fit.Candidate.{Candidate}
use Rattle.rp_place.specs.declared.fit.New.{New}
use Rattle.rp_place.specs.declared.fit.PlaceFault.{PlaceFault}
use Rattle.rp_place.specs.declared.fit.PlaceFault.TheVariants.{Room}
use Rattle.rp_place.specs.Placing.{before_all, best_of, kept, placed_in}

abbrev pub Answer : Type 0
Answer = Result (List (Option ℕ)) PlaceFault

-- places before the others
abbrev pub after : List (Option ℕ) → Answer → Answer
after places (Ok others) = Ok (places ++ others)
after places (Err fault) = Err fault

after-push : (places : List (Option ℕ)) (p : Option ℕ) (rest : Answer) → after (places ++ p ∷ []) rest ≡ after places (before_all p rest)
after-push places p (Ok others) = ap (λ ps. Ok ps) (append_assoc places (p ∷ []) others)
after-push places p (Err fault) = refl

-- the answer after one more definition
abbrev next : List Area → ℤ → List ℕ → New → List New → Bool → Option Candidate → Answer
next areas t rooms n ns kept best = cond kept
    (option_map_or (λ c. before_all (Some c.place) (placed_in areas t (slice_set rooms c.place (c.available - n.need)) ns)) best
    (Err (Room n.file n.need (fold max 0 rooms))))
    (before_all None (placed_in areas t rooms ns))

pub step_dropped : (areas : List Area) (t : ℤ) (rooms : List ℕ) (places : List (Option ℕ)) (news : List New) (i : ℕ) (d : New)
    (whole : Answer) → i < length news
    → int_le (get_or news i d).priority t ≡ false → after places (placed_in areas t rooms (drop i news)) ≡ whole
    → after (places ++ None ∷ []) (placed_in areas t rooms (drop (i + 1) news)) ≡ whole
step_dropped areas t rooms places news i d whole below test is =
    after-push places None (placed_in areas t rooms (drop (i + 1) news))
    ∙ ap (after places) (sym (ap (λ b. next areas t rooms (get_or news i d) (drop (i + 1) news) b
    (best_of areas rooms (get_or news i d).need)) test))
    ∙ ap (λ ns. after places (placed_in areas t rooms ns)) (sym (drop_more news i d below)) ∙ is

pub step_placed : (areas : List Area) (t : ℤ) (rooms : List ℕ) (places : List (Option ℕ)) (news : List New) (i : ℕ) (d : New)
    (c : Candidate) (whole : Answer) → i < length news
    → int_le (get_or news i d).priority t ≡ true → best_of areas rooms (get_or news i d).need ≡ Some c
    → after places (placed_in areas t rooms (drop i news)) ≡ whole
    → after (places ++ Some c.place ∷ []) (placed_in areas t (slice_set rooms c.place (c.available - (get_or news i d).need))
    (drop (i + 1) news)) ≡ whole
step_placed areas t rooms places news i d c whole below test best is =
    after-push places (Some c.place) (placed_in areas t (slice_set rooms c.place (c.available - (get_or news i d).need))
    (drop (i + 1) news))
    ∙ ap (after places) (sym (ap (λ b. next areas t rooms (get_or news i d) (drop (i + 1) news) b
    (best_of areas rooms (get_or news i d).need)) test
    ∙ ap (λ o. next areas t rooms (get_or news i d) (drop (i + 1) news) true o) best))
    ∙ ap (λ ns. after places (placed_in areas t rooms ns)) (sym (drop_more news i d below)) ∙ is

pub step_none : (areas : List Area) (t : ℤ) (rooms : List ℕ) (places : List (Option ℕ)) (news : List New) (i : ℕ) (d : New)
    (whole : Answer) → i < length news
    → int_le (get_or news i d).priority t ≡ true → best_of areas rooms (get_or news i d).need ≡ None
    → after places (placed_in areas t rooms (drop i news)) ≡ whole
    → Err (Room (get_or news i d).file (get_or news i d).need (fold max 0 rooms)) ≡ whole
step_none areas t rooms places news i d whole below test best is =
    ap (after places) (sym (ap (λ b. next areas t rooms (get_or news i d) (drop (i + 1) news) b
    (best_of areas rooms (get_or news i d).need)) test
    ∙ ap (λ o. next areas t rooms (get_or news i d) (drop (i + 1) news) true o) best))
    ∙ ap (λ ns. after places (placed_in areas t rooms ns)) (sym (drop_more news i d below)) ∙ is
