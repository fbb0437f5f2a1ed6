-- What is written at the places of definitions is what is found under them.
use Rattle.std.proofs.Common.{◌≡◌, ◌≢◌, ◌==◌, ℕ, ◌+◌, ◌<◌, false, List, [], ◌∷◌, ◌++◌, length, get_or, map, replicate, Option, Some, None, AllPairs, slice_set, arith, refl, ap, sym, ◌∙◌, inl, inr}
use Rattle.std.specs.List.{enumerate_from, find, flat_map}
use Rattle.std.specs.Option.{option_or}
use Rattle.std.proofs.lemmas.Bool.{cases_eq, cond-false, cond-true, eq-eqb, ne_eqb}
use Rattle.std.proofs.lemmas.List.{ext_get_or, get_or-map, get_or-replicate, get_or-set_other, get_or-set_same, length-map, length-replicate, length-set}
use Rattle.std.proofs.lemmas.List.Elements.{All-weaker}
use Rattle.std.proofs.lemmas.List.FromFn.{length-enumerate_from}
use Rattle.rp_base.specs.declared.want.Want.{Want}
use Rattle.rp_areas.specs.declared.gaps.Area.{Area}
use Rattle.rp_layout.specs.declared.seat.Seat.{Seat}
use Rattle.rp_layout.specs.declared.spot.Spot.{Spot}
use Rattle.rp_layout.specs.Layout.{spots_from}
use Rattle.rp_layout.specs.Seats.{stack_of}
use Rattle.rp_layout.specs.Stacking.{spots_over, written}
use Rattle.rp_layout.proofs.Lists.{AllPairs-head, AllPairs-tail, None-find, enumerated_at}
use Rattle.rp_layout.proofs.Seating.{length-written}

abbrev Differ : Spot → Spot → Type 0
Differ s t = s.file ≢ t.file

abbrev found_in : List Spot → ℕ → Option Spot
found_in ss k = find (λ (s : Spot). s.file == k) ss

pub written_at : (ss : List Spot) (spots : List (Option Spot)) (k : ℕ) → AllPairs Differ ss → k < length spots
    → get_or (written spots ss) k None ≡ option_or (found_in ss k) (get_or spots k None)
written_at [] spots k differ below = refl
written_at (s ∷ ss) spots k differ below =
    let after : List (Option Spot) = slice_set spots s.file (Some s) in
    let rest = written_at ss after k (AllPairs-tail Differ s ss differ) (omega (arith, below, length-set spots s.file (Some s))) in
    elim (cases_eq s.file k) [
      | inl same ↦
          let others : found_in ss k ≡ None = None-find (λ (t : Spot). t.file == k) ss
          (All-weaker (Differ s) (λ (t : Spot). (t.file == k) ≡ false) (λ t apart. ne_eqb t.file k (λ e. apart (same ∙ sym e))) ss
          (AllPairs-head Differ s ss differ)) in
          let here : get_or after k None ≡ Some s = ap (λ (i : ℕ). get_or after i None) (sym same)
          ∙ get_or-set_same spots s.file (Some s) None (omega (arith, same, below)) in
          rest ∙ ap (λ (o : Option Spot). option_or o (get_or after k None)) others ∙ here
          ∙ sym (ap (λ (o : Option Spot). option_or o (get_or spots k None)) (cond-true (s.file == k) (Some s) (found_in ss k)
          (eq-eqb s.file k same)))
      | inr apart ↦
          rest ∙ ap (option_or (found_in ss k)) (get_or-set_other spots s.file k (Some s) None (λ e. apart (sym e)))
          ∙ sym (ap (λ (o : Option Spot). option_or o (get_or spots k None)) (cond-false (s.file == k) (Some s) (found_in ss k)
          (ne_eqb s.file k apart)))
    ]

or_none : (o : Option Spot) → option_or o None ≡ o
or_none None = refl
or_none (Some s) = refl

pub written_is : (wants : List Want) (ss : List Spot) → AllPairs Differ ss
    → written (replicate (length wants) None) ss ≡ map (λ e. find (λ (s : Spot). s.file == e.0) ss) (enumerate_from 0 wants)
written_is wants ss differ =
    let none : List (Option Spot) = replicate (length wants) None in
    let long : length none ≡ length wants = length-replicate (length wants) None in
    let answer : List (Option Spot) = map (λ (e : ℕ × Want). find (λ (s : Spot). s.file == e.0) ss) (enumerate_from 0 wants) in
    let also : length answer ≡ length wants = length-map (enumerate_from 0 wants) (λ (e : ℕ × Want). find (λ (s : Spot). s.file == e.0) ss)
    ∙ length-enumerate_from 0 wants in
    ext_get_or None (written none ss) answer (length-written none ss ∙ long ∙ sym also) (λ k inside.
    let below : k < length wants = omega (arith, inside, length-written none ss, long) in
    let d : Want = record { min = 0; max = 0; weight = 0; pad_min = 0; pad_max = 0; pad_weight = 0 } in
    written_at ss none k differ (omega (arith, below, long))
    ∙ ap (option_or (found_in ss k)) (get_or-replicate (length wants) k None None below) ∙ or_none (found_in ss k)
    ∙ sym (get_or-map (λ (e : ℕ × Want). find (λ (s : Spot). s.file == e.0) ss) (enumerate_from 0 wants) k (0, d) None
    (omega (arith, below, length-enumerate_from 0 wants))
    ∙ ap (λ (e : ℕ × Want). find (λ (s : Spot). s.file == e.0) ss) (enumerated_at wants k (0, d) below)))

-- the partitions of all areas, from the seats of each
pub over_is : (f : ℕ × Area → List Seat) (n : ℕ) (areas : List Area)
    → spots_over areas (map f (enumerate_from n areas)) ≡ flat_map (λ e. spots_from e.1.from (stack_of e.1.span (f e)))
    (enumerate_from n areas)
over_is f n [] = refl
over_is f n (a ∷ areas) = ap (λ (rest : List Spot). spots_from a.from (stack_of a.span (f (n, a))) ++ rest) (over_is f (n + 1) areas)
