-- What an answer keeps.
use Rattle.std.proofs.Common.{◌≡◌, ◌≢◌, ◌==◌, ℕ, ℤ, zero, suc, ◌+◌, ◌-◌, ◌<◌, ◌≤◌, true, false, cond, List, [], ◌∷◌, length, length-set, fold, map, max, slice_get, slice_index, slice_set, Option, Some, None, IfSome, Ok, Err, IfOk, IfErr, All, arith, refl, ap, sym, ◌∙◌, inl, inr, is_some, get_or-set_other, get_or-set_same, subst}
use Rattle.std.specs.Prelude.{int_le}
use Rattle.std.specs.List.{AllZip}
use Rattle.std.specs.Option.{option_map_or}
use Rattle.std.proofs.lemmas.Bool.{cases_eq, cond_both, eq-eqb, ne_eqb}
use Rattle.std.proofs.lemmas.List.{length-map}
use Rattle.std.proofs.lemmas.List.Elements.{All-cons, All-head, All-nil, All-tail}
use Rattle.rp_areas.specs.declared.gaps.Area.{Area}
use Rattle.rp_place.specs.declared.fit.Candidate.{Candidate}
use Rattle.rp_place.specs.declared.fit.New.{New}
use Rattle.rp_place.specs.declared.fit.PlaceFault.{PlaceFault}
use Rattle.rp_place.specs.declared.fit.PlaceFault.TheVariants.{Room, Slot}
use Rattle.rp_place.specs.Facts.{IsPlacement, needs_in}
use Rattle.rp_place.specs.Placing.{before_all, best_of, placed, placed_in, slotted}
use Rattle.rp_place.proofs.Best.{IsRoomy, best_roomy}
use Rattle.rp_place.proofs.Walk.{Answer}

-- the same for so many available grains
pub record Keeps (areas : List Area) (t : ℤ) (rooms : List ℕ) (news : List New) (places : List (Option ℕ)) : Type 0 where
  pub in_areas : All (λ p. IfSome p (λ place. place < length areas)) places
  pub chosen : AllZip (λ (n : New) p. is_some p ≡ int_le n.priority t) news places
  pub fits : (area : ℕ) → needs_in area news places ≤ slice_index rooms area

before_keeps : (p : Option ℕ) (answer : Answer) (Q P : List (Option ℕ) → Type 0)
    → ((places : List (Option ℕ)) → Q places → P (p ∷ places)) → IfOk answer Q → IfOk (before_all p answer) P
before_keeps p (Ok places) Q P step kept = step places kept
before_keeps p (Err fault) Q P step kept = tt

keeps_placed : (areas : List Area) (t : ℤ) (rooms : List ℕ) (n : New) (ns : List New) (c : Candidate) → length rooms ≡ length areas
    → int_le n.priority t ≡ true → IsRoomy areas rooms n.need c
    → (places : List (Option ℕ)) → Keeps areas t (slice_set rooms c.place (c.available - n.need)) ns places
    → Keeps areas t rooms (n ∷ ns) (Some c.place ∷ places)
keeps_placed areas t rooms n ns c long test roomy places rest = record {
  in_areas = All-cons (λ p. IfSome p (λ place. place < length areas)) (Some c.place) places roomy.place rest.in_areas;
  chosen = (sym test, rest.chosen);
  fits = λ area. elim (cases_eq c.place area) [
    | inl e ↦
        let inside : c.place < length rooms = omega (arith, long, roomy.place) in
        let now : slice_index (slice_set rooms c.place (c.available - n.need)) area ≡ c.available - n.need = ap
        (slice_index (slice_set rooms c.place (c.available - n.need))) (sym e)
        ∙ get_or-set_same rooms c.place (c.available - n.need) 0 inside in
        let was : c.available ≡ slice_index rooms area = roomy.available ∙ ap (slice_index rooms) e in
        let own : ◌≡◌ {A = ℕ} (cond (c.place == area) n.need 0) n.need = ap (λ b. cond b n.need 0) (eq-eqb c.place area e) in
        omega (arith, rest.fits area, now, was, own, roomy.room)
    | inr e ↦
        let now : slice_index (slice_set rooms c.place (c.available - n.need)) area ≡ slice_index rooms area = get_or-set_other rooms
        c.place area (c.available - n.need) 0 (λ q. e (sym q)) in
        let own : ◌≡◌ {A = ℕ} (cond (c.place == area) n.need 0) 0 = ap (λ b. cond b n.need 0) (ne_eqb c.place area e) in
        omega (arith, rest.fits area, now, own)
  ];
}

keeps_dropped : (areas : List Area) (t : ℤ) (rooms : List ℕ) (n : New) (ns : List New) → int_le n.priority t ≡ false
    → (places : List (Option ℕ)) → Keeps areas t rooms ns places → Keeps areas t rooms (n ∷ ns) (None ∷ places)
keeps_dropped areas t rooms n ns test places rest = record {
  in_areas = All-cons (λ p. IfSome p (λ place. place < length areas)) None places tt rest.in_areas;
  chosen = (sym test, rest.chosen);
  fits = λ area. omega (arith, rest.fits area);
}

abbrev best_next : List Area → ℤ → List ℕ → New → List New → Option Candidate → Answer
best_next areas t rooms n ns best = option_map_or (λ c. before_all (Some c.place)
    (placed_in areas t (slice_set rooms c.place (c.available - n.need)) ns)) best (Err (Room n.file n.need (fold max 0 rooms)))

keeps_best : (areas : List Area) (t : ℤ) (rooms : List ℕ) (n : New) (ns : List New) (best : Option Candidate)
    → length rooms ≡ length areas → int_le n.priority t ≡ true
    → IfSome best (IsRoomy areas rooms n.need) → ((others : List ℕ) → length others ≡ length areas
    → IfOk (placed_in areas t others ns) (Keeps areas t others ns))
    → IfOk (best_next areas t rooms n ns best) (Keeps areas t rooms (n ∷ ns))
keeps_best areas t rooms n ns None long test roomy rest = tt
keeps_best areas t rooms n ns (Some c) long test roomy rest =
    before_keeps (Some c.place) (placed_in areas t (slice_set rooms c.place (c.available - n.need)) ns)
    (Keeps areas t (slice_set rooms c.place (c.available - n.need)) ns) (Keeps areas t rooms (n ∷ ns))
    (keeps_placed areas t rooms n ns c long test roomy)
    (rest (slice_set rooms c.place (c.available - n.need)) (length-set rooms c.place (c.available - n.need) ∙ long))

keeps : (areas : List Area) (t : ℤ) (news : List New) (rooms : List ℕ) → length rooms ≡ length areas
    → IfOk (placed_in areas t rooms news) (Keeps areas t rooms news)
keeps areas t [] rooms long = record {
  in_areas = All-nil (λ p. IfSome p (λ place. place < length areas));
  chosen = tt;
  fits = λ area.
      omega arith;
}
keeps areas t (n ∷ ns) rooms long =
    cond_both (int_le n.priority t) (best_next areas t rooms n ns (best_of areas rooms n.need))
    (before_all None (placed_in areas t rooms ns)) (λ answer. IfOk answer (Keeps areas t rooms (n ∷ ns)))
    (λ test. keeps_best areas t rooms n ns (best_of areas rooms n.need) long test (best_roomy areas rooms n.need) (keeps areas t ns))
    (λ test. before_keeps None (placed_in areas t rooms ns) (Keeps areas t rooms ns) (Keeps areas t rooms (n ∷ ns))
    (keeps_dropped areas t rooms n ns test) (keeps areas t ns rooms long))

-- with what is used the needs fit the span
fits_span : (areas : List Area) (area needs : ℕ) → All (λ (a : Area). a.used ≤ a.span) areas
    → needs ≤ slice_index (map (λ (a : Area). a.span - a.used) areas) area → IfSome (slice_get areas area) (λ a. a.used + needs ≤ a.span)
fits_span [] area needs used room = tt
fits_span (a ∷ rest) zero needs used room = omega (arith, room, All-head (λ (b : Area). b.used ≤ b.span) a rest used)
fits_span (a ∷ rest) (suc area) needs used room = fits_span rest area needs (All-tail (λ (b : Area). b.used ≤ b.span) a rest used) room

ok_weaker : (answer : Answer) (P Q : List (Option ℕ) → Type 0) → ((places : List (Option ℕ)) → P places → Q places) → IfOk answer P
    → IfOk answer Q
ok_weaker (Ok places) P Q step kept = step places kept
ok_weaker (Err fault) P Q step kept = tt

pub placement : (areas : List Area) (news : List New) (t : ℤ) → All (λ (a : Area). a.used ≤ a.span) areas
    → IfOk (placed areas news t) (IsPlacement areas news t)
placement areas news t used = ok_weaker (placed areas news t) (Keeps areas t (map (λ (a : Area). a.span - a.used) areas) news)
    (IsPlacement areas news t)
    (λ places kept. record {
      in_areas = kept.in_areas;
      chosen = kept.chosen;
      fits = λ area. fits_span areas area
          (needs_in area news places) used (kept.fits area);
    })
    (keeps areas t news (map (λ (a : Area). a.span - a.used) areas) (length-map areas (λ (a : Area). a.span - a.used)))

pub placement_at : (areas : List Area) (news : List New) (t : ℤ) (places : List (Option ℕ)) → All (λ (a : Area). a.used ≤ a.span) areas
    → placed areas news t ≡ Ok places → IsPlacement areas news t places
placement_at areas news t places used is = let P : Answer → Type 0 = λ answer. IfOk answer (IsPlacement areas news t) in subst P is
    (placement areas news t used)

-- placing alone never asks for a slot
abbrev pub NotSlot : PlaceFault → Type 0
NotSlot fault = (file : ℕ) → fault ≢ Slot file

before_fault : (p : Option ℕ) (answer : Answer) → IfErr answer NotSlot → IfErr (before_all p answer) NotSlot
before_fault p (Ok places) fault = tt
before_fault p (Err e) fault = fault

best_fault : (areas : List Area) (t : ℤ) (rooms : List ℕ) (n : New) (ns : List New) (best : Option Candidate)
    → ((others : List ℕ) → IfErr (placed_in areas t others ns) NotSlot) → IfErr (best_next areas t rooms n ns best) NotSlot
best_fault areas t rooms n ns None rest = λ file same. (let e : Room n.file n.need (fold max 0 rooms) ≡ Slot file = same in cc)
best_fault areas t rooms n ns (Some c) rest = before_fault (Some c.place)
    (placed_in areas t (slice_set rooms c.place (c.available - n.need)) ns) (rest (slice_set rooms c.place (c.available - n.need)))

fault_in : (areas : List Area) (t : ℤ) (news : List New) (rooms : List ℕ) → IfErr (placed_in areas t rooms news) NotSlot
fault_in areas t [] rooms = tt
fault_in areas t (n ∷ ns) rooms = cond_both (int_le n.priority t) (best_next areas t rooms n ns (best_of areas rooms n.need))
    (before_all None (placed_in areas t rooms ns)) (λ answer. IfErr answer NotSlot)
    (λ _. best_fault areas t rooms n ns (best_of areas rooms n.need) (fault_in areas t ns))
    (λ _. before_fault None (placed_in areas t rooms ns) (fault_in areas t ns rooms))

pub no_slot : (areas : List Area) (news : List New) (t : ℤ) (file : ℕ) → placed areas news t ≢ Err (Slot file)
no_slot areas news t file is =
    let other : NotSlot (Slot file) = subst (λ (answer : Answer). IfErr answer NotSlot) is
    (fault_in areas t news (map (λ (a : Area). a.span - a.used) areas)) in
    other file refl

-- no more are kept than slots are free
few_at : (o : Option New) (places others : List (Option ℕ)) → option_map_or (λ n. Err (Slot n.file)) o (Ok others) ≡ Ok places → o ≡ None
few_at None places others is = refl
few_at (Some n) places others is = absurd (let e : ◌≡◌ {A = Answer} (Err (Slot n.file)) (Ok places) = is in cc)

beyond_few : (ns : List New) (free : ℕ) → slice_get ns free ≡ None → length ns ≤ free
beyond_few [] free is = omega arith
beyond_few (n ∷ ns) zero is = absurd (let e : Some n ≡ None = is in cc)
beyond_few (n ∷ ns) (suc free) is = omega (arith, beyond_few ns free is)

pub few : (kept_news : List New) (free : ℕ) (answer : Answer) (places : List (Option ℕ)) → slotted kept_news free answer ≡ Ok places
    → length kept_news ≤ free
few kept_news free (Ok others) places is = beyond_few kept_news free (few_at (slice_get kept_news free) places others is)
few kept_news free (Err fault) places is = absurd (let e : ◌≡◌ {A = Answer} (Err fault) (Ok places) = is in cc)
