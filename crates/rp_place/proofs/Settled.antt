-- The kept placement: no greater threshold succeeds, or none does.
use Rattle.std.proofs.Common.{◌≡◌, ℕ, ℤ, pos, ◌-◌, ◌^◌, ◌≤◌, ◌≤ℤ◌, ◌<ℤ◌, ◌⊎◌, ◌&&◌, true, List, [], ◌∷◌, filter, length, map, Option, Result, Ok, Err, IsOk, All, arith, refl, ap, sym, ◌∙◌, inl, inr, subst}
use Rattle.std.specs.Prelude.{IsErr, int_le, is_ok, ◌-ℤ◌}
use Rattle.std.specs.List.{Contains}
use Rattle.std.proofs.lemmas.Bool.{and_from, and_parts, false≢true}
use Rattle.std.proofs.lemmas.Int.{by_lt_z, fold-int_max_bounds, fold-int_max_reached, ints}
use Rattle.std.proofs.lemmas.List.Elements.{All-cons, All-contains, All-nil, All-weaker, Contains-append_right, filter_passes}
use Rattle.rp_areas.specs.declared.gaps.Area.{Area}
use Rattle.rp_place.specs.declared.fit.New.{New}
use Rattle.rp_place.specs.declared.fit.PlaceFault.{PlaceFault}
use Rattle.rp_place.specs.declared.threshold.Placed.{Placed}
use Rattle.rp_place.specs.Facts.{IsKept, IsRefused}
use Rattle.rp_place.specs.Placing.{kept, kept_threshold, placed, settled, succeeds_at, thresholds, tried, with_threshold}
use Rattle.rp_place.proofs.Best.{from_passed}
use Rattle.rp_place.proofs.Keeps.{few}
use Rattle.rp_place.proofs.Thresholds.{Side, le_of, le_true, same_between, slotted_ok}

abbrev top : ℤ
top = pos (2 ^ 31 - 1)

-- the threshold that keeps what another keeps, among those that are looked at
record Next (news : List New) (u : ℤ) : Type 0 where
  next : ℤ
  low : u ≤ℤ next
  high : next ≤ℤ top
  occurs : (next ≡ top) ⊎ Contains (map (λ (n : New). n.priority -ℤ pos 1) news) next
  same : All (Side u next) news

-- one more definition doesn't change it, or is the next one above
later : (n : New) (ns : List New) (u : ℤ) (r : Next ns u) → Side u r.next n → Next (n ∷ ns) u
later n ns u r side = record {
  next = r.next;
  low = r.low;
  high = r.high;
  occurs = elim r.occurs [
    | inl e ↦ inl e
    | inr h ↦ inr (Contains-append_right ((n.priority -ℤ pos 1) ∷ [])
        (map (λ (m : New). m.priority -ℤ pos 1) ns) r.next h)
  ];
  same = All-cons (Side u r.next) n ns side r.same;
}

nearer : (n : New) (ns : List New) (u : ℤ) (r : Next ns u) → u <ℤ n.priority → n.priority ≤ℤ r.next → Next (n ∷ ns) u
nearer n ns u r above within = record {
  next = n.priority -ℤ pos 1;
  low = let low = r.low in omega (arith, ints, above);
  high = let high = r.high in omega (arith, ints, within, high);
  occurs = inr (0, omega arith, refl);
  same = All-cons (Side u (n.priority -ℤ pos 1)) n ns (inr (omega (arith, ints)))
      (All-weaker (Side u r.next) (Side u (n.priority -ℤ pos 1)) (λ m side. elim side
      [ inl q ↦ inl q | inr q ↦ inr (omega (arith, ints, q, within)) ]) ns r.same);
}

next_of : (news : List New) (u : ℤ) → u ≤ℤ top → Next news u
next_of [] u high = record { next = top; low = high; high = omega (arith, ints); occurs = inl refl; same = All-nil (Side u top) }
next_of (n ∷ ns) u high =
    let r = next_of ns u high in
    by_lt_z u n.priority
    (λ above. by_lt_z r.next n.priority (λ past. later n ns u r (inr past)) (λ within. nearer n ns u r above within))
    (λ below. later n ns u r (inl below))

not_ok : (answer : Result (List (Option ℕ)) PlaceFault) → (IsOk answer → ⊥) → IsErr answer
not_ok (Ok places) never = absurd (never refl)
not_ok (Err fault) never = refl

ok_no_err : (answer : Result (List (Option ℕ)) PlaceFault) → IsOk answer → IsErr answer → ⊥
ok_no_err (Ok places) ok err = false≢true err
ok_no_err (Err fault) ok err = false≢true ok

ok_is : (answer : Result (List (Option ℕ)) PlaceFault) (places : List (Option ℕ)) → answer ≡ Ok places → IsOk answer
ok_is answer places is = rw is refl

same_number : (a b : ℤ) → a ≤ℤ b → b ≤ℤ a → a ≡ b
same_number a b below above = grind (arith, ints, below, above)

module _ (areas : List Area) (news : List New) (free : ℕ) where
  abbrev m : ℤ
  m = kept_threshold areas news free

  abbrev looked_at : List ℤ
  looked_at = filter (succeeds_at areas news free) (thresholds news)

  -- what is looked at and succeeds
  record Succeeds (t : ℤ) : Type 0 where
    low : pos 0 ≤ℤ t
    high : t ≤ℤ top
    ok : IsOk (tried areas news free t)

  from_test : (t : ℤ) → succeeds_at areas news free t ≡ true → Succeeds t
  from_test t test =
      let both = and_parts (int_le (pos 0) t && int_le t top) (is_ok (tried areas news free t)) test in
      let range = and_parts (int_le (pos 0) t) (int_le t top) both.0 in
      record { low = le_of (pos 0) t range.0; high = le_of t top range.1; ok = both.1 }

  to_test : (t : ℤ) → Succeeds t → succeeds_at areas news free t ≡ true
  to_test t is =
      and_from (int_le (pos 0) t && int_le t top) (is_ok (tried areas news free t))
      (and_from (int_le (pos 0) t) (int_le t top) (le_true (pos 0) t is.low) (le_true t top is.high)) is.ok

  reached : (m ≡ pos 0) ⊎ Succeeds m
  reached = elim (fold-int_max_reached (pos 0) looked_at m refl) [
    | inl zero ↦ inl zero
    | inr found ↦ inr (from_test m (All-contains (λ t. succeeds_at areas news free t ≡ true) looked_at m
        (filter_passes (succeeds_at areas news free) (thresholds news)) found))
  ]

  low : pos 0 ≤ℤ m
  low = (fold-int_max_bounds (pos 0) looked_at m refl).0

  high : m ≤ℤ top
  high = elim reached [ inl zero ↦ omega (arith, ints, zero) | inr is ↦ is.high ]

  -- a threshold that succeeds isn't above it
  not_above : (u : ℤ) → Succeeds u → u ≤ℤ m
  not_above u is =
      let r = next_of news u is.high in
      let alike : tried areas news free u ≡ tried areas news free r.next = same_between areas news free r.next u u r.same
      (omega (arith, ints)) r.low in
      let ok : IsOk (tried areas news free r.next) = subst (λ (answer : Result (List (Option ℕ)) PlaceFault). IsOk answer) alike is.ok in
      let test = to_test r.next (record {
        low = let low = r.low in let zero = is.low in omega (arith, ints, low, zero);
        high = r.high;
        ok = ok;
      }) in
      let stands : Contains (thresholds news) r.next = elim r.occurs [
        | inl e ↦ (0, omega arith, sym e)
        | inr h ↦ Contains-append_right (top ∷ []) (map (λ (n : New). n.priority -ℤ pos 1) news) r.next h
      ] in
      let all = from_passed (succeeds_at areas news free) (λ t. t ≤ℤ m) (thresholds news)
      (fold-int_max_bounds (pos 0) looked_at m refl).1 in
      let within : r.next ≤ℤ m = All-contains (λ t. succeeds_at areas news free t ≡ true → t ≤ℤ m) (thresholds news) r.next all stands
      test in
      let below = r.low in
      omega (arith, ints, within, below)

  -- so where one succeeds it is the greatest that does
  kept_is : (u : ℤ) → Succeeds u → IsKept areas news free m
  kept_is u is = record {
    low = low;
    high = high;
    succeeds = elim reached [
      | inr found ↦ found.ok
      | inl zero ↦
          let same : u ≡ m = same_number u m (not_above u is) (let first = is.low in omega (arith, ints, zero, first)) in
          subst (λ (t : ℤ). IsOk (tried areas news free t)) same is.ok
    ];
    greatest = λ other above within. not_ok (tried areas news free other) (λ ok.
        let least = low in
        let not : other ≤ℤ m = not_above other (record { low = omega (arith, ints, above, least); high = within; ok = ok }) in
        omega (arith, ints, above, not));
  }

  -- no two are the greatest
  one_kept : (t s : ℤ) → IsKept areas news free t → IsKept areas news free s → t ≡ s
  one_kept t s a b =
      by_lt_z t s (λ less. absurd (ok_no_err (tried areas news free s) b.succeeds (a.greatest s less b.high)))
      (λ above. by_lt_z s t (λ less. absurd (ok_no_err (tried areas news free t) a.succeeds (b.greatest t less a.high)))
      (λ below. same_number t s below above))

  -- the greatest threshold that succeeds gives the kept placement
  pub settled_ok : (t : ℤ) (places : List (Option ℕ)) → pos 0 ≤ℤ t → t ≤ℤ top
      → ((other : ℤ) → t <ℤ other → other ≤ℤ top → IsErr (tried areas news free other))
      → tried areas news free t ≡ Ok places → settled areas news free ≡ Ok (record { threshold = t; areas = places })
  settled_ok t places first last greatest answer =
      let ok : IsOk (tried areas news free t) = ok_is (tried areas news free t) places answer in
      let is : IsKept areas news free t = record { low = first; high = last; succeeds = ok; greatest = greatest } in
      let same : m ≡ t = one_kept m t (kept_is t (record { low = first; high = last; ok = ok })) is in
      ap (λ (u : ℤ). with_threshold u (tried areas news free u)) same ∙ ap (with_threshold t) answer

  no_success : (fault : PlaceFault) → IsRefused areas news free fault → (t : ℤ) → Succeeds t → ⊥
  no_success fault refused t is = ok_no_err (tried areas news free t) is.ok (refused.none t is.low is.high)

  -- and where none succeeds, it is the fault at 0
  pub settled_err : (fault : PlaceFault) → IsRefused areas news free fault → settled areas news free ≡ Err fault
  settled_err fault refused =
      let zero : m ≡ pos 0 = elim reached [ inl zero ↦ zero | inr is ↦ absurd (no_success fault refused m is) ] in
      ap (λ (u : ℤ). with_threshold u (tried areas news free u)) zero ∙ ap (with_threshold (pos 0)) refused.at_zero

  -- what is said of a placement, from what it is
  tried_of : (t : ℤ) (answer : Result (List (Option ℕ)) PlaceFault) (placement : Placed) → with_threshold t answer ≡ Ok placement
      → (t ≡ placement.threshold) × (answer ≡ Ok placement.areas)
  tried_of t (Ok places) placement is =
      let e : ◌≡◌ {A = Result Placed PlaceFault} (Ok (record { threshold = t; areas = places })) (Ok placement) = is in
      let same : record { threshold = t; areas = places } ≡ placement = cc in
      (ap (λ (p : Placed). p.threshold) same, ap (λ (p : Placed). Ok p.areas) same)
  tried_of t (Err fault) placement is = absurd (let e : ◌≡◌ {A = Result Placed PlaceFault} (Err fault) (Ok placement) = is in cc)

  fault_of : (t : ℤ) (answer : Result (List (Option ℕ)) PlaceFault) (fault : PlaceFault) → with_threshold t answer ≡ Err fault
      → answer ≡ Err fault
  fault_of t (Ok places) fault is = absurd (let e : ◌≡◌ {A = Result Placed PlaceFault} (Ok (record { threshold = t; areas = places }))
      (Err fault) = is in cc)
  fault_of t (Err other) fault is = let e : ◌≡◌ {A = Result Placed PlaceFault} (Err other) (Err fault) = is in let same : other ≡ fault =
      cc in ap (λ (f : PlaceFault). Err f) same

  module _ (placement : Placed) (is : settled areas news free ≡ Ok placement) where
    pub tried_settled : tried areas news free placement.threshold ≡ Ok placement.areas
    tried_settled =
        let both = tried_of m (tried areas news free m) placement is in
        subst (λ (t : ℤ). tried areas news free t ≡ Ok placement.areas) both.0 both.1

    -- no greater threshold succeeds
    pub kept_settled : IsKept areas news free placement.threshold
    kept_settled =
        let both = tried_of m (tried areas news free m) placement is in
        let ok : IsOk (tried areas news free m) = ok_is (tried areas news free m) placement.areas both.1 in
        subst (IsKept areas news free) both.0 (kept_is m (record { low = low; high = high; ok = ok }))

    -- the places are those at its threshold
    pub placed_settled : placed areas news placement.threshold ≡ Ok placement.areas
    placed_settled = slotted_ok (kept news placement.threshold) free (placed areas news placement.threshold) placement.areas tried_settled

    -- no more are kept than slots are free
    pub few_settled : length (kept news placement.threshold) ≤ free
    few_settled = few (kept news placement.threshold) free (placed areas news placement.threshold) placement.areas tried_settled

  -- where nothing is settled no threshold succeeds
  pub refused_settled : (fault : PlaceFault) → settled areas news free ≡ Err fault → IsRefused areas news free fault
  refused_settled fault is =
      let at : tried areas news free m ≡ Err fault = fault_of m (tried areas news free m) fault is in
      let never : IsOk (tried areas news free m) → ⊥ = λ ok. ok_no_err (tried areas news free m) ok (rw at refl) in
      let zero : m ≡ pos 0 = elim reached [ inl zero ↦ zero | inr found ↦ absurd (never found.ok) ] in
      record {
        none = λ t first last. not_ok (tried areas news free t) (λ ok. let kept = kept_is t
            (record { low = first; high = last; ok = ok }) in never kept.succeeds);
        at_zero = subst (λ (t : ℤ). tried areas news free t ≡ Err fault) zero at;
      }
