-- The partitions of an area that was shared once are as they are when each shares its own area anew.
use Rattle.std.proofs.Common.{◌≡◌, ℕ, ◌+◌, ◌-◌, ◌≤◌, List, [], ◌∷◌, map, max, Option, Some, All, slice_get, arith, refl, sym, subst, inl, inr}
use Rattle.std.proofs.lemmas.List.Elements.{All-head, All-map, All-tail, All-weaker}
use Rattle.rp_base.specs.declared.table.Table.{Table}
use Rattle.rp_base.specs.declared.want.Want.{Want}
use Rattle.rp_areas.specs.declared.gaps.Area.{Area}
use Rattle.rp_areas.specs.Again.{up_to}
use Rattle.rp_areas.specs.Areas.{grains_up, want_at}
use Rattle.rp_place.specs.declared.fit.New.{New}
use Rattle.rp_place.specs.declared.threshold.Placed.{Placed}
use Rattle.rp_share.specs.declared.item.Item.{Item}
use Rattle.rp_share.specs.Again.{IsAgain, IsSpanAt, asked}
use Rattle.rp_share.specs.Share.{IsShare}
use Rattle.rp_share.specs.Value.{shares_of}
use Rattle.rp_share.proofs.Public.{rest_share, shares_again}
use Rattle.rp_layout.specs.declared.seat.Seat.{Seat}
use Rattle.rp_layout.specs.Again.{AreIdle, AsksFor, IsSeat, at_least, exactly}
use Rattle.rp_layout.specs.Facts.{IsReady}
use Rattle.rp_layout.specs.Layout.{stack_in}
use Rattle.rp_layout.specs.Seats.{items_of, padding_of, pieces_of, seat_of, units_at, units_of}
use Rattle.rp_layout.proofs.Shared.{files_here, share_here, shares_here, sized}
use Rattle.rp_layout.proofs.Shares.{grains_of, seat}

-- the first partition asks anew for what it has
first_again : (wants : List Want) (span : ℕ) (s : Seat) (ss : List Seat) (x y : ℕ) (shares : List ℕ) → IsSeat wants s
    → IsShare span (items_of (s ∷ ss)) (x ∷ y ∷ shares)
    → IsAgain s.size x (asked x (want_at wants s.file).min (want_at wants s.file).max (want_at wants s.file).weight)
first_again wants span s ss x y shares is share = is.again x (share.fair.least 0 (omega arith)) (share.fair.most 0 (omega arith))

-- the span of its own area
span_of_first : (limit from span : ℕ) (s : Seat) (ss : List Seat) (x y : ℕ) (shares : List ℕ) → span ≡ limit - from
    → IsShare span (items_of (s ∷ ss)) (x ∷ y ∷ shares)
    → IsSpanAt span (items_of (s ∷ ss)) (x ∷ y ∷ shares) 0 (up_to (from + x + y) (pieces_of ss shares) limit - from)
span_of_first limit from span s [] x y shares is share = inr (refl, omega (arith, is))
span_of_first limit from span s (t ∷ ts) x y [] is share = absurd (let each = share.fair.one_each in omega (arith, each))
span_of_first limit from span s (t ∷ ts) x y (z ∷ []) is share = absurd (let each = share.fair.one_each in omega (arith, each))
span_of_first limit from span s (t ∷ ts) x y (z ∷ w ∷ shares) is share = inl (omega arith)

pub idle : (wants : List Want) (limit from span : ℕ) (seats : List Seat) (shares : List ℕ) → All (IsSeat wants) seats → span ≡ limit - from
    → IsShare span (items_of seats) shares → AreIdle wants limit from (pieces_of seats shares)
idle wants limit from span [] shares each is share = tt
idle wants limit from span (s ∷ ss) [] each is share = tt
idle wants limit from span (s ∷ ss) (x ∷ []) each is share = tt
idle wants limit from span (s ∷ ss) (x ∷ y ∷ shares) each is share =
    let own_seat = All-head (IsSeat wants) s ss each in
    let want : Want = want_at wants s.file in
    let grains : x ≡ grains_up (units_of s.has x) = sym (grains_of s.has x) in
    let own : ℕ → ℕ = λ g. up_to (from + g + y) (pieces_of ss shares) limit - from in
    let again : shares_of (own x) (asked x want.min want.max want.weight ∷ s.pad ∷ []) ≡ x ∷ y ∷ [] =
    shares_again span (items_of (s ∷ ss)) (x ∷ y ∷ shares) share 0 (omega arith) (asked x want.min want.max want.weight)
    (first_again wants span s ss x y shares own_seat share) (own x) (span_of_first limit from span s ss x y shares is share) in
    let padded : shares_of (own x) (asked x want.min want.max want.weight ∷ padding_of want ∷ []) ≡ x ∷ y ∷ [] =
    subst (λ (i : Item). shares_of (own x) (asked x want.min want.max want.weight ∷ i ∷ []) ≡ x ∷ y ∷ []) own_seat.padding again in
    let next : from + grains_up (units_of s.has x) + y ≡ from + x + y = omega (arith, grains) in (
      subst (λ (g : ℕ). shares_of (own g) (asked g want.min want.max want.weight ∷ padding_of want ∷ []) ≡ g ∷ y ∷ []) grains padded,
      idle wants limit (from + grains_up (units_of s.has x) + y) (span - (x + y)) ss shares (All-tail (IsSeat wants) s ss each)
          (omega (arith, is, next)) (rest_share span s.size s.pad (items_of ss) x y shares share),
    )

-- the kinds of seats: one that asks as its definition stands, a new one with a greater minimum, and a new one of an exact size
seat_as_it_stands : (own : List Want) (file has : ℕ) → (want_at own file).min ≤ (want_at own file).max
    → 1 ≤ max (grains_up has) (want_at own file).min → IsSeat own (seat_of (want_at own file) file has)
seat_as_it_stands own file has limits some = record {
  some = some;
  min = omega arith;
  padding = refl;
  again = λ x least most. record {
    more = omega arith;
    least = omega (arith, least);
    most = omega arith;
    weight = refl;
    same_most = λ _. omega (arith, least, most, limits);
  };
}

seat_with_more : (own : List Want) (file grains : ℕ) → (want_at own file).min ≤ grains → 1 ≤ max (grains_up 0) grains
    → IsSeat own (seat_of (at_least grains (want_at own file)) file 0)
seat_with_more own file grains limits some = record {
  some = some;
  min = omega (arith, limits);
  padding = refl;
  again = λ x least most. record {
    more = omega (arith, least);
    least = omega (arith, least, limits);
    most = omega arith;
    weight = refl;
    same_most = λ _. omega (arith, most);
  };
}

seat_of_exact : (own : List Want) (file grains : ℕ) → (want_at own file).min ≤ grains → (want_at own file).weight ≡ 0
    → 1 ≤ max (grains_up 0) grains → IsSeat own (seat_of (exactly grains (want_at own file)) file 0)
seat_of_exact own file grains limits none some = record {
  some = some;
  min = omega (arith, limits);
  padding = refl;
  again = λ x least most. record {
    more = omega (arith, least);
    least = omega (arith, least, limits);
    most = omega arith;
    weight = none;
    same_most = λ weighs. absurd (omega (arith, weighs));
  };
}

pub seat_again : (own : List Want) (file has : ℕ) (want : Want) → (want_at own file).min ≤ (want_at own file).max
    → 1 ≤ max (grains_up has) want.min → AsksFor (want_at own file) has want → IsSeat own (seat_of want file has)
seat_again own file has want limits some (inl same) =
    subst (λ (w : Want). IsSeat own (seat_of w file has)) (sym same)
    (seat_as_it_stands own file has limits (subst (λ (w : Want). 1 ≤ max (grains_up has) w.min) same some))
seat_again own file has want limits some (inr new) =
    let from : 1 ≤ max (grains_up 0) want.min = subst (λ (n : ℕ). 1 ≤ max (grains_up n) want.min) new.0 some in
    subst (λ (n : ℕ). IsSeat own (seat_of want file n)) (sym new.0) (elim new.2 [
      | inl more ↦ subst (λ (w : Want). IsSeat own (seat_of w file 0)) (sym more) (seat_with_more own file want.min new.1 from)
      | inr exact ↦ subst (λ (w : Want). IsSeat own (seat_of w file 0)) (sym exact.1)
          (seat_of_exact own file want.min new.1 exact.0 from)
    ])

module _ (table : Table) (last : ℕ) (matched : List (Option ℕ)) (wants : List Want) (areas : List Area) (news : List New) (kept : Placed)
    (ready : IsReady table last matched wants areas news kept) where
  pub idle_here : (own : List Want) → ((file : ℕ) → (want_at own file).min ≤ (want_at own file).max)
      → ((file : ℕ) → AsksFor (want_at own file) (units_at table.rows matched file) (want_at wants file))
      → (i : ℕ) (area : Area) → slice_get areas i ≡ Some area → (limit : ℕ) → area.span ≡ limit - area.from
      → AreIdle own limit area.from (stack_in table.rows matched wants news kept.areas (i, area))
  idle_here own limits asks i area at limit is =
      let has : ℕ → ℕ = units_at table.rows matched in
      let files : List ℕ = files_here table last matched wants areas news kept ready i area at in
      idle own limit area.from area.span (map (seat wants has) files)
      (shares_here table last matched wants areas news kept ready i area at)
      (All-map (IsSeat own) (seat wants has) files
      (All-weaker (λ f. 1 ≤ max (grains_up (has f)) (want_at wants f).min) (λ f. IsSeat own (seat wants has f))
      (λ f some. seat_again own f (has f) (want_at wants f) (limits f) some (asks f)) files
      (sized table last matched wants areas news kept ready i area at area.anchor refl)))
      is
      (share_here table last matched wants areas news kept ready i area at)
