-- Each new definition has the least area with room.
use Rattle.std.proofs.Common.{◌≡◌, ◌==◌, ℕ, ℤ, zero, suc, ◌+◌, ◌-◌, ◌<◌, ◌<ℤ◌, ◌≤ℤ◌, true, false, cond, List, [], ◌∷◌, fold, length, length-set, map, max, slice_get, slice_index, slice_set, take, Option, Some, None, IfSome, MatchOption, Ok, Err, arith, refl, ap, sym, ◌∙◌, inl, inr, subst, get_or-set_other, get_or-set_same}
use Rattle.std.specs.Prelude.{int_le}
use Rattle.std.specs.Option.{option_map_or}
use Rattle.std.proofs.lemmas.Bool.{cases_eq, cond_both, eq-eqb, ne_eqb}
use Rattle.std.proofs.lemmas.List.{length-map}
use Rattle.rp_areas.specs.declared.gaps.Area.{Area}
use Rattle.rp_place.specs.declared.fit.Candidate.{Candidate}
use Rattle.rp_place.specs.declared.fit.New.{New}
use Rattle.rp_place.specs.declared.fit.PlaceFault.TheVariants.{Room}
use Rattle.rp_place.specs.Facts.{IsLeast, IsPlaced, area_at, needs_in}
use Rattle.rp_place.specs.Placing.{before_all, best_of, placed, placed_in}
use Rattle.rp_place.proofs.Best.{IsRoomy, best_least, best_roomy}
use Rattle.rp_place.proofs.Thresholds.{above_of, le_of}
use Rattle.rp_place.proofs.Walk.{Answer}

-- what is said of one new definition and its place, where so many grains are available in each area
abbrev At : List Area → (ℕ → ℕ) → ℤ → New → Option ℕ → Type 0
At areas available t n p = MatchOption p (t <ℤ n.priority) (λ area. (n.priority ≤ℤ t) × IsLeast areas available n.need area)

at_same : (areas : List Area) (f g : ℕ → ℕ) (t : ℤ) (n : New) (p : Option ℕ) → ((area : ℕ) → f area ≡ g area) → At areas f t n p
    → At areas g t n p
at_same areas f g t n p same is = let e : f ≡ g = λ i area. same area i in subst (λ (h : ℕ → ℕ). At areas h t n p) e is

-- what is said of all of them
record ArePlaced (areas : List Area) (available : ℕ → ℕ) (t : ℤ) (news : List New) (places : List (Option ℕ)) : Type 0 where
  one_each : length places ≡ length news
  each : (k : ℕ) (n : New) (p : Option ℕ) → slice_get news k ≡ Some n → slice_get places k ≡ Some p
      → At areas (λ area. available area - needs_in area (take k news) (take k places)) t n p

-- what one place takes of an area
abbrev taken : Option ℕ → ℕ → ℕ → ℕ
taken p need area = cond (option_map_or (λ place. place == area) p false) need 0

are_more : (areas : List Area) (f g : ℕ → ℕ) (t : ℤ) (n : New) (ns : List New) (p : Option ℕ) (ps : List (Option ℕ)) → At areas f t n p
    → ((area : ℕ) → g area ≡ f area - taken p n.need area) → ArePlaced areas g t ns ps → ArePlaced areas f t (n ∷ ns) (p ∷ ps)
are_more areas f g t n ns p ps here less rest = record {
  one_each = omega (arith, rest.one_each);
  each = λ k. elim k as (λ k. (m : New) (q : Option ℕ) → slice_get (n ∷ ns) k ≡ Some m → slice_get (p ∷ ps) k ≡ Some q
      → At areas (λ area. f area - needs_in area (take k (n ∷ ns)) (take k (p ∷ ps))) t m q) [
        | zero ↦ λ m q at found.
            let new : n ≡ m = let e : Some n ≡ Some m = at in cc in
            let place : p ≡ q = let e : Some p ≡ Some q = found in cc in
            let all : At areas (λ area. f area - 0) t n p = at_same areas f (λ area. f area - 0) t n p (λ area. omega arith) here in
            subst (λ (x : New). At areas (λ area. f area - 0) t x q) new
            (subst (λ (x : Option ℕ). At areas (λ area. f area - 0) t n x) place all)
        | suc j ↦ λ m q at found.
            at_same areas (λ area. g area - needs_in area (take j ns) (take j ps))
            (λ area. f area - (taken p n.need area + needs_in area (take j ns) (take j ps))) t m q
            (λ area. omega (arith, less area)) (rest.each j m q at found)
      ];
}

-- the answer behind one place
behind : (p : Option ℕ) (answer : Answer) (places : List (Option ℕ)) → before_all p answer ≡ Ok places
    → (rest : List (Option ℕ)) × (answer ≡ Ok rest) × (places ≡ p ∷ rest)
behind p (Ok rest) places is = let e : ◌≡◌ {A = Answer} (Ok (p ∷ rest)) (Ok places) = is in let same : p ∷ rest ≡ places = cc in
    (rest, refl, sym same)
behind p (Err fault) places is = absurd (let e : ◌≡◌ {A = Answer} (Err fault) (Ok places) = is in cc)

abbrev AllPlaced : List Area → ℤ → List New → Type 0
AllPlaced areas t news = (rooms : List ℕ) → length rooms ≡ length areas → (places : List (Option ℕ))
    → placed_in areas t rooms news ≡ Ok places → ArePlaced areas (slice_index rooms) t news places

-- what is available after one more
less_by : (rooms : List ℕ) (c : Candidate) (need : ℕ) → c.place < length rooms → c.available ≡ slice_index rooms c.place → (area : ℕ)
    → slice_index (slice_set rooms c.place (c.available - need)) area ≡ slice_index rooms area - taken (Some c.place) need area
less_by rooms c need inside available area = elim (cases_eq c.place area) [
  | inl e ↦
      let now : slice_index (slice_set rooms c.place (c.available - need)) area ≡ c.available - need = ap
      (slice_index (slice_set rooms c.place (c.available - need))) (sym e)
      ∙ get_or-set_same rooms c.place (c.available - need) 0 inside in
      let was : c.available ≡ slice_index rooms area = available ∙ ap (slice_index rooms) e in
      let own : ◌≡◌ {A = ℕ} (cond (c.place == area) need 0) need = ap (λ b. cond b need 0) (eq-eqb c.place area e) in
      omega (arith, now, was, own)
  | inr e ↦
      let now : slice_index (slice_set rooms c.place (c.available - need)) area ≡ slice_index rooms area = get_or-set_other rooms c.place
      area (c.available - need) 0 (λ q. e (sym q)) in
      let own : ◌≡◌ {A = ℕ} (cond (c.place == area) need 0) 0 = ap (λ b. cond b need 0) (ne_eqb c.place area e) in
      omega (arith, now, own)
]

abbrev next : List Area → ℤ → List ℕ → New → List New → Option Candidate → Answer
next areas t rooms n ns best = option_map_or (λ c. before_all (Some c.place)
    (placed_in areas t (slice_set rooms c.place (c.available - n.need)) ns)) best (Err (Room n.file n.need (fold max 0 rooms)))

placed_best : (areas : List Area) (t : ℤ) (rooms : List ℕ) (n : New) (ns : List New) (places : List (Option ℕ))
    → length rooms ≡ length areas → int_le n.priority t ≡ true → AllPlaced areas t ns
    → (best : Option Candidate) → best_of areas rooms n.need ≡ best → IfSome best (IsRoomy areas rooms n.need)
    → next areas t rooms n ns best ≡ Ok places → ArePlaced areas (slice_index rooms) t (n ∷ ns) places
placed_best areas t rooms n ns places long test others None best roomy is = absurd
    (let e : ◌≡◌ {A = Answer} (Err (Room n.file n.need (fold max 0 rooms))) (Ok places) = is in cc)
placed_best areas t rooms n ns places long test others (Some c) best roomy is =
    let after : List ℕ = slice_set rooms c.place (c.available - n.need) in
    let rest = behind (Some c.place) (placed_in areas t after ns) places is in
    let inside : c.place < length rooms = omega (arith, long, roomy.place) in
    let here : At areas (slice_index rooms) t n (Some c.place) = (le_of n.priority t test, best_least areas rooms n.need c roomy best) in
    let more = others after (length-set rooms c.place (c.available - n.need) ∙ long) rest.0 rest.1 in
    subst (λ (ps : List (Option ℕ)). ArePlaced areas (slice_index rooms) t (n ∷ ns) ps) (sym rest.2)
    (are_more areas (slice_index rooms) (slice_index after) t n ns (Some c.place) rest.0 here
    (less_by rooms c n.need inside roomy.available) more)

placed_none : (areas : List Area) (t : ℤ) (rooms : List ℕ) (n : New) (ns : List New) (places : List (Option ℕ))
    → length rooms ≡ length areas → int_le n.priority t ≡ false → AllPlaced areas t ns
    → before_all None (placed_in areas t rooms ns) ≡ Ok places → ArePlaced areas (slice_index rooms) t (n ∷ ns) places
placed_none areas t rooms n ns places long test others is =
    let rest = behind None (placed_in areas t rooms ns) places is in
    subst (λ (ps : List (Option ℕ)). ArePlaced areas (slice_index rooms) t (n ∷ ns) ps) (sym rest.2)
    (are_more areas (slice_index rooms) (slice_index rooms) t n ns None rest.0 (above_of n.priority t test) (λ area. omega arith)
    (others rooms long rest.0 rest.1))

all_placed : (areas : List Area) (t : ℤ) (news : List New) → AllPlaced areas t news
all_placed areas t [] rooms long places is =
    let e : ◌≡◌ {A = Answer} (Ok []) (Ok places) = is in
    let none : [] ≡ places = cc in
    record { one_each = ap length (sym none); each = λ k n p at found. absurd (let q : None ≡ Some n = at in cc) }
all_placed areas t (n ∷ ns) rooms long places is =
    cond_both (int_le n.priority t) (next areas t rooms n ns (best_of areas rooms n.need)) (before_all None (placed_in areas t rooms ns))
    (λ answer. answer ≡ Ok places → ArePlaced areas (slice_index rooms) t (n ∷ ns) places)
    (λ test answer. placed_best areas t rooms n ns places long test (all_placed areas t ns) (best_of areas rooms n.need) refl
    (best_roomy areas rooms n.need) answer)
    (λ test answer. placed_none areas t rooms n ns places long test (all_placed areas t ns) answer)
    is

-- what is available at first
room_at : (areas : List Area) (area : ℕ) → slice_index (map (λ (a : Area). a.span - a.used) areas)
    area ≡ (area_at areas area).span - (area_at areas area).used
room_at [] area = refl
room_at (a ∷ rest) zero = refl
room_at (a ∷ rest) (suc area) = room_at rest area

pub places_are_least : (areas : List Area) (news : List New) (t : ℤ) (places : List (Option ℕ)) → placed areas news t ≡ Ok places
    → IsPlaced areas news t places
places_are_least areas news t places is =
    let rooms : List ℕ = map (λ (a : Area). a.span - a.used) areas in
    let all = all_placed areas t news rooms (length-map areas (λ (a : Area). a.span - a.used)) places is in
    record {
      one_each = all.one_each;
      each = λ k n p at found.
          at_same areas (λ area. slice_index rooms area - needs_in area (take k news) (take k places))
          (λ area. (area_at areas area).span - (area_at areas area).used - needs_in area (take k news) (take k places)) t n p
          (λ area. ap (λ (room : ℕ). room - needs_in area (take k news) (take k places)) (room_at areas area)) (all.each k n p at found);
    }
