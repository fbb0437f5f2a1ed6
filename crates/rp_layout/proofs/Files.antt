-- Which definitions stand in which area: no definition stands in two places.
use Rattle.std.proofs.Common.{◌≡◌, ◌≢◌, ◌==◌, ℕ, suc, ◌+◌, ◌-◌, ◌<◌, ◌≤◌, Bool, true, false, get_or, zero, if◌then◌else◌, List, [], ◌∷◌, length, sum_by, Option, Some, None, All, AllPairs, slice_get, arith, refl, ap, sym, ◌∙◌, subst, inl, inr}
use Rattle.std.specs.List.{Contains}
use Rattle.std.specs.Option.{option_map_or}
use Rattle.std.proofs.lemmas.Bool.{cases_lt, cond_both, eq-eqb, eqb-true, false≢true}
use Rattle.std.proofs.lemmas.List.Elements.{All-cons, All-head, All-nil, All-tail, All-weaker}
use Rattle.std.proofs.lemmas.List.Kept.{AllPairs-cons}
use Rattle.std.proofs.lemmas.List.Sums.{sum_by-cons}
use Rattle.std.proofs.lemmas.Option.{get_or_from_slice_get, slice_get_within}
use Rattle.rp_place.specs.declared.fit.New.{New}
use Rattle.rp_place.specs.Facts.{needs_in}
use Rattle.rp_layout.specs.Seats.{files_in}
use Rattle.rp_layout.proofs.Lists.{AllPairs-head, AllPairs-nil, AllPairs-tail, Contains-cons}

-- the area of a place that passes the test
in_area : (area : ℕ) (p : Option ℕ) → option_map_or (λ place. place == area) p false ≡ true → p ≡ Some area
in_area area None test = absurd (false≢true test)
in_area area (Some place) test = ap (λ a. Some a) (eqb-true place area test)

-- what holds of each new definition holds of those in an area
pub All-in : (P : ℕ → Type 0) (area : ℕ) (news : List New) (places : List (Option ℕ)) → All (λ (n : New). P n.file) news
    → All P (files_in area news places)
All-in P area [] places each = All-nil P
All-in P area (n ∷ ns) [] each = All-nil P
All-in P area (n ∷ ns) (p ∷ ps) each =
    let rest = All-in P area ns ps (All-tail (λ (m : New). P m.file) n ns each) in
    cond_both (option_map_or (λ place. place == area) p false) (n.file ∷ files_in area ns ps) (files_in area ns ps) (All P)
    (λ _. All-cons P n.file (files_in area ns ps) (All-head (λ (m : New). P m.file) n ns each) rest) (λ _. rest)

abbrev pub Rising : List New → Type 0
Rising news = AllPairs (λ (a b : New). a.file < b.file) news

-- those behind the first have a greater file
later : (n : New) (ns : List New) (area : ℕ) (places : List (Option ℕ)) → Rising (n ∷ ns)
    → All (λ f. n.file < f) (files_in area ns places)
later n ns area places rising = All-in (λ f. n.file < f) area ns places (AllPairs-head (λ (a b : New). a.file < b.file) n ns rising)

rising_rest : (n : New) (ns : List New) → Rising (n ∷ ns) → Rising ns
rising_rest n ns rising = AllPairs-tail (λ (a b : New). a.file < b.file) n ns rising

pub rising_in : (area : ℕ) (news : List New) (places : List (Option ℕ)) → Rising news
    → AllPairs (λ (f g : ℕ). f < g) (files_in area news places)
rising_in area [] places rising = AllPairs-nil (λ (f g : ℕ). f < g)
rising_in area (n ∷ ns) [] rising = AllPairs-nil (λ (f g : ℕ). f < g)
rising_in area (n ∷ ns) (p ∷ ps) rising =
    let rest = rising_in area ns ps (rising_rest n ns rising) in
    cond_both (option_map_or (λ place. place == area) p false) (n.file ∷ files_in area ns ps) (files_in area ns ps)
    (AllPairs (λ (f g : ℕ). f < g))
    (λ _. AllPairs-cons (λ (f g : ℕ). f < g) n.file (files_in area ns ps) (later n ns area ps rising) rest) (λ _. rest)

-- no definition is in two areas
apart_more : (n : New) (ns : List New) (p : Option ℕ) (ps : List (Option ℕ)) (area other : ℕ) → area ≢ other → Rising (n ∷ ns)
    → All (λ f. All (λ g. f ≢ g) (files_in other ns ps)) (files_in area ns ps)
    → All (λ f. All (λ g. f ≢ g) (files_in other (n ∷ ns) (p ∷ ps))) (files_in area (n ∷ ns) (p ∷ ps))
apart_more n ns p ps area other differ rising rest =
    cond_both (option_map_or (λ place. place == area) p false) (n.file ∷ files_in area ns ps) (files_in area ns ps)
    (All (λ f. All (λ g. f ≢ g) (files_in other (n ∷ ns) (p ∷ ps))))
    (λ here. cond_both (option_map_or (λ place. place == other) p false) (n.file ∷ files_in other ns ps) (files_in other ns ps)
    (λ others. All (λ f. All (λ g. f ≢ g) others) (n.file ∷ files_in area ns ps))
    (λ there. absurd (differ (let same : Some area ≡ Some other = sym (in_area area p here) ∙ in_area other p there in cc)))
    (λ _. All-cons (λ f. All (λ g. f ≢ g) (files_in other ns ps)) n.file (files_in area ns ps)
    (All-weaker (λ g. n.file < g) (λ g. n.file ≢ g) (λ g more same. omega (arith, more, same)) (files_in other ns ps)
    (later n ns other ps rising)) rest))
    (λ _. cond_both (option_map_or (λ place. place == other) p false) (n.file ∷ files_in other ns ps) (files_in other ns ps)
    (λ others. All (λ f. All (λ g. f ≢ g) others) (files_in area ns ps))
    (λ _ k d below. All-cons (λ g. get_or (files_in area ns ps) k d ≢ g) n.file (files_in other ns ps)
    (λ same. omega (arith, later n ns area ps rising k d below, same)) (rest k d below))
    (λ _. rest))

pub apart_in : (area other : ℕ) (news : List New) (places : List (Option ℕ)) → area ≢ other → Rising news
    → All (λ f. All (λ g. f ≢ g) (files_in other news places)) (files_in area news places)
apart_in area other [] places differ rising = All-nil (λ f. All (λ g. f ≢ g) [])
apart_in area other (n ∷ ns) [] differ rising = All-nil (λ f. All (λ g. f ≢ g) [])
apart_in area other (n ∷ ns) (p ∷ ps) differ rising =
    apart_more n ns p ps area other differ rising (apart_in area other ns ps differ (rising_rest n ns rising))

-- one that was placed stands in its area
pub placed_in_area : (news : List New) (places : List (Option ℕ)) (k : ℕ) (n : New) (area : ℕ) → slice_get news k ≡ Some n
    → slice_get places k ≡ Some (Some area) → Contains (files_in area news places) n.file
placed_in_area [] places k n area at place = absurd (let e : None ≡ Some n = at in cc)
placed_in_area (m ∷ ns) [] k n area at place = absurd (let e : None ≡ Some (Some area) = place in cc)
placed_in_area (m ∷ ns) (p ∷ ps) zero n area at place =
    let new : m ≡ n = let e : Some m ≡ Some n = at in cc in
    let here : p ≡ Some area = let e : Some p ≡ Some (Some area) = place in cc in
    let test : option_map_or (λ place. place == area) p false ≡ true = ap (λ (q : Option ℕ). option_map_or (λ place. place == area) q false)
    here ∙ eq-eqb area area refl in
    subst (λ (b : Bool). Contains (if b then m.file ∷ files_in area ns ps else files_in area ns ps) n.file) (sym test)
    (0, omega arith, ap (λ (q : New). q.file) new)
placed_in_area (m ∷ ns) (p ∷ ps) (suc k) n area at place =
    let rest = placed_in_area ns ps k n area at place in
    cond_both (option_map_or (λ place. place == area) p false) (m.file ∷ files_in area ns ps) (files_in area ns ps)
    (λ files. Contains files n.file) (λ _. Contains-cons n.file m.file (files_in area ns ps) rest) (λ _. rest)

needs_more : (need : ℕ → ℕ) (b : Bool) (file own others : ℕ) (files : List ℕ) → need file ≡ own → sum_by need files ≡ others
    → sum_by need (if b then file ∷ files else files) ≡ (if b then own else 0) + others
needs_more need true file own others files here rest = omega (arith, here, rest, sum_by-cons need file files)
needs_more need false file own others files here rest = omega (arith, rest)

-- the needs in an area are those of its definitions
pub needs_are : (need : ℕ → ℕ) (area : ℕ) (news : List New) (places : List (Option ℕ)) → All (λ (n : New). need n.file ≡ n.need) news
    → sum_by need (files_in area news places) ≡ needs_in area news places
needs_are need area [] places each = refl
needs_are need area (n ∷ ns) [] each = refl
needs_are need area (n ∷ ns) (p ∷ ps) each =
    needs_more need (option_map_or (λ place. place == area) p false) n.file n.need (needs_in area ns ps) (files_in area ns ps)
    (All-head (λ (m : New). need m.file ≡ m.need) n ns each)
    (needs_are need area ns ps (All-tail (λ (m : New). need m.file ≡ m.need) n ns each))

-- a rising list of numbers below a bound has no more than there are, and one fewer where one of them isn't in it
pub few_rising : (files : List ℕ) (low high : ℕ) → AllPairs (λ (f g : ℕ). f < g) files → All (λ f. low ≤ f) files
    → All (λ f. f < high) files → length files ≤ high - low
few_rising [] low high rising least most = omega arith
few_rising (f ∷ fs) low high rising least most =
    let rest = few_rising fs (f + 1) high (AllPairs-tail (λ (a b : ℕ). a < b) f fs rising)
    (All-weaker (λ g. f < g) (λ g. f + 1 ≤ g) (λ g more. omega (arith, more)) fs (AllPairs-head (λ (a b : ℕ). a < b) f fs rising))
    (All-tail (λ g. g < high) f fs most) in
    omega (arith, rest, All-head (λ g. low ≤ g) f fs least, All-head (λ g. g < high) f fs most)

pub few_besides : (files : List ℕ) (other low high : ℕ) → AllPairs (λ (f g : ℕ). f < g) files → All (λ f. low ≤ f) files
    → All (λ f. f < high) files → All (λ f. f ≢ other) files → low ≤ other → other < high → length files + 1 ≤ high - low
few_besides [] other low high rising least most besides from to = omega (arith, from, to)
few_besides (f ∷ fs) other low high rising least most besides from to =
    let here : low ≤ f = All-head (λ g. low ≤ g) f fs least in
    let below : f < high = All-head (λ g. g < high) f fs most in
    let apart : f ≢ other = All-head (λ g. g ≢ other) f fs besides in
    let rest_rising = AllPairs-tail (λ (a b : ℕ). a < b) f fs rising in
    let more = All-weaker (λ g. f < g) (λ g. f + 1 ≤ g) (λ g more. omega (arith, more)) fs
    (AllPairs-head (λ (a b : ℕ). a < b) f fs rising) in
    let rest_most = All-tail (λ g. g < high) f fs most in
    elim (cases_lt other f) [
      | inl before ↦ omega (arith, before, few_rising fs (f + 1) high rest_rising more rest_most)
      | inr behind ↦
          let next : f + 1 ≤ other = omega (arith, behind, apart) in
          let rest = few_besides fs other (f + 1) high rest_rising more rest_most (All-tail (λ g. g ≢ other) f fs besides) next to in
          omega (arith, rest)
    ]

-- one that was dropped stands in no area
pub dropped_in : (area : ℕ) (news : List New) (places : List (Option ℕ)) (k : ℕ) (n : New) → Rising news → slice_get news k ≡ Some n
    → slice_get places k ≡ Some None → All (λ f. f ≢ n.file) (files_in area news places)
dropped_in area [] places k n rising at place = All-nil (λ f. f ≢ n.file)
dropped_in area (m ∷ ns) [] k n rising at place = All-nil (λ f. f ≢ n.file)
dropped_in area (m ∷ ns) (p ∷ ps) zero n rising at place =
    let new : m ≡ n = let e : Some m ≡ Some n = at in cc in
    let gone : p ≡ None = let e : Some p ≡ Some None = place in cc in
    let test : option_map_or (λ place. place == area) p false ≡ false = ap (λ (q : Option ℕ). option_map_or
    (λ place. place == area) q false)
    gone in
    subst (λ (b : Bool). All (λ f. f ≢ n.file) (if b then m.file ∷ files_in area ns ps else files_in area ns ps)) (sym test)
    (All-weaker (λ f. m.file < f) (λ f. f ≢ n.file) (λ f more same. omega (arith, more, same, ap (λ (q : New). q.file) new))
    (files_in area ns ps) (later m ns area ps rising))
dropped_in area (m ∷ ns) (p ∷ ps) (suc k) n rising at place =
    let rest = dropped_in area ns ps k n (rising_rest m ns rising) at place in
    let more : m.file < n.file = subst (λ (q : New). m.file < q.file) (get_or_from_slice_get ns k n n at)
    (AllPairs-head (λ (a b : New). a.file < b.file) m ns rising k n (slice_get_within ns k n at)) in
    cond_both (option_map_or (λ place. place == area) p false) (m.file ∷ files_in area ns ps) (files_in area ns ps)
    (All (λ f. f ≢ n.file))
    (λ _. All-cons (λ f. f ≢ n.file) m.file (files_in area ns ps) (λ same. omega (arith, more, same)) rest)
    (λ _. rest)
