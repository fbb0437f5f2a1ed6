-- Rows by start with the partitions of each area woven in: what holds of all of them, and what is among them.
use Rattle.std.proofs.Common.{◌≡◌, ◌≢◌, ◌==◌, ℕ, ◌+◌, ◌-◌, ◌%◌, ◌/◌, ◌<◌, ◌&&◌, Bool, true, false, List, [], ◌∷◌, ◌++◌, length, get_or, map, fold, Option, Some, None, IfSome, All, AllPairs, slice_get, arith, refl, ap, sym, ◌∙◌, subst, inl, inr, eqb, ltb, leb, cond, position}
use Rattle.std.specs.List.{Contains, cons_option, enumerate_from, filter_map, find, position_or_len}
use Rattle.std.specs.Option.{option_map_or}
use Rattle.std.proofs.lemmas.Bool.{cases_lt, cases_order, cond-false, cond-true, cond_both, eq-eqb, lt-ltb, ne_eqb}
use Rattle.std.proofs.lemmas.List.Elements.{All-append, All-cons, All-head, All-map, All-nil, All-tail, All-weaker, Contains-append_left, Contains-append_right}
use Rattle.std.proofs.lemmas.List.Sums.{fails_before_first}
use Rattle.std.proofs.lemmas.List.Kept.{AllPairs-cons}
use Rattle.std.proofs.lemmas.Option.{get_or_from_slice_get, slice_get_within}
use Rattle.rp_base.specs.declared.want.Want.{Want}
use Rattle.rp_areas.specs.declared.extents.Extent.{Extent}
use Rattle.rp_areas.specs.declared.gaps.Area.{Area}
use Rattle.rp_areas.specs.Again.{Piece, row_at, stacked, woven, woven_at}
use Rattle.rp_areas.specs.Areas.{anchor_of, area_behind, areas_behind, file_of, grains_up, insert_extent, limit_of, used_of, want_at}
use Rattle.rp_layout.specs.declared.spot.Spot.{Spot}
use Rattle.rp_layout.specs.Layout.{spots_from}
use Rattle.rp_layout.proofs.After.{owner_has}
use Rattle.rp_layout.proofs.Lists.{AllPairs-head, AllPairs-tail, Contains-cons, IfSome-at, mapped_Contains}

-- a partition as a row
abbrev pub extent_of_spot : Spot → Extent
extent_of_spot s = record { start = s.start; size = s.size; file = Some s.file }

-- stacked rows are the partitions and then the others
stacked_is : (from : ℕ) (ps : List Piece) (rest : List Extent) → stacked from ps rest ≡ map extent_of_spot (spots_from from ps) ++ rest
stacked_is from [] rest = refl
stacked_is from (p ∷ ps) rest = ap (λ (es : List Extent). row_at from p ∷ es) (stacked_is (from + grains_up p.units + p.pad) ps rest)

pub All-stacked : (P : Extent → Type 0) (from : ℕ) (ps : List Piece) (rest : List Extent)
    → All (λ s. P (extent_of_spot s)) (spots_from from ps) → All P rest
    → All P (stacked from ps rest)
All-stacked P from ps rest first others = subst (All P) (sym (stacked_is from ps rest))
    (All-append P (map extent_of_spot (spots_from from ps)) rest (All-map P extent_of_spot (spots_from from ps) first) others)

pub in_stacked : (from : ℕ) (ps : List Piece) (rest : List Extent)
    → All (λ s. Contains (stacked from ps rest) (extent_of_spot s)) (spots_from from ps)
in_stacked from ps rest = subst (λ (es : List Extent). All (λ s. Contains es (extent_of_spot s)) (spots_from from ps)) (sym
    (stacked_is from ps rest))
    (λ k d below. Contains-append_left (map extent_of_spot (spots_from from ps)) rest (extent_of_spot (get_or (spots_from from ps) k d))
    (mapped_Contains extent_of_spot (spots_from from ps) k d below))

pub behind_stacked : (from : ℕ) (ps : List Piece) (rest : List Extent) (x : Extent) → Contains rest x → Contains (stacked from ps rest) x
behind_stacked from ps rest x has = subst (λ (es : List Extent). Contains es x) (sym (stacked_is from ps rest))
    (Contains-append_right (map extent_of_spot (spots_from from ps)) rest x has)

-- the anchor of the area behind a row
behind_with : (o : Option ℕ) (wants : List Want) (limit : ℕ) (e : Extent)
    → (option_map_or {U = Area} (λ file. record {
      from = e.start / 8;
      span = limit - e.start / 8;
      anchor = Some file;
      used = used_of
          (want_at wants file) e;
    }) o
    (record { from = grains_up (e.start + e.size); span = limit - grains_up (e.start + e.size); anchor = None; used = 0 })).anchor ≡ o
behind_with None wants limit e = refl
behind_with (Some file) wants limit e = refl

anchor_is : (wants : List Want) (limit : ℕ) (e : Extent) → (area_behind wants limit e).anchor ≡ anchor_of limit e
anchor_is wants limit e = behind_with (anchor_of limit e) wants limit e

-- an anchor is the row's own definition
pub anchor_file : (limit : ℕ) (e : Extent) (f : ℕ) → anchor_of limit e ≡ Some f → e.file ≡ Some f
anchor_file limit e f = cond_both (eqb (e.start % 8) 0 && leb (e.start / 8 + grains_up e.size) limit) e.file None (λ o. o ≡ Some f
    → e.file ≡ Some f)
    (λ _ is. is) (λ _ is. absurd (let same : None ≡ Some f = is in cc))

-- what is woven in from the areas on
module _ (last : ℕ) (wants : List Want) (f : ℕ × Area → List Piece) where
  abbrev pub spots_of_area : ℕ × Area → List Spot
  spots_of_area e = spots_from e.1.from (f e)

  abbrev pub wove : ℕ → List Extent → List Extent
  wove n es = woven last wants es (map f (enumerate_from n (areas_behind last wants es)))

  -- what holds of each row that is no anchor
  abbrev pub Unanchored : (Extent → Type 0) → List Extent → Type 0
  Unanchored P [] = Unit {0}
  Unanchored P (e ∷ es) = (anchor_of (limit_of last es) e ≡ None → P e) × Unanchored P es

  All-woven_at : (P : Extent → Type 0) (o : Option ℕ) (from : ℕ) (e : Extent) (ps : List Piece) (rest : List Extent) → (o ≡ None → P e)
      → All (λ s. P (extent_of_spot s)) (spots_from from ps) → All P rest → All P (woven_at o from e ps rest)
  All-woven_at P None from e ps rest here first others = All-cons P e (stacked from ps rest) (here refl)
      (All-stacked P from ps rest first others)
  All-woven_at P (Some file) from e ps rest here first others = All-stacked P from ps rest first others

  pub All-wove : (P : Extent → Type 0) (n : ℕ) (es : List Extent)
      → All (λ e. All (λ s. P (extent_of_spot s)) (spots_of_area e)) (enumerate_from n (areas_behind last wants es)) → Unanchored P es
      → All P (wove n es)
  All-wove P n [] each own = All-nil P
  All-wove P n (e ∷ es) each own =
      let area : Area = area_behind wants (limit_of last es) e in
      let rest : List (ℕ × Area) = enumerate_from (n + 1) (areas_behind last wants es) in
      All-woven_at P area.anchor area.from e (f (n, area)) (wove (n + 1) es)
      (λ none. own.0 (sym (anchor_is wants (limit_of last es) e) ∙ none))
      (All-head (λ a. All (λ s. P (extent_of_spot s)) (spots_of_area a)) (n, area) rest each)
      (All-wove P (n + 1) es (All-tail (λ a. All (λ s. P (extent_of_spot s)) (spots_of_area a)) (n, area) rest each) own.1)

  in_woven_at : (o : Option ℕ) (from : ℕ) (e : Extent) (ps : List Piece) (rest : List Extent)
      → All (λ s. Contains (woven_at o from e ps rest) (extent_of_spot s)) (spots_from from ps)
  in_woven_at None from e ps rest = λ k d below. Contains-cons (extent_of_spot (get_or (spots_from from ps) k d)) e (stacked from ps rest)
      (in_stacked from ps rest k d below)
  in_woven_at (Some file) from e ps rest = in_stacked from ps rest

  behind_woven_at : (o : Option ℕ) (from : ℕ) (e : Extent) (ps : List Piece) (rest : List Extent) (x : Extent) → Contains rest x
      → Contains (woven_at o from e ps rest) x
  behind_woven_at None from e ps rest x has = Contains-cons x e (stacked from ps rest) (behind_stacked from ps rest x has)
  behind_woven_at (Some file) from e ps rest x has = behind_stacked from ps rest x has

  head_woven_at : (o : Option ℕ) (from : ℕ) (e : Extent) (ps : List Piece) (rest : List Extent) → o ≡ None
      → Contains (woven_at o from e ps rest) e
  head_woven_at None from e ps rest none = (0, omega arith, refl)
  head_woven_at (Some file) from e ps rest none = absurd (let same : Some file ≡ None = none in cc)

  -- each partition is woven in
  pub spots_in_wove : (n : ℕ) (es : List Extent)
      → All (λ e. All (λ s. Contains (wove n es) (extent_of_spot s)) (spots_of_area e)) (enumerate_from n (areas_behind last wants es))
  spots_in_wove n [] = All-nil (λ e. All (λ s. Contains [] (extent_of_spot s)) (spots_of_area e))
  spots_in_wove n (e ∷ es) =
      let area : Area = area_behind wants (limit_of last es) e in
      let rest : List (ℕ × Area) = enumerate_from (n + 1) (areas_behind last wants es) in
      All-cons (λ a. All (λ s. Contains (wove n (e ∷ es)) (extent_of_spot s)) (spots_of_area a)) (n, area) rest
      (in_woven_at area.anchor area.from e (f (n, area)) (wove (n + 1) es))
      (All-weaker (λ a. All (λ s. Contains (wove (n + 1) es) (extent_of_spot s)) (spots_of_area a))
      (λ a. All (λ s. Contains (wove n (e ∷ es)) (extent_of_spot s)) (spots_of_area a))
      (λ a each. All-weaker (λ s. Contains (wove (n + 1) es) (extent_of_spot s)) (λ s. Contains (wove n (e ∷ es)) (extent_of_spot s))
      (λ s has. behind_woven_at area.anchor area.from e (f (n, area)) (wove (n + 1) es) (extent_of_spot s) has) (spots_of_area a) each)
      rest (spots_in_wove (n + 1) es))

  -- and each row whose definition is the anchor of no area
  pub rows_in_wove : (Q : Option ℕ → Type 0) (n : ℕ) (es : List Extent)
      → All (λ (a : Area). (file : ℕ) → a.anchor ≡ Some file → Q (Some file) → ⊥) (areas_behind last wants es)
      → All (λ (e : Extent). Q e.file → Contains (wove n es) e) es
  rows_in_wove Q n [] each = All-nil (λ (e : Extent). Q e.file → Contains [] e)
  rows_in_wove Q n (e ∷ es) each =
      let area : Area = area_behind wants (limit_of last es) e in
      let none : Q e.file → (o : Option ℕ) → area.anchor ≡ o → o ≡ None = λ q o. elim o as (λ o. area.anchor ≡ o → o ≡ None) [
        | None ↦ λ _. refl
        | Some file ↦ λ is. absurd
            (All-head (λ (a : Area). (g : ℕ) → a.anchor ≡ Some g → Q (Some g) → ⊥) area (areas_behind last wants es) each file is
            (subst Q (anchor_file (limit_of last es) e file (sym (anchor_is wants (limit_of last es) e) ∙ is)) q))
      ] in
      All-cons (λ (x : Extent). Q x.file → Contains (wove n (e ∷ es)) x) e es
      (λ q. head_woven_at area.anchor area.from e (f (n, area)) (wove (n + 1) es) (none q area.anchor refl))
      (All-weaker (λ (x : Extent). Q x.file → Contains (wove (n + 1) es) x) (λ (x : Extent). Q x.file → Contains (wove n (e ∷ es)) x)
      (λ x has q. behind_woven_at area.anchor area.from e (f (n, area)) (wove (n + 1) es) x (has q)) es
      (rows_in_wove Q (n + 1) es (All-tail (λ (a : Area). (g : ℕ) → a.anchor ≡ Some g → Q (Some g)
      → ⊥) area (areas_behind last wants es) each)))

-- rows have definitions of their own
abbrev pub Owns : Extent → Extent → Type 0
Owns a b = (file : ℕ) → a.file ≡ Some file → b.file ≡ Some file → ⊥

-- an extent among others by start keeps what holds of all and of any two
All-insert : (P : Extent → Type 0) (x : Extent) (es : List Extent) → P x → All P es → All P (insert_extent x es)
All-insert P x [] here each = All-cons P x [] here each
All-insert P x (e ∷ es) here each = cond_both (ltb x.start e.start) (x ∷ e ∷ es) (e ∷ insert_extent x es) (All P)
    (λ _. All-cons P x (e ∷ es) here each)
    (λ _. All-cons P e (insert_extent x es) (All-head P e es each) (All-insert P x es here (All-tail P e es each)))

Owns-insert : (x : Extent) (es : List Extent) → All (Owns x) es → AllPairs Owns es → AllPairs Owns (insert_extent x es)
Owns-insert x [] here each = AllPairs-cons Owns x [] here each
Owns-insert x (e ∷ es) here each = cond_both (ltb x.start e.start) (x ∷ e ∷ es) (e ∷ insert_extent x es) (AllPairs Owns)
    (λ _. AllPairs-cons Owns x (e ∷ es) here each)
    (λ _. AllPairs-cons Owns e (insert_extent x es)
    (All-insert (Owns e) x es (λ file is also. All-head (Owns x) e es here file also is) (AllPairs-head Owns e es each))
    (Owns-insert x es (All-tail (Owns x) e es here) (AllPairs-tail Owns e es each)))

pub sorted_all : (P : Extent → Type 0) (sorted es : List Extent) → All P sorted → All P es
    → All P (fold (λ s e. insert_extent e s) sorted es)
sorted_all P sorted [] first each = first
sorted_all P sorted (e ∷ es) first each = sorted_all P (insert_extent e sorted) es (All-insert P e sorted (All-head P e es each) first)
    (All-tail P e es each)

pub sorted_owns : (sorted es : List Extent) → AllPairs Owns sorted → All (λ e. All (Owns e) sorted) es → AllPairs Owns es
    → AllPairs Owns (fold (λ s e. insert_extent e s) sorted es)
sorted_owns sorted [] first between each = first
sorted_owns sorted (e ∷ es) first between each =
    sorted_owns (insert_extent e sorted) es (Owns-insert e sorted (All-head (λ x. All (Owns x) sorted) e es between) first)
    (λ k d below. All-insert (Owns (get_or es k d)) e sorted
    (λ file is also. AllPairs-head Owns e es each k d below file also is)
    (All-tail (λ x. All (Owns x) sorted) e es between k d below))
    (AllPairs-tail Owns e es each)

insert_back : (P : Extent → Type 0) (x : Extent) (es : List Extent) → All P (insert_extent x es) → P x × All P es
insert_back P x [] each = (All-head P x [] each, All-nil P)
insert_back P x (e ∷ es) each = cond_both (ltb x.start e.start) (x ∷ e ∷ es) (e ∷ insert_extent x es) (λ ys. All P ys
    → P x × All P (e ∷ es))
    (λ _ all. (All-head P x (e ∷ es) all, All-tail P x (e ∷ es) all))
    (λ _ all. let rest = insert_back P x es (All-tail P e (insert_extent x es) all) in
    (rest.0, All-cons P e es (All-head P e (insert_extent x es) all) rest.1))
    each

pub sorted_back : (P : Extent → Type 0) (sorted es : List Extent) → All P (fold (λ s e. insert_extent e s) sorted es)
    → All P sorted × All P es
sorted_back P sorted [] each = (each, All-nil P)
sorted_back P sorted (e ∷ es) each =
    let rest = sorted_back P (insert_extent e sorted) es each in
    let here = insert_back P e sorted rest.0 in
    (here.1, All-cons P e es here.0 rest.1)

-- rows that are no anchor have their definitions in no area
module _ (last : ℕ) (wants : List Want) (f : ℕ × Area → List Piece) where
  no_anchor : (file : ℕ) (es : List Extent) → All (λ (e : Extent). e.file ≢ Some file) es
      → All (λ (a : Area). a.anchor ≢ Some file) (areas_behind last wants es)
  no_anchor file [] each = All-nil (λ (a : Area). a.anchor ≢ Some file)
  no_anchor file (e ∷ es) each = All-cons (λ (a : Area). a.anchor ≢ Some file) (area_behind wants (limit_of last es) e)
      (areas_behind last wants es)
      (λ is. All-head (λ (x : Extent). x.file ≢ Some file) e es each
      (anchor_file (limit_of last es) e file (sym (anchor_is wants (limit_of last es) e) ∙ is)))
      (no_anchor file es (All-tail (λ (x : Extent). x.file ≢ Some file) e es each))

  pub weaker : (P Q : Extent → Type 0) (es : List Extent) → All (λ e. P e → Q e) es → Unanchored last wants f P es
      → Unanchored last wants f Q es
  weaker P Q [] each own = tt
  weaker P Q (e ∷ es) each own =
      (λ none. All-head (λ x. P x → Q x) e es each (own.0 none), weaker P Q es (All-tail (λ x. P x → Q x) e es each) own.1)

  abbrev pub Free : List Extent → Extent → Type 0
  Free es e = (file : ℕ) → e.file ≡ Some file → All (λ (a : Area). a.anchor ≢ Some file) (areas_behind last wants es)

  pub unanchored_free : (es : List Extent) → AllPairs Owns es → Unanchored last wants f (Free es) es
  unanchored_free [] owns = tt
  unanchored_free (e ∷ es) owns =
      let area : Area = area_behind wants (limit_of last es) e in
      let others = AllPairs-head Owns e es owns in (
        λ none file is. All-cons (λ (a : Area). a.anchor ≢ Some file) area (areas_behind last wants es)
            (λ same. (let q : None ≡ Some file = sym (anchor_is wants (limit_of last es) e ∙ none) ∙ same in cc))
            (no_anchor file es (λ k d below also. others k d below file is also)),
        weaker (Free es) (Free (e ∷ es)) es
            (λ k d below free file also. All-cons (λ (a : Area). a.anchor ≢ Some file) area (areas_behind last wants es)
            (λ same. others k d below file (anchor_file (limit_of last es) e file (sym (anchor_is wants (limit_of last es) e) ∙ same)) also)
            (free file also))
            (unanchored_free es (AllPairs-tail Owns e es owns)),
      )

-- the definition that has a row is its owner, where no two have one row
position-None : {X : Type 0} (p : X → Bool) (xs : List X) (k : ℕ) (d : X) → position p xs ≡ None → k < length xs → p (get_or xs k d) ≡ false
position-None p xs k d none below = elim (cases_lt (position_or_len p xs) (length xs)) [
  | inl within ↦ absurd (let e : Some (position_or_len p xs) ≡ None = sym
      (ap (λ b. cond b (Some (position_or_len p xs)) None) (lt-ltb _ _ within)) ∙ none in cc)
  | inr past ↦ fails_before_first p xs k d (omega (arith, past, below))
]

same_owner : (matched : List (Option ℕ)) → AllPairs (λ a b. IfSome a (λ place. b ≢ Some place)) matched → (place file other : ℕ)
    → slice_get matched file ≡ Some (Some place) → slice_get matched other ≡ Some (Some place) → file < other → ⊥
same_owner matched distinct place file other at also less =
    let before : get_or matched file None ≡ Some place = get_or_from_slice_get matched file (Some place) None at in
    let later : get_or matched other None ≡ Some place = get_or_from_slice_get matched other (Some place) None also in
    IfSome-at (get_or matched file None) (λ p. get_or matched other None ≢ Some p) place before
    (distinct file other None less (slice_get_within matched other (Some place) also)) later

owner_from : (matched : List (Option ℕ)) → AllPairs (λ a b. IfSome a (λ place. b ≢ Some place)) matched → (place file : ℕ)
    → slice_get matched file ≡ Some (Some place) → (o : Option ℕ) → file_of matched place ≡ o → o ≡ Some file
owner_from matched distinct place file at None found =
    let fails : option_map_or (λ q. q == place) (get_or matched file None) false ≡ false = position-None
    (λ m. option_map_or (λ q. q == place) m false) matched file None found (slice_get_within matched file (Some place) at) in
    let passes : option_map_or (λ q. q == place) (get_or matched file None) false ≡ true = ap (λ (m : Option ℕ). option_map_or
    (λ q. q == place) m false)
    (get_or_from_slice_get matched file (Some place) None at) ∙ eq-eqb place place refl in
    absurd (let e : true ≡ false = sym passes ∙ fails in cc)
owner_from matched distinct place file at (Some other) found =
    let also : slice_get matched other ≡ Some (Some place) = owner_has matched place other found in
    elim (cases_order other file) [
      | inl same ↦ ap (λ g. Some g) same
      | inr order ↦ elim order [
        | inl less ↦ absurd (same_owner matched distinct place other file also at less)
        | inr more ↦ absurd (same_owner matched distinct place file other at also more)
      ]
    ]

pub owner_of : (matched : List (Option ℕ)) → AllPairs (λ a b. IfSome a (λ place. b ≢ Some place)) matched → (file place : ℕ)
    → slice_get matched file ≡ Some (Some place) → file_of matched place ≡ Some file
owner_of matched distinct file place at = owner_from matched distinct place file at (file_of matched place) refl

-- an element is found under its own number, where no two have one
pub unique_find : {X : Type 0} (g : X → ℕ) (xs : List X) → AllPairs (λ a b. g a ≢ g b) xs → All (λ x. find (λ y. g y == g x) xs ≡ Some x) xs
unique_find g [] differ = All-nil (λ x. find (λ y. g y == g x) [] ≡ Some x)
unique_find g (x ∷ xs) differ = All-cons (λ z. find (λ y. g y == g z) (x ∷ xs) ≡ Some z) x xs
    (cond-true (g x == g x) (Some x) (find (λ y. g y == g x) xs) (eq-eqb (g x) (g x) refl))
    (λ k d below.
    cond-false (g x == g (get_or xs k d)) (Some x) (find (λ y. g y == g (get_or xs k d)) xs)
    (ne_eqb (g x) (g (get_or xs k d)) (AllPairs-head (λ a b. g a ≢ g b) x xs differ k d below))
    ∙ unique_find g xs (AllPairs-tail (λ a b. g a ≢ g b) x xs differ) k d below)

-- what is made of an element is among what is made of some
pub in_filter_map : {X Y : Type 0} (g : X → Option Y) (xs : List X) → All (λ x. (y : Y) → g x ≡ Some y → Contains (filter_map g xs) y) xs
in_filter_map g [] = All-nil (λ x. (y : _) → g x ≡ Some y → Contains [] y)
in_filter_map {Y = Y} g (x ∷ xs) = All-cons (λ z. (y : Y) → g z ≡ Some y → Contains (filter_map g (x ∷ xs)) y) x xs
    (λ y is. subst (λ (o : Option Y). Contains (cons_option o (filter_map g xs)) y) (sym is) (0, omega arith, refl))
    (λ k d below y is. more (g x) (filter_map g xs) y (in_filter_map g xs k d below y is))
  where
    more : (o : Option Y) (ys : List Y) (y : Y) → Contains ys y → Contains (cons_option o ys) y
    more None ys y has = has
    more (Some z) ys y has = Contains-cons y z ys has
