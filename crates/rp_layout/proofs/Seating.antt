-- The steps of the loops that seat and stack.
use Rattle.std.proofs.Common.{◌≡◌, ◌==◌, ℕ, pos, zero, suc, ◌+◌, ◌*◌, ◌<◌, ◌≤◌, Bool, true, false, List, [], ◌∷◌, ◌++◌, length, get_or, map, take, drop, sum, Option, Some, None, IfSome, All, slice_get, slice_set, arith, refl, ap, sym, ◌∙◌, inl, inr, if◌then◌else◌, append_assoc, append-nil}
use Rattle.std.specs.List.{cons_option, enumerate_from}
use Rattle.std.specs.Option.{option_map_or}
use Rattle.std.proofs.lemmas.Bool.{cases_eq, eq-eqb, ne_eqb}
use Rattle.std.proofs.lemmas.List.{drop_all, drop_more, get_or-set_other, get_or-set_same, get_or-map, get_or_default, length-map, length-set, length-take-le, map-append, same_lists, take_all, take_more}
use Rattle.std.proofs.lemmas.List.FromFn.{length-enumerate_from}
use Rattle.std.proofs.lemmas.List.Sums.{sum_by-drop_more}
use Rattle.rp_base.specs.declared.table.Row.{Row}
use Rattle.rp_base.specs.declared.want.Want.{Want}
use Rattle.rp_areas.specs.declared.gaps.Area.{Area}
use Rattle.rp_areas.specs.Areas.{grains_up, want_at}
use Rattle.rp_place.specs.declared.fit.New.{New}
use Rattle.rp_layout.specs.declared.seat.Seat.{Seat}
use Rattle.rp_layout.specs.declared.spot.Spot.{Spot}
use Rattle.rp_layout.specs.Layout.{spots_from}
use Rattle.rp_layout.specs.Seats.{files_at, files_in, items_of, pieces_of, seat_of, stack_of, seats_of, units_at, units_of}
use Rattle.rp_layout.specs.Stacking.{spots_over, with_new, with_news, written}
use Rattle.rp_layout.proofs.Lists.{enumerated_at}
use Rattle.rp_layout.proofs.Shared.{units-none}
use Rattle.rp_layout.proofs.Shares.{grains_of}

items-append : (ss ts : List Seat) → items_of (ss ++ ts) ≡ items_of ss ++ items_of ts
items-append [] ts = refl
items-append (s ∷ ss) ts = ap (λ items. s.size ∷ s.pad ∷ items) (items-append ss ts)

-- one more seat
pub items_more : (ss : List Seat) (i : ℕ) (d : Seat) → i < length ss
    → (items_of (take i ss) ++ (get_or ss i d).size ∷ []) ++ (get_or ss i d).pad ∷ [] ≡ items_of (take (i + 1) ss)
items_more ss i d below =
    append_assoc (items_of (take i ss)) ((get_or ss i d).size ∷ []) ((get_or ss i d).pad ∷ [])
    ∙ sym (ap items_of (take_more ss i d below) ∙ items-append (take i ss) (get_or ss i d ∷ []))

-- the shares from a seat's on
two_more : (shares : List ℕ) (i : ℕ) → 2 * i + 1 < length shares
    → drop (2 * i) shares ≡ get_or shares (2 * i) 0 ∷ get_or shares (2 * i + 1) 0 ∷ drop (2 * (i + 1)) shares
two_more shares i below =
    let next : 2 * i + 1 + 1 ≡ 2 * (i + 1) = omega arith in
    drop_more shares (2 * i) 0 (omega (arith, below))
    ∙ ap (λ xs. get_or shares (2 * i) 0 ∷ xs) (drop_more shares (2 * i + 1) 0 below
    ∙ ap (λ n. get_or shares (2 * i + 1) 0 ∷ drop n shares) next)

-- one more partition written
pub write_more : (spots : List (Option Spot)) (from i : ℕ) (seats : List Seat) (shares : List ℕ) (d : Seat)
    → length shares ≡ 2 * length seats → i < length seats
    → written (slice_set spots (get_or seats i d).file (Some (record {
      file = (get_or seats i d).file;
      start = 8 * from;
      size = units_of (get_or seats i d).has (get_or shares (2 * i) 0);
      pad = get_or shares (2 * i + 1) 0;
    })))
    (spots_from (from + (get_or shares (2 * i) 0 + get_or shares (2 * i + 1) 0)) (pieces_of (drop (i + 1) seats) (drop (2 *
    (i + 1)) shares)))
    ≡ written spots (spots_from from (pieces_of (drop i seats) (drop (2 * i) shares)))
write_more spots from i seats shares d each below =
    let s : Seat = get_or seats i d in
    let x : ℕ = get_or shares (2 * i) 0 in
    let y : ℕ = get_or shares (2 * i + 1) 0 in
    let rest = pieces_of (drop (i + 1) seats) (drop (2 * (i + 1)) shares) in
    let next : from + (x + y) ≡ from + grains_up (units_of s.has x) + y = omega (arith, grains_of s.has x) in
    ap (λ (f : ℕ). written (slice_set spots s.file (Some (record { file = s.file; start = 8 * from; size = units_of s.has x; pad = y })))
    (spots_from f rest)) next
    ∙ sym (ap (λ (xs : List ℕ). written spots (spots_from from (pieces_of (drop i seats) xs))) (two_more shares i (omega
    (arith, each, below)))
    ∙ ap (λ (ss : List Seat). written spots (spots_from from (pieces_of ss (x ∷ y ∷ drop (2 * (i + 1)) shares))))
    (drop_more seats i d below))

pub sum_more : (shares : List ℕ) (i : ℕ) → 2 * i + 1 < length shares
    → sum (drop (2 * i) shares) ≡ get_or shares (2 * i) 0 + (get_or shares (2 * i + 1) 0 + sum (drop (2 * (i + 1)) shares))
sum_more shares i below =
    let next : 2 * i + 1 + 1 ≡ 2 * (i + 1) = omega arith in
    sum_by-drop_more (λ (n : ℕ). n) shares (2 * i) 0 (omega (arith, below))
    ∙ ap (λ n. get_or shares (2 * i) 0 + n) (sum_by-drop_more (λ (n : ℕ). n) shares (2 * i + 1) 0 below
    ∙ ap (λ n. get_or shares (2 * i + 1) 0 + sum (drop n shares)) next)

-- before any new definition there are the anchors
anchors_mapped : (rows : List Row) (matched : List (Option ℕ)) (wants : List Want) (n : ℕ) (areas : List Area)
    → map (λ (a : Area). seats_of rows matched wants (cons_option a.anchor [])) areas
    ≡ map (λ e. seats_of rows matched wants (files_at [] [] e)) (enumerate_from n areas)
anchors_mapped rows matched wants n [] = refl
anchors_mapped rows matched wants n (a ∷ areas) =
    ap (λ (rest : List (List Seat)). seats_of rows matched wants (cons_option a.anchor []) ∷ rest) (anchors_mapped rows matched wants
    (n + 1) areas)

pub anchors_first : (rows : List Row) (matched : List (Option ℕ)) (wants : List Want) (areas : List Area) (news : List New)
    (places : List (Option ℕ)) → map (λ (a : Area). seats_of rows matched wants (cons_option a.anchor [])) areas
    ≡ map (λ e. seats_of rows matched wants (files_at (take 0 news) (take 0 places) e)) (enumerate_from 0 areas)
anchors_first rows matched wants areas news places = anchors_mapped rows matched wants 0 areas

pushed : (b : Bool) (file : ℕ) (all before more : List ℕ) → all ≡ before ++ more
    → (if b then file ∷ all else all) ≡ (if b then file ∷ before else before) ++ more
pushed true file all before more is = ap (λ fs. file ∷ fs) is
pushed false file all before more is = is

-- one more new definition
files-append : (area : ℕ) (ns : List New) (ps : List (Option ℕ)) (n : New) (p : Option ℕ) → length ps ≡ length ns
    → files_in area (ns ++ n ∷ []) (ps ++ p ∷ [])
    ≡ files_in area ns ps ++ (if option_map_or (λ place. place == area) p false then n.file ∷ [] else [])
files-append area [] [] n p each = refl
files-append area [] (q ∷ ps) n p each = absurd (omega (arith, each))
files-append area (m ∷ ns) [] n p each = absurd (omega (arith, each))
files-append area (m ∷ ns) (q ∷ ps) n p each =
    let rest = files-append area ns ps n p (omega (arith, each)) in
    let more : List ℕ = if option_map_or (λ place. place == area) p false then n.file ∷ [] else [] in
    pushed (option_map_or (λ place. place == area) q false) m.file (files_in area (ns ++ n ∷ []) (ps ++ p ∷ []))
    (files_in area ns ps) more rest

cons-append : (o : Option ℕ) (fs gs : List ℕ) → cons_option o (fs ++ gs) ≡ cons_option o fs ++ gs
cons-append None fs gs = refl
cons-append (Some f) fs gs = refl

module _ (rows : List Row) (matched : List (Option ℕ)) (wants : List Want) (areas : List Area) (news : List New) (places : List (Option ℕ))
    (each : length places ≡ length news) where
  -- the seats in each area with the first new definitions
  abbrev pub seated : ℕ → ℕ × Area → List Seat
  seated k e = seats_of rows matched wants (files_at (take k news) (take k places) e)

  seated_more : (k : ℕ) (n : New) (p : Option ℕ) (e : ℕ × Area) → k < length news → get_or news k n ≡ n → get_or places k p ≡ p
      → seated (k + 1) e ≡ seated k e ++ seats_of rows matched wants (if option_map_or (λ place. place == e.0) p false then n.file ∷ []
      else [])
  seated_more k n p e below at place =
      let own : List ℕ = if option_map_or (λ place. place == e.0) p false then n.file ∷ [] else [] in
      let ns : take (k + 1) news ≡ take k news ++ n ∷ [] = take_more news k n below ∙ ap (λ m. take k news ++ m ∷ []) at in
      let ps : take (k + 1) places ≡ take k places ++ p ∷ [] = take_more places k p (omega (arith, each, below))
      ∙ ap (λ q. take k places ++ q ∷ []) place in
      let same : length (take k places) ≡ length (take k news) = length-take-le k places (omega (arith, each, below))
      ∙ sym (length-take-le k news (omega (arith, below))) in
      let files : files_in e.0 (take (k + 1) news) (take (k + 1) places) ≡ files_in e.0 (take k news) (take k places) ++ own =
      ap (λ (ms : List New). files_in e.0 ms (take (k + 1) places)) ns
      ∙ ap (λ (qs : List (Option ℕ)). files_in e.0 (take k news ++ n ∷ []) qs) ps
      ∙ files-append e.0 (take k news) (take k places) n p same in
      ap (λ (fs : List ℕ). seats_of rows matched wants (cons_option e.1.anchor fs)) files
      ∙ ap (seats_of rows matched wants) (cons-append e.1.anchor (files_in e.0 (take k news) (take k places)) own)
      ∙ map-append (λ (file : ℕ). seat_of (want_at wants file) file (units_at rows matched file))
      (cons_option e.1.anchor (files_in e.0 (take k news) (take k places))) own

  abbrev pub all_seated : ℕ → List (List Seat)
  all_seated k = map (seated k) (enumerate_from 0 areas)

  length-all : (k : ℕ) → length (all_seated k) ≡ length areas
  length-all k = length-map (enumerate_from 0 areas) (seated k) ∙ length-enumerate_from 0 areas

  all_at : (k j : ℕ) (d : Area) (ss : List Seat) → j < length areas → get_or (all_seated k) j ss ≡ seated k (j, get_or areas j d)
  all_at k j d ss below =
      get_or-map (seated k) (enumerate_from 0 areas) j (0, d) ss (omega (arith, below, length-enumerate_from 0 areas))
      ∙ ap (seated k) (enumerated_at areas j (0, d) below)

  -- one that was dropped takes no seat
  pub none_more : (k : ℕ) (n : New) → k < length news → get_or news k n ≡ n → get_or places k None ≡ None
      → all_seated k ≡ all_seated (k + 1)
  none_more k n below at place = same_lists (all_seated k) (all_seated (k + 1)) (length-all k ∙ sym (length-all (k + 1))) (λ j ss inside.
      let l : j < length areas = omega (arith, inside, length-all k) in
      let d : Area = record { from = 0; span = 0; anchor = None; used = 0 } in
      all_at k j d ss l
      ∙ sym (all_at (k + 1) j d ss l ∙ seated_more k n None (j, get_or areas j d) below at place
      ∙ append-nil (seated k (j, get_or areas j d))))

  -- one that was placed takes the next seat of its area
  pub some_more : (k : ℕ) (n : New) (area : ℕ) → k < length news → get_or news k n ≡ n → get_or places k (Some area) ≡ Some area
      → area < length areas → units_at rows matched n.file ≡ 0
      → slice_set (all_seated k) area (get_or (all_seated k) area [] ++ seat_of (want_at wants n.file) n.file 0 ∷ []) ≡ all_seated (k + 1)
  some_more k n area below at place within none =
      let d : Area = record { from = 0; span = 0; anchor = None; used = 0 } in
      let seat : Seat = seat_of (want_at wants n.file) n.file 0 in
      let new : List (List Seat) = slice_set (all_seated k) area (get_or (all_seated k) area [] ++ seat ∷ []) in
      let long : length new ≡ length areas = length-set (all_seated k) area (get_or (all_seated k) area [] ++ seat ∷ []) ∙ length-all k in
      same_lists new (all_seated (k + 1)) (long ∙ sym (length-all (k + 1))) (λ j ss inside.
      let l : j < length areas = omega (arith, inside, long) in
      let after : get_or (all_seated (k + 1)) j ss ≡ seated k (j, get_or areas j d)
      ++ seats_of rows matched wants (if area == j then n.file ∷ [] else []) = all_at (k + 1) j d ss l
      ∙ seated_more k n (Some area) (j, get_or areas j d) below at place in
      elim (cases_eq area j) [
        | inl same ↦
            let own : seats_of rows matched wants (if area == j then n.file ∷ [] else []) ≡ seat ∷ [] =
            ap (λ (b : Bool). seats_of rows matched wants (if b then n.file ∷ [] else [])) (eq-eqb area j same)
            ∙ ap (λ (u : ℕ). seat_of (want_at wants n.file) n.file u ∷ []) none in
            ap (λ (i : ℕ). get_or new i ss) (sym same)
            ∙ get_or-set_same (all_seated k) area (get_or (all_seated k) area [] ++ seat ∷ []) ss (omega (arith, within, length-all k))
            ∙ ap (λ (i : ℕ). get_or (all_seated k) i [] ++ seat ∷ []) same
            ∙ ap (λ (xs : List Seat). xs ++ seat ∷ []) (all_at k j d [] l)
            ∙ sym (after ∙ ap (λ (xs : List Seat). seated k (j, get_or areas j d) ++ xs) own)
        | inr differ ↦
            let own : seats_of rows matched wants (if area == j then n.file ∷ [] else []) ≡ [] =
            ap (λ (b : Bool). seats_of rows matched wants (if b then n.file ∷ [] else [])) (ne_eqb area j differ) in
            get_or-set_other (all_seated k) area j (get_or (all_seated k) area [] ++ seat ∷ []) ss (λ same. differ (sym same))
            ∙ all_at k j d ss l
            ∙ sym (after ∙ ap (λ (xs : List Seat). seated k (j, get_or areas j d) ++ xs) own ∙ append-nil (seated k (j, get_or areas j d)))
      ])

  pub all_seats : (k : ℕ) → length news ≤ k → all_seated k ≡ map (λ e. seats_of rows matched wants (files_at news places e))
      (enumerate_from 0 areas)
  all_seats k all =
      ap (λ (ns : List New). map (λ e. seats_of rows matched wants (files_at ns (take k places) e)) (enumerate_from 0 areas))
      (take_all k news all)
      ∙ ap (λ (ps : List (Option ℕ)). map (λ e. seats_of rows matched wants (files_at news ps e)) (enumerate_from 0 areas))
      (take_all k places (omega (arith, each, all)))

  no_new : New
  no_new = record { file = 0; need = 0; priority = pos 0 }

  -- one more, placed or not
  new_more : (k : ℕ) (n : New) (p : Option ℕ) → k < length news → get_or news k n ≡ n → get_or places k p ≡ p
      → IfSome p (λ a. a < length areas) → units_at rows matched n.file ≡ 0 → with_new wants n p (all_seated k) ≡ all_seated (k + 1)
  new_more k n None below at place within none = none_more k n below at place
  new_more k n (Some area) below at place within none = some_more k n area below at place within none

  module _ (unmatched : All (λ (n : New). slice_get matched n.file ≡ Some None) news) (within : All (λ p. IfSome p
      (λ a. a < length areas)) places)
    where
      left_seated : (left k : ℕ) → k + left ≡ length news
          → with_news wants (drop k news) (drop k places) (all_seated k) ≡ all_seated (length news)
      left_seated zero k all =
          let none : drop k news ≡ [] = drop_all k news (omega (arith, all)) in
          ap (λ (ns : List New). with_news wants ns (drop k places) (all_seated k)) none
          ∙ ap all_seated (let e : k ≡ length news = omega (arith, all) in e)
      left_seated (suc left) k all =
          let below : k < length news = omega (arith, all) in
          let here : k < length places = omega (arith, below, each) in
          let n : New = get_or news k no_new in
          let p : Option ℕ = get_or places k None in
          let free : units_at rows matched n.file ≡ 0 = ap (λ (o : Option Row). option_map_or (λ (row : Row). row.size) o 0)
          (units-none rows matched n.file (unmatched k no_new below)) in
          ap (λ (ns : List New). with_news wants ns (drop k places) (all_seated k)) (drop_more news k no_new below)
          ∙ ap (λ (ps : List (Option ℕ)). with_news wants (n ∷ drop (k + 1) news) ps (all_seated k)) (drop_more places k None here)
          ∙ ap (with_news wants (drop (k + 1) news) (drop (k + 1) places))
          (new_more k n p below (get_or_default news k n no_new below) (get_or_default places k p None here) (within k None here) free)
          ∙ left_seated left (k + 1) (omega (arith, all))

      -- the seats of anchors and then of new definitions are those of each area
      pub seats_are : with_news wants news places (map (λ (a : Area). seats_of rows matched wants (cons_option a.anchor [])) areas)
          ≡ map (λ e. seats_of rows matched wants (files_at news places e)) (enumerate_from 0 areas)
      seats_are =
          ap (with_news wants news places) (anchors_first rows matched wants areas news places)
          ∙ left_seated (length news) 0 (omega arith) ∙ all_seats (length news) (omega arith)

-- writing some and then others
written-append : (spots : List (Option Spot)) (ss ts : List Spot) → written spots (ss ++ ts) ≡ written (written spots ss) ts
written-append spots [] ts = refl
written-append spots (s ∷ ss) ts = written-append (slice_set spots s.file (Some s)) ss ts

pub length-written : (spots : List (Option Spot)) (ss : List Spot) → length (written spots ss) ≡ length spots
length-written spots [] = refl
length-written spots (s ∷ ss) = length-written (slice_set spots s.file (Some s)) ss ∙ length-set spots s.file (Some s)

-- one more area
pub over_more : (spots : List (Option Spot)) (areas : List Area) (seats : List (List Seat)) (i : ℕ) (d : Area) (e : List Seat)
    → i < length areas → i < length seats
    → written (written spots (spots_from (get_or areas i d).from (stack_of (get_or areas i d).span (get_or seats i e))))
    (spots_over (drop (i + 1) areas) (drop (i + 1) seats))
    ≡ written spots (spots_over (drop i areas) (drop i seats))
over_more spots areas seats i d e below inside =
    sym (written-append spots (spots_from (get_or areas i d).from (stack_of (get_or areas i d).span (get_or seats i e)))
    (spots_over (drop (i + 1) areas) (drop (i + 1) seats)))
    ∙ sym (ap (λ (rest : List Area). written spots (spots_over rest (drop i seats))) (drop_more areas i d below)
    ∙ ap (λ (ss : List (List Seat)). written spots (spots_over (get_or areas i d ∷ drop (i + 1) areas) ss)) (drop_more seats i e inside))

-- one more new definition seated
pub news_more : (wants : List Want) (news : List New) (places : List (Option ℕ)) (seats : List (List Seat)) (i : ℕ) (d : New) (e : Option ℕ)
    → i < length news → i < length places
    → with_news wants (drop (i + 1) news) (drop (i + 1) places) (with_new wants (get_or news i d) (get_or places i e) seats)
    ≡ with_news wants (drop i news) (drop i places) seats
news_more wants news places seats i d e below inside =
    sym (ap (λ (ns : List New). with_news wants ns (drop i places) seats) (drop_more news i d below)
    ∙ ap (λ (ps : List (Option ℕ)). with_news wants (get_or news i d ∷ drop (i + 1) news) ps seats) (drop_more places i e inside))

pub length-with_new : (wants : List Want) (n : New) (p : Option ℕ) (seats : List (List Seat))
    → length (with_new wants n p seats) ≡ length seats
length-with_new wants n None seats = refl
length-with_new wants n (Some area) seats = length-set seats area (get_or seats area [] ++ seat_of (want_at wants n.file) n.file 0 ∷ [])
