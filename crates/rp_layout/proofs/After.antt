-- The rows that are there, each grown, and the new ones lie within the usable units and share none.
use Rattle.std.proofs.Common.{◌≡◌, ◌≢◌, ◌==◌, ℕ, ◌+◌, ◌<◌, ◌≤◌, ◌⊎◌, true, false, List, ◌++◌, length, get_or, map, Option, Some, None, IfSome, All, AllPairs, slice_get, arith, refl, ap, sym, ◌∙◌, subst, inl, inr}
use Rattle.std.specs.List.{enumerate_from, filter_map}
use Rattle.std.specs.Option.{option_and_then, option_map, option_map_or}
use Rattle.std.proofs.lemmas.Bool.{cases_order, eqb-true, false≢true}
use Rattle.std.proofs.lemmas.List.Elements.{All-append, All-map}
use Rattle.std.proofs.lemmas.List.Quantifiers.{position-Some}
use Rattle.std.proofs.lemmas.Option.{MatchOption-at_some, get_or_from_slice_get, slice_get-get_or, slice_get_within}
use Rattle.rp_base.specs.declared.table.Row.{Row}
use Rattle.rp_base.specs.declared.table.Table.{Table}
use Rattle.rp_base.specs.declared.want.Want.{Want}
use Rattle.rp_base.specs.Table.{AreApart, IsLaidOut}
use Rattle.rp_areas.specs.declared.extents.Extent.{Extent}
use Rattle.rp_areas.specs.declared.gaps.Area.{Area}
use Rattle.rp_areas.specs.Areas.{extent_of, extents_of, file_of, want_at}
use Rattle.rp_place.specs.declared.fit.New.{New}
use Rattle.rp_place.specs.declared.threshold.Placed.{Placed}
use Rattle.rp_layout.specs.declared.spot.Spot.{Spot}
use Rattle.rp_layout.specs.Facts.{IsAdded, IsGrown, IsReady}
use Rattle.rp_layout.specs.Layout.{added, extents_after, grown, reach_of, reach_of_row, spot_at}
use Rattle.rp_layout.specs.Seats.{row_of}
use Rattle.rp_layout.proofs.Apart.{rows_apart}
use Rattle.rp_layout.proofs.Laid.{answer, spot_is, spots_apart}
use Rattle.rp_layout.proofs.Lists.{All-enumerated, All-filter_map, All-unmapped, AllPairs-append, AllPairs-enumerated, AllPairs-filter_map, AllPairs-mapped, AllPairs-unmapped, IfSome-from}
use Rattle.rp_layout.proofs.Shared.{units-some}

abbrev pub Clear : Extent → Extent → Type 0
Clear a b = (a.start + a.size ≤ b.start) ⊎ (b.start + b.size ≤ a.start)

read_match : (m : Option ℕ) (i : ℕ) → option_map_or (λ p. p == i) m false ≡ true → m ≡ Some i
read_match None i test = absurd (false≢true test)
read_match (Some p) i test = ap (λ q. Some q) (eqb-true p i test)

-- the definition that has a row has this one
pub owner_has : (matched : List (Option ℕ)) (place file : ℕ) → file_of matched place ≡ Some file
    → slice_get matched file ≡ Some (Some place)
owner_has matched place file is =
    let found = position-Some (λ m. option_map_or (λ p. p == place) m false) matched file None is in
    slice_get-get_or matched file None found.0 ∙ ap (λ m. Some m) (read_match (get_or matched file None) place found.1)

-- the extent of a definition's partition
abbrev Own : List (Option ℕ) → List (Option Spot) → ℕ → Extent → Type 0
Own matched spots place e = (file : ℕ) × (s : Spot) × (spot_at spots file ≡ Some s) × (slice_get matched file ≡ Some (Some place))
    × (e.start ≡ s.start) × (e.size ≡ s.size)

-- a row that is there, as it was or as large as its definition's partition
abbrev Old : List Row → List (Option ℕ) → List (Option Spot) → ℕ → Extent → Type 0
Old rows matched spots place e = (row : Row) × (slice_get rows place ≡ Some row) × (e.start ≡ row.start)
    × ((e.size ≡ row.size) ⊎ Own matched spots place e)

-- the partition of a new definition
abbrev Fresh : List (Option ℕ) → List (Option Spot) → ℕ → Extent → Type 0
Fresh matched spots file e = (s : Spot) × (spot_at spots file ≡ Some s) × (slice_get matched file ≡ Some None)
    × (e.start ≡ s.start) × (e.size ≡ s.size)

pub table_apart : (table : Table) → IsLaidOut table → (p q : ℕ) (a b : Row) → slice_get table.rows p ≡ Some a
    → slice_get table.rows q ≡ Some b
    → p ≢ q → AreApart a b
table_apart table laid p q a b at also differ =
    let at_p : get_or table.rows p a ≡ a = get_or_from_slice_get table.rows p a a at in
    let at_q : get_or table.rows q a ≡ b = get_or_from_slice_get table.rows q b a also in
    elim (cases_order p q) [
      | inl same ↦ absurd (differ same)
      | inr order ↦ elim order [
        | inl before ↦ subst (λ (r : Row). AreApart r b) at_p (subst (AreApart (get_or table.rows p a)) at_q
            (laid.apart p q a before (slice_get_within table.rows q b also)))
        | inr behind ↦ other_way (subst (λ (r : Row). AreApart r a) at_q (subst (AreApart (get_or table.rows q a)) at_p
            (laid.apart q p a behind (slice_get_within table.rows p a at))))
      ]
    ] where
      other_way : AreApart b a → AreApart a b
      other_way (inl h) = inr h
      other_way (inr h) = inl h

module _ (table : Table) (last : ℕ) (matched : List (Option ℕ)) (wants : List Want) (areas : List Area) (news : List New) (kept : Placed)
    (ready : IsReady table last matched wants areas news kept) where
  abbrev pub spots : List (Option Spot)
  spots = answer table last matched wants areas news kept ready

  row_spot : (p : ℕ) (row : Row) (file : ℕ) (s : Spot) (e f : Extent) → slice_get table.rows p ≡ Some row → spot_at spots file ≡ Some s
      → slice_get matched file ≢ Some (Some p) → e.start ≡ row.start → e.size ≡ row.size → f.start ≡ s.start → f.size ≡ s.size → Clear e f
  row_spot p row file s e f here at other start size begin long =
      elim (rows_apart table last matched wants areas news kept ready file s p row at here other) [
        | inl before ↦ inl (omega (arith, before, start, size, begin))
        | inr behind ↦ inr (omega (arith, behind, start, begin, long))
      ]

  spot_spot : (file other : ℕ) (s t : Spot) (e f : Extent) → file ≢ other → spot_at spots file ≡ Some s → spot_at spots other ≡ Some t
      → e.start ≡ s.start → e.size ≡ s.size → f.start ≡ t.start → f.size ≡ t.size → Clear e f
  spot_spot file other s t e f differ at also start size begin long =
      elim (spots_apart table last matched wants areas news kept ready file other s t differ at also) [
        | inl before ↦ inl (omega (arith, before, start, size, begin))
        | inr behind ↦ inr (omega (arith, behind, start, begin, long))
      ]

  turned : (e f : Extent) → Clear e f → Clear f e
  turned e f (inl h) = inr h
  turned e f (inr h) = inl h

  old_old : (p q : ℕ) (e f : Extent) → p ≢ q → Old table.rows matched spots p e → Old table.rows matched spots q f → Clear e f
  old_old p q e f differ one two = elim one.3 [
    | inl as_it_was ↦ elim two.3 [
      | inl also ↦ elim (table_apart table ready.laid_out p q one.0 two.0 one.1 two.1 differ) [
        | inl h ↦ inl (omega (arith, h, one.2, as_it_was, two.2))
        | inr h ↦ inr (omega (arith, h, one.2, also, two.2))
      ]
      | inr own ↦ row_spot p one.0 own.0 own.1 e f one.1 own.2
          (λ has. differ (let both : Some (Some q) ≡ Some (Some p) = sym own.3 ∙ has in let e : q ≡ p = cc in sym e))
          one.2 as_it_was own.4 own.5
    ]
    | inr own ↦ elim two.3 [
      | inl also ↦ turned f e (row_spot q two.0 own.0 own.1 f e two.1 own.2
          (λ has. differ (let both : Some (Some p) ≡ Some (Some q) = sym own.3 ∙ has in cc))
          two.2 also own.4 own.5)
      | inr other ↦ spot_spot own.0 other.0 own.1 other.1 e f
          (λ same. differ (let both : Some (Some p) ≡ Some (Some q) = sym own.3 ∙ ap (slice_get matched) same ∙ other.3 in cc))
          own.2 other.2 own.4 own.5 other.4 other.5
    ]
  ]

  old_new : (p file : ℕ) (e f : Extent) → Old table.rows matched spots p e → Fresh matched spots file f → Clear e f
  old_new p file e f one new =
      elim one.3 [
        | inl as_it_was ↦ row_spot p one.0 file new.0 e f one.1 new.1
            (λ has. (let both : Some None ≡ Some (Some p) = sym new.2 ∙ has in let e : None ≡ Some p = cc in cc))
            one.2 as_it_was new.3 new.4
        | inr own ↦ spot_spot own.0 file own.1 new.0 e f
            (λ same. (let both : Some (Some p) ≡ Some None = sym own.3 ∙ ap (slice_get matched) same ∙ new.2 in
            let e : Some p ≡ None = cc in cc))
            own.2 new.1 own.4 own.5 new.3 new.4
      ]

  new_new : (file other : ℕ) (e f : Extent) → file ≢ other → Fresh matched spots file e → Fresh matched spots other f → Clear e f
  new_new file other e f differ one two = spot_spot file other one.0 two.0 e f differ one.1 two.1 one.3 one.4 two.3 two.4

  -- within the usable units, with one at least
  abbrev Lawful : Extent → Type 0
  Lawful e = (1 ≤ e.size) × (table.first ≤ e.start) × (e.start + e.size ≤ last + 1)

  spot_lawful : (file : ℕ) (s : Spot) (e : Extent) → spot_at spots file ≡ Some s → e.start ≡ s.start → e.size ≡ s.size → Lawful e
  spot_lawful file s e at start size =
      let is = (spot_is table last matched wants areas news kept ready file s at).1 in
      (omega (arith, is.some, size), omega (arith, is.lower, start), omega (arith, is.upper, start, size))

  old_lawful : (p : ℕ) (e : Extent) → Old table.rows matched spots p e → Lawful e
  old_lawful p e one = elim one.3 [
    | inl as_it_was ↦
        let row : Row = one.0 in
        let below = slice_get_within table.rows p row one.1 in
        let at : get_or table.rows p row ≡ row = get_or_from_slice_get table.rows p row row one.1 in
        let some : 1 ≤ row.size = subst (λ (r : Row). 1 ≤ r.size) at (ready.laid_out.sized p row below) in
        let bounds = subst (λ (r : Row). (table.first ≤ r.start) × (r.start + r.size ≤ table.last + 1)) at
        (ready.laid_out.in_bounds p row below) in
        (omega (arith, some, as_it_was), omega (arith, bounds.0, one.2), omega (arith, bounds.1, one.2, as_it_was, ready.bounds))
    | inr own ↦ spot_lawful own.0 own.1 e own.2 own.4 own.5
  ]

  abbrev grown_row : ℕ × Row → Extent
  grown_row e = grown spots (extent_of matched e)

  pub own_spot : (p : ℕ) (row : Row) (file : ℕ) (s : Spot) → slice_get table.rows p ≡ Some row → file_of matched p ≡ Some file
      → spot_at spots file ≡ Some s → s.start ≡ row.start
  own_spot p row file s here owner at =
      let is = (spot_is table last matched wants areas news kept ready file s at).1 in
      let found : row_of table.rows matched file ≡ Some row = units-some table.rows matched file p row
      (owner_has matched p file owner) here in
      let like : IsGrown (want_at wants file) row s = MatchOption-at_some (IsAdded (want_at wants file) s) (λ r. IsGrown
      (want_at wants file) r s)
      row found is.kind in
      like.start

  old_at : (p : ℕ) (row : Row) → slice_get table.rows p ≡ Some row → (o : Option ℕ) → file_of matched p ≡ o
      → (t : Option Spot) → option_and_then (spot_at spots) o ≡ t
      → Old table.rows matched spots p (record { start = row.start; size = option_map_or (λ (s : Spot). s.size) t row.size; file = o })
  old_at p row here o owner None at = (row, here, refl, inl refl)
  old_at p row here None owner (Some s) at = absurd (let e : None ≡ Some s = at in cc)
  old_at p row here (Some file) owner (Some s) at =
      (row, here, refl, inr (file, s, at, owner_has matched p file owner, sym (own_spot p row file s here owner at), refl))

  old_row : (p : ℕ) (row : Row) → slice_get table.rows p ≡ Some row → Old table.rows matched spots p (grown_row (p, row))
  old_row p row here = old_at p row here (file_of matched p) refl (option_and_then (spot_at spots) (file_of matched p)) refl

  new_at : (n : New) (e : Extent) (o : Option Spot) → spot_at spots n.file ≡ o → slice_get matched n.file ≡ Some None
      → option_map (λ spot. record { start = spot.start; size = spot.size; file = Some n.file }) o ≡ Some e
      → Fresh matched spots n.file e
  new_at n e None at none is = absurd (let same : None ≡ Some e = is in cc)
  new_at n e (Some s) at none is =
      let made : Extent = record { start = s.start; size = s.size; file = Some n.file } in
      let whole : Some made ≡ Some e = is in
      let same : made ≡ e = cc in
      (s, at, none, sym (ap (λ (x : Extent). x.start) same), sym (ap (λ (x : Extent). x.size) same))

  new_row : (k : ℕ) (d : New) → k < length news → (e : Extent) → added spots (get_or news k d) ≡ Some e
      → Fresh matched spots (get_or news k d).file e
  new_row k d below e is = new_at (get_or news k d) e (spot_at spots (get_or news k d).file) refl (ready.are_news.unmatched k d below) is

  abbrev first_part : List Extent
  first_part = map (grown spots) (extents_of table.rows matched)

  abbrev second_part : List Extent
  second_part = filter_map (added spots) news

  olds : (P : Extent → Type 0) → ((p : ℕ) (e : Extent) → Old table.rows matched spots p e → P e) → All P first_part
  olds P each = All-map P (grown spots) (extents_of table.rows matched)
      (All-map (λ e. P (grown spots e)) (extent_of matched) (enumerate_from 0 table.rows)
      (All-enumerated (λ e. P (grown_row e)) table.rows (λ p row here. each p (grown_row (p, row)) (old_row p row here))))

  fresh : (P : Extent → Type 0) → ((file : ℕ) (e : Extent) → Fresh matched spots file e → P e) → All P second_part
  fresh P each = All-filter_map P (added spots) news (λ k d below.
      IfSome-from (added spots (get_or news k d)) P (λ e is. each (get_or news k d).file e (new_row k d below e is)))

  pub all_lawful : All Lawful (first_part ++ second_part)
  all_lawful = All-append Lawful first_part second_part (olds Lawful old_lawful)
      (fresh Lawful (λ file e new. spot_lawful file new.0 e new.1 new.3 new.4))

  pub all_clear : AllPairs Clear (first_part ++ second_part)
  all_clear = AllPairs-append Clear first_part second_part
      (AllPairs-mapped Clear (grown spots) (extents_of table.rows matched)
      (AllPairs-mapped (λ a b. Clear (grown spots a) (grown spots b)) (extent_of matched) (enumerate_from 0 table.rows)
      (AllPairs-enumerated (λ a b. Clear (grown_row a) (grown_row b)) table.rows (λ i j d before below.
      old_old i j (grown_row (i, get_or table.rows i d)) (grown_row (j, get_or table.rows j d)) (λ same. omega (arith, same, before))
      (old_row i (get_or table.rows i d) (slice_get-get_or table.rows i d (omega (arith, before, below))))
      (old_row j (get_or table.rows j d) (slice_get-get_or table.rows j d below))))))
      (AllPairs-filter_map Clear (added spots) news (λ i j d before below.
      IfSome-from (added spots (get_or news i d)) (λ y. IfSome (added spots (get_or news j d)) (Clear y)) (λ y is.
      IfSome-from (added spots (get_or news j d)) (Clear y) (λ z also.
      new_new (get_or news i d).file (get_or news j d).file y z
      (λ same. omega (arith, same, ready.are_news.rising i j d before below))
      (new_row i d (omega (arith, before, below)) y is) (new_row j d below z also)))))
      (olds (λ x. All (Clear x) second_part) (λ p e one. fresh (Clear e) (λ file f new. old_new p file e f one new)))

  -- a table whose rows are these is laid out
  pub laid_out_again : (again : Table) → again.first ≡ table.first → again.last ≡ last
      → map reach_of_row again.rows
      ≡ map reach_of (extents_after table.rows matched news spots)
      → IsLaidOut again
  laid_out_again again first end same =
      let lawful : All (λ (k : ℕ × ℕ). (1 ≤ k.1) × (table.first ≤ k.0) × (k.0 + k.1 ≤ last + 1)) (map reach_of_row again.rows) =
      subst (All (λ (k : ℕ × ℕ). (1 ≤ k.1) × (table.first ≤ k.0) × (k.0 + k.1 ≤ last + 1))) (sym same)
      (All-map (λ (k : ℕ × ℕ). (1 ≤ k.1) × (table.first ≤ k.0) × (k.0 + k.1 ≤ last + 1)) reach_of
      (first_part ++ second_part) all_lawful) in
      let rows = All-unmapped (λ (k : ℕ × ℕ). (1 ≤ k.1) × (table.first ≤ k.0) × (k.0 + k.1 ≤ last + 1)) reach_of_row again.rows
      lawful in
      let clear : AllPairs (λ (a b : ℕ × ℕ). (a.0 + a.1 ≤ b.0) ⊎ (b.0 + b.1 ≤ a.0)) (map reach_of_row again.rows) =
      subst (AllPairs (λ (a b : ℕ × ℕ). (a.0 + a.1 ≤ b.0) ⊎ (b.0 + b.1 ≤ a.0))) (sym same)
      (AllPairs-mapped (λ (a b : ℕ × ℕ). (a.0 + a.1 ≤ b.0) ⊎ (b.0 + b.1 ≤ a.0)) reach_of
      (first_part ++ second_part) all_clear) in
      record {
        sized = λ k d below. (rows k d below).0;
        in_bounds = λ k d below. let row = rows k d below in (omega (arith, row.1, first), omega (arith, row.2, end));
        apart = AllPairs-unmapped (λ (a b : ℕ × ℕ). (a.0 + a.1 ≤ b.0) ⊎ (b.0 + b.1 ≤ a.0)) reach_of_row again.rows clear;
      }
