-- Which definitions lie somewhere, and that none lies on a row that is there.
use Rattle.std.proofs.Common.{◌≡◌, ◌≢◌, ◌==◌, ℕ, ◌+◌, ◌*◌, ◌<◌, ◌≤◌, ◌⊎◌, List, length, get_or, Option, Some, None, IfSome, All, slice_get, arith, refl, ap, sym, ◌∙◌, subst, inl, inr}
use Rattle.std.specs.Prelude.{is_some}
use Rattle.std.specs.List.{Contains, cons_option, find}
use Rattle.std.specs.Option.{option_and_then, option_map_or}
use Rattle.std.proofs.lemmas.Bool.{cases_order, false≢true}
use Rattle.std.proofs.lemmas.List.Elements.{All-contains}
use Rattle.std.proofs.lemmas.Option.{get_or_from_slice_get, slice_get-get_or, slice_get_within}
use Rattle.rp_base.specs.declared.table.Row.{Row}
use Rattle.rp_base.specs.declared.table.Table.{Table}
use Rattle.rp_base.specs.declared.want.Want.{Want}
use Rattle.rp_base.specs.Table.{AreApart, IsLaidOut}
use Rattle.rp_areas.specs.declared.gaps.Area.{Area}
use Rattle.rp_areas.specs.Areas.{grains_up}
use Rattle.rp_areas.specs.Facts.{IsClear}
use Rattle.rp_areas.proofs.Public.{areas_clear}
use Rattle.rp_place.specs.declared.fit.New.{New}
use Rattle.rp_place.specs.declared.threshold.Placed.{Placed}
use Rattle.rp_layout.specs.declared.spot.Spot.{Spot}
use Rattle.rp_layout.specs.Facts.{IsReady}
use Rattle.rp_layout.specs.Layout.{spot_at}
use Rattle.rp_layout.specs.Seats.{files_at, files_in, row_of, units_at}
use Rattle.rp_layout.proofs.Files.{dropped_in, placed_in_area}
use Rattle.rp_layout.proofs.Laid.{InArea, all_files, all_in, all_named, all_spots, answer, found_at, of_found}
use Rattle.rp_layout.proofs.Lists.{Contains-cons, Contains-enumerated, IfSome-at, found_mapped, none_of, some_of}
use Rattle.rp_layout.proofs.Ready.{file_below, ready_places}
use Rattle.rp_layout.proofs.Shared.{anchor_of, units-some}

-- rows that begin at one unit are one row
pub same_place : (table : Table) → IsLaidOut table → (p q : ℕ) (a b : Row) → slice_get table.rows p ≡ Some a
    → slice_get table.rows q ≡ Some b
    → a.start ≡ b.start → p ≡ q
same_place table laid p q a b at also same =
    let at_p : get_or table.rows p a ≡ a = get_or_from_slice_get table.rows p a a at in
    let at_q : get_or table.rows q a ≡ b = get_or_from_slice_get table.rows q b a also in
    let below_p = slice_get_within table.rows p a at in
    let below_q = slice_get_within table.rows q b also in
    let some_p : 1 ≤ a.size = subst (λ (r : Row). 1 ≤ r.size) at_p (laid.sized p a below_p) in
    let some_q : 1 ≤ b.size = subst (λ (r : Row). 1 ≤ r.size) at_q (laid.sized q a below_q) in
    elim (cases_order p q) [
      | inl one ↦ one
      | inr order ↦ absurd (elim order [
        | inl before ↦
            let apart : AreApart a b = subst (λ (r : Row). AreApart r b) at_p (subst (AreApart (get_or table.rows p a)) at_q
            (laid.apart p q a before below_q)) in
            elim apart [ inl h ↦ omega (arith, h, same, some_p) | inr h ↦ omega (arith, h, same, some_q) ]
        | inr behind ↦
            let apart : AreApart b a = subst (λ (r : Row). AreApart r a) at_q (subst (AreApart (get_or table.rows q a)) at_p
            (laid.apart q p a behind below_p)) in
            elim apart [ inl h ↦ omega (arith, h, same, some_q) | inr h ↦ omega (arith, h, same, some_p) ]
      ])
    ]

module _ (table : Table) (last : ℕ) (matched : List (Option ℕ)) (wants : List Want) (areas : List Area) (news : List New) (kept : Placed)
    (ready : IsReady table last matched wants areas news kept) where
  abbrev Misses : Spot → Row → Type 0
  Misses s row = (row.start + row.size ≤ s.start) ⊎ (s.start + 8 * grains_up s.size + 8 * s.pad ≤ row.start)

  -- the anchor of an area is the row that begins it
  on_anchor : (i : ℕ) (area : Area) → slice_get areas i ≡ Some area → (file place : ℕ) (row : Row) → area.anchor ≡ Some file
      → slice_get table.rows place ≡ Some row → row.start ≡ 8 * area.from
      → (slice_get matched file ≡ Some (Some place)) × (units_at table.rows matched file ≡ row.size)
  on_anchor i area at file place row is here begins =
      let anchor = anchor_of table last matched wants areas news kept ready i area at file is in
      let one : anchor.place ≡ place = same_place table ready.laid_out anchor.place place anchor.row row anchor.found here
      (anchor.begins ∙ sym begins) in
      let found : row_of table.rows matched file ≡ Some anchor.row = units-some table.rows matched file anchor.place anchor.row anchor.has
      anchor.found in
      let both : Some anchor.row ≡ Some row = sym anchor.found ∙ ap (slice_get table.rows) one ∙ here in
      let rows : anchor.row ≡ row = cc in (
        anchor.has ∙ ap (λ (q : ℕ). Some (Some q)) one,
        ap (λ (o : Option Row). option_map_or (λ (r : Row). r.size) o 0) found ∙ ap (λ (r : Row). r.size) rows,
      )

  -- a partition is apart from each row that isn't its own
  in_area_apart : (s : Spot) → InArea table last matched wants areas news kept ready s → (place : ℕ) (row : Row)
      → slice_get table.rows place ≡ Some row → slice_get matched s.file ≢ Some (Some place) → Misses s row
  in_area_apart s is place row here other =
      let i : ℕ = is.0 in
      let area : Area = is.1 in
      let at = is.2 in
      let lies = is.3 in
      let some : 0 < area.span = omega (arith, lies.lower, lies.upper, is.6) in
      let all = areas_clear table last matched wants areas ready.are_areas ready.laid_out in
      let clear : IsClear area row =
      subst (IsClear area) (get_or_from_slice_get table.rows place row row here)
      ((subst (λ (a : Area). 0 < a.span → All (IsClear a) table.rows) (get_or_from_slice_get areas i area area at)
      (all i area (slice_get_within areas i area at))) some place row (slice_get_within table.rows place row here)) in
      elim clear [
        | inl before ↦ inl (omega (arith, before, lies.lower))
        | inr rest ↦ elim rest [
          | inl after ↦ inr (omega (arith, after, lies.upper))
          | inr anchored ↦ elim is.5 [
            | inl own ↦ absurd (other (on_anchor i area at s.file place row own.0 here anchored.1).0)
            | inr new ↦
                let named = some_of area.anchor (λ none. false≢true (ap (λ (o : Option ℕ). is_some o) (sym none) ∙ anchored.0)) in
                let own = on_anchor i area at named.0 place row named.1 here anchored.1 in
                let behind = IfSome-at area.anchor (λ file. 8 * area.from + units_at table.rows matched file ≤ s.start) named.0 named.1
                new.1 in
                inl (omega (arith, behind, own.1, anchored.1))
          ]
        ]
      ]

  pub rows_apart : (file : ℕ) (s : Spot) (place : ℕ) (row : Row) → spot_at (answer table last matched wants areas news kept ready) file ≡
      Some s
      → slice_get table.rows place ≡ Some row → slice_get matched file ≢ Some (Some place) → Misses s row
  rows_apart file s place row at here other =
      let both = of_found table last matched wants areas news kept ready (InArea table last matched wants areas news kept ready)
      (all_in table last matched wants areas news kept ready) file s at in
      in_area_apart s both.0 place row here (λ own. other (ap (slice_get matched) (sym both.1) ∙ own))

  -- a definition of an area lies somewhere
  there : (i : ℕ) (area : Area) → slice_get areas i ≡ Some area → (file : ℕ) → Contains (files_at news kept.areas (i, area)) file
      → (s : Spot) × (spot_at (answer table last matched wants areas news kept ready) file ≡ Some s)
  there i area at file has =
      let among : Contains (all_files table last matched wants areas news kept ready) file =
      Contains-enumerated (files_at news kept.areas) areas i area file at has in
      let found = found_mapped (λ (s : Spot). s.file) (all_spots table last matched wants areas news kept ready) file
      (subst (λ (fs : List ℕ). Contains fs file) (sym (all_named table last matched wants areas news kept ready)) among) in
      let below : file < length wants = All-contains (λ f. f < length wants) (files_at news kept.areas (i, area)) file
      (file_below table last matched wants areas news kept ready i area at) has in
      let want : Want = get_or wants file (record { min = 0; max = 0; weight = 0; pad_min = 0; pad_max = 0; pad_weight = 0 }) in (
        found.0,
        found_at table last matched wants areas news kept ready file
            ∙ ap (option_and_then (λ (w : Want). find (λ (s : Spot). s.file == file) (all_spots table last matched wants areas news kept
            ready)))
            (slice_get-get_or wants file (record { min = 0; max = 0; weight = 0; pad_min = 0; pad_max = 0; pad_weight = 0 }) below)
            ∙ found.1,
      )

  in_files : (o : Option ℕ) (files : List ℕ) (file : ℕ) → Contains files file → Contains (cons_option o files) file
  in_files None files file has = has
  in_files (Some f) files file has = Contains-cons file f files has

  -- an anchor lies somewhere
  pub anchor_lies : (i : ℕ) (area : Area) (file : ℕ) → slice_get areas i ≡ Some area → area.anchor ≡ Some file
      → (s : Spot) × (spot_at (answer table last matched wants areas news kept ready) file ≡ Some s)
  anchor_lies i area file at is = there i area at file
      (subst (λ (o : Option ℕ). Contains (cons_option o (files_in i news kept.areas)) file) (sym is) (0, omega arith, refl))

  -- a new definition lies somewhere where it was placed
  pub placed_lies : (k : ℕ) (n : New) (i : ℕ) → slice_get news k ≡ Some n → slice_get kept.areas k ≡ Some (Some i)
      → (s : Spot) × (spot_at (answer table last matched wants areas news kept ready) n.file ≡ Some s)
  placed_lies k n i at place =
      let inside = slice_get_within kept.areas k (Some i) place in
      let below : i < length areas = subst (λ (p : Option ℕ). IfSome p (λ a. a < length areas)) (get_or_from_slice_get kept.areas k
      (Some i) None place)
      (ready_places table last matched wants areas news kept ready k None inside) in
      let area : Area = get_or areas i (record { from = 0; span = 0; anchor = None; used = 0 }) in
      let here : slice_get areas i ≡ Some area = slice_get-get_or areas i (record { from = 0; span = 0; anchor = None; used = 0 }) below in
      there i area here n.file (in_files area.anchor (files_in i news kept.areas) n.file (placed_in_area news kept.areas k n i at place))

  -- and nowhere where it was dropped
  not_dropped : (k : ℕ) (n : New) → slice_get news k ≡ Some n → slice_get kept.areas k ≡ Some None → (s : Spot)
      → InArea table last matched wants areas news kept ready s → s.file ≡ n.file → ⊥
  not_dropped k n at place s is same = elim is.5 [
    | inl own ↦
        let anchor = anchor_of table last matched wants areas news kept ready is.0 is.1 is.2 s.file own.0 in
        let none : slice_get matched n.file ≡ Some None = subst (λ (m : New). slice_get matched m.file ≡ Some None)
        (get_or_from_slice_get news k n n at) (ready.are_news.unmatched k n (slice_get_within news k n at)) in
        let both : Some None ≡ Some (Some anchor.place) = sym none ∙ ap (slice_get matched) (sym same) ∙ anchor.has in
        (let e : None ≡ Some anchor.place = cc in cc)
    | inr new ↦ All-contains (λ f. f ≢ n.file) (files_in is.0 news kept.areas) s.file
        (dropped_in is.0 news kept.areas k n ready.are_news.rising at place) new.0 same
  ]

  pub dropped_lies : (k : ℕ) (n : New) → slice_get news k ≡ Some n → slice_get kept.areas k ≡ Some None
      → spot_at (answer table last matched wants areas news kept ready) n.file ≡ None
  dropped_lies k n at place = none_of (spot_at (answer table last matched wants areas news kept ready) n.file) (λ s is.
      let both = of_found table last matched wants areas news kept ready (InArea table last matched wants areas news kept ready)
      (all_in table last matched wants areas news kept ready) n.file s is in
      not_dropped k n at place s both.0 both.1)
