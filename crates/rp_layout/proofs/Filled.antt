-- A table with the rows after is one whose areas were filled, by the definitions' own wants.
use Rattle.std.proofs.Common.{◌≡◌, ℕ, ◌+◌, ◌-◌, ◌*◌, ◌/◌, ◌≤◌, List, [], ◌∷◌, map, Option, Some, None, Ok, Err, IsOk, All, slice_get, arith, refl, ap, sym, ◌∙◌, subst, inl, inr, is_some}
use Rattle.std.specs.List.{cons_option, enumerate_from}
use Rattle.std.specs.Option.{option_and_then, option_map_or}
use Rattle.std.specs.Prelude.{if◌then◌else◌}
use Rattle.std.proofs.lemmas.List.Elements.{All-head, All-tail}
use Rattle.std.proofs.lemmas.Option.{get_or_from_slice_get, slice_get_within}
use Rattle.rp_base.specs.declared.table.Row.{Row}
use Rattle.rp_base.specs.declared.table.Table.{Table}
use Rattle.rp_base.specs.declared.want.Want.{Want}
use Rattle.rp_areas.specs.declared.behind.Refusal.{Refusal}
use Rattle.rp_areas.specs.declared.extents.Extent.{Extent}
use Rattle.rp_areas.specs.declared.gaps.Area.{Area}
use Rattle.rp_areas.specs.declared.gaps.AreaFault.TheVariants.{Existing}
use Rattle.rp_areas.specs.Again.{AreAmong, AreStacks, IsFilled, IsStack, Piece, rows_again, rows_by_start, stacked, woven, woven_at}
use Rattle.rp_areas.specs.Areas.{anchor_of, area_before, area_behind, areas_behind, areas_of, extents_of, extent_of, grains_up, least_refusal, limit_of, refusal_of, refusals_of, refused_below, used_of, want_at}
use Rattle.rp_place.specs.declared.fit.New.{New}
use Rattle.rp_place.specs.declared.threshold.Placed.{Placed}
use Rattle.rp_layout.specs.Again.{AsksFor}
use Rattle.rp_layout.specs.Facts.{IsReady}
use Rattle.rp_layout.specs.Layout.{extents_after, reach_of, reach_of_row, stacks_of}
use Rattle.rp_layout.specs.Seats.{units_at}
use Rattle.rp_layout.proofs.After.{laid_out_again, owner_has}
use Rattle.rp_layout.proofs.Laid.{answer}
use Rattle.rp_layout.proofs.Shared.{units-some}
use Rattle.rp_layout.proofs.Stacks.{piece_of_less, stacks_are}
use Rattle.rp_layout.proofs.Weaving.{anchor_file}
use Rattle.rp_layout.proofs.Woven.{sorted_rows, woven_after}

-- the definition of an extent asks for the same
abbrev Same : List Want → List Want → Extent → Type 0
Same own wants e = (file : ℕ) → e.file ≡ Some file → want_at own file ≡ want_at wants file

-- the area behind it is then the same, and so is what is refused
module _ (own wants : List Want) (limit : ℕ) (e : Extent) (same : Same own wants e) where
  abbrev behind_by : List Want → Option ℕ → Area
  behind_by ws o = option_map_or
      (λ file. record { from = e.start / 8; span = limit - e.start / 8; anchor = Some file; used = used_of (want_at ws file) e }) o
      (record { from = grains_up (e.start + e.size); span = limit - grains_up (e.start + e.size); anchor = None; used = 0 })

  behind_same : (o : Option ℕ) → anchor_of limit e ≡ o → behind_by own o ≡ behind_by wants o
  behind_same None is = refl
  behind_same (Some file) is = ap (λ (w : Want). record {
    from = e.start / 8;
    span = limit - e.start / 8;
    anchor = Some file;
    used =
        used_of w e;
  })
      (same file (anchor_file limit e file is))

  pub area_same : area_behind own limit e ≡ area_behind wants limit e
  area_same = behind_same (anchor_of limit e) refl

  refusal_same_at : (o : Option ℕ) → e.file ≡ o
      → option_and_then (λ file. if is_some (anchor_of limit e)
      then refused_below file (4096 * used_of (want_at own file) e) (4096 * (limit - e.start / 8))
      else refused_below file (4096 * (want_at own file).min) (512 * e.size)) o
      ≡ option_and_then (λ file. if is_some (anchor_of limit e)
      then refused_below file (4096 * used_of (want_at wants file) e) (4096 * (limit - e.start / 8))
      else refused_below file (4096 * (want_at wants file).min) (512 * e.size)) o
  refusal_same_at None is = refl
  refusal_same_at (Some file) is = ap (λ (w : Want). if is_some (anchor_of limit e)
      then refused_below file (4096 * used_of w e) (4096 * (limit - e.start / 8))
      else refused_below file (4096 * w.min) (512 * e.size)) (same file is)

  pub refusal_same : refusal_of own limit e ≡ refusal_of wants limit e
  refusal_same = refusal_same_at e.file refl

module _ (last : ℕ) (own wants : List Want) where
  areas_same : (es : List Extent) → All (Same own wants) es → areas_behind last own es ≡ areas_behind last wants es
  areas_same [] each = refl
  areas_same (e ∷ es) each =
      ap (λ (a : Area). a ∷ areas_behind last own es) (area_same own wants (limit_of last es) e (All-head (Same own wants) e es each))
      ∙ ap (λ (rest : List Area). area_behind wants (limit_of last es) e ∷ rest) (areas_same es (All-tail (Same own wants) e es each))

  refusals_same : (es : List Extent) → All (Same own wants) es → refusals_of last own es ≡ refusals_of last wants es
  refusals_same [] each = refl
  refusals_same (e ∷ es) each =
      ap (λ (r : Option Refusal). cons_option r (refusals_of last own es))
      (refusal_same own wants (limit_of last es) e (All-head (Same own wants) e es each))
      ∙ ap (cons_option (refusal_of wants (limit_of last es) e)) (refusals_same es (All-tail (Same own wants) e es each))

  woven_same : (es : List Extent) (stacks : List (List Piece)) → All (Same own wants) es
      → woven last own es stacks ≡ woven last wants es stacks
  woven_same [] stacks each = refl
  woven_same (e ∷ es) [] each = refl
  woven_same (e ∷ es) (ps ∷ stacks) each =
      ap (λ (a : Area). woven_at a.anchor a.from e ps (woven last own es stacks))
      (area_same own wants (limit_of last es) e (All-head (Same own wants) e es each))
      ∙ ap (woven_at (area_behind wants (limit_of last es) e).anchor (area_behind wants (limit_of last es) e).from e ps)
      (woven_same es stacks (All-tail (Same own wants) e es each))

  module _ (less : (file : ℕ) → ((want_at own file).min ≤ (want_at wants file).min) × ((want_at own file).pad_min ≤
      (want_at wants file).pad_min))
    where
      stacks_same : (es : List Extent) (stacks : List (List Piece)) → All (Same own wants) es → AreStacks last wants es stacks
          → AreStacks last own es stacks
      stacks_same [] stacks each are = tt
      stacks_same (e ∷ es) [] each are = absurd are
      stacks_same (e ∷ es) (ps ∷ stacks) each are = (
        subst (λ (a : Area). IsStack own a ps) (sym (area_same own wants (limit_of last es) e (All-head (Same own wants) e es each)))
            (piece_of_less own wants less (area_behind wants (limit_of last es) e) ps are.0),
        stacks_same es stacks (All-tail (Same own wants) e es each) are.1,
      )

-- where a row begins and how many units it has, by its extent
reaches : (rows : List Row) (matched : List (Option ℕ)) (n : ℕ)
    → map reach_of (map (extent_of matched) (enumerate_from n rows)) ≡ map reach_of_row rows
reaches [] matched n = refl
reaches (r ∷ rows) matched n = ap (λ (rest : List (ℕ × ℕ)). reach_of_row r ∷ rest) (reaches rows matched (n + 1))

-- a new definition asks for no less than it does as it stands
asks_no_less : (own want : Want) (has : ℕ) → AsksFor own has want → (own.min ≤ want.min) × (own.pad_min ≤ want.pad_min)
asks_no_less own want has (inl same) = (omega (arith, ap (λ (w : Want). w.min) same), omega (arith, ap (λ (w : Want). w.pad_min) same))
asks_no_less own want has (inr new) = (
  new.1,
  elim new.2 [
    | inl more ↦ omega (arith, ap (λ (w : Want). w.pad_min) more)
    | inr exact ↦ omega (arith, ap (λ (w : Want). w.pad_min) exact.1)
  ],
)

module _ (table : Table) (last : ℕ) (matched : List (Option ℕ)) (wants : List Want) (areas : List Area) (news : List New) (kept : Placed)
    (ready : IsReady table last matched wants areas news kept) (own : List Want)
    (asks : (file : ℕ) → AsksFor (want_at own file) (units_at table.rows matched file) (want_at wants file)) where
  abbrev rows_now : List Extent
  rows_now = rows_by_start table matched

  -- a definition that has a row asks for the same
  has_same : (file p : ℕ) (row : Row) → slice_get matched file ≡ Some (Some p) → slice_get table.rows p ≡ Some row
      → want_at own file ≡ want_at wants file
  has_same file p row has at =
      let size : units_at table.rows matched file ≡ row.size = ap (λ (o : Option Row). option_map_or (λ (r : Row). r.size) o 0)
      (units-some table.rows matched file p row has at) in
      let some : 1 ≤ row.size = subst (λ (r : Row). 1 ≤ r.size) (get_or_from_slice_get table.rows p row row at)
      (ready.laid_out.sized p row (slice_get_within table.rows p row at)) in
      elim (asks file) [
        | inl same ↦ sym same
        | inr new ↦ absurd (omega (arith, size, some, new.0))
      ]

  rows_same : All (Same own wants) rows_now
  rows_same k d below file owns =
      let row = sorted_rows table last matched wants areas news kept ready k d below in
      has_same file row.0 row.1 (owner_has matched row.0 file (sym (ap (λ (x : Extent). x.file) row.3) ∙ owns)) row.2

  less : (file : ℕ) → ((want_at own file).min ≤ (want_at wants file).min) × ((want_at own file).pad_min ≤ (want_at wants file).pad_min)
  less file = asks_no_less (want_at own file) (want_at wants file) (units_at table.rows matched file) (asks file)

  pub areas_of_own : areas_of table last matched own ≡ areas_of table last matched wants
  areas_of_own =
      ap (λ (rs : List Refusal). option_map_or (λ r. Err (Existing r.file r.need r.have)) (least_refusal rs)
      (Ok (area_before table.first last rows_now ∷ areas_behind last own rows_now))) (refusals_same last own wants rows_now rows_same)
      ∙ ap (λ (rest : List Area). option_map_or (λ r. Err (Existing r.file r.need r.have)) (least_refusal (refusals_of last wants rows_now))
      (Ok (area_before table.first last rows_now ∷ rest))) (areas_same last own wants rows_now rows_same)

  pub filled_again : (again : Table) (rematched : List (Option ℕ)) (before : List Piece) (others : List (List Piece))
      → again.first ≡ table.first → again.last ≡ last
      → extents_of again.rows rematched ≡ extents_after table.rows matched news (answer table last matched wants areas news kept ready)
      → stacks_of table.rows matched wants areas news kept.areas ≡ before ∷ others
      → IsFilled table again last matched rematched own before others
  filled_again again rematched before others first end rows is =
      let both = stacks_are table last matched wants areas news kept ready before others is in
      let among = woven_after table last matched wants areas news kept ready before others is in
      let same : rows_again table last matched own before others ≡ rows_again table last matched wants before others =
      ap (stacked (grains_up table.first) before) (woven_same last own wants rows_now others rows_same) in
      record {
        kept = subst IsOk (sym (areas_of_own ∙ ready.are_areas)) refl;
        old = ready.laid_out;
        laid_out = laid_out_again table last matched wants areas news kept ready again first end
            (sym (reaches again.rows rematched 0) ∙ ap (map reach_of) rows);
        first = first;
        first_stack = piece_of_less own wants less (area_before table.first last rows_now) before both.0;
        other_stacks = stacks_same last own wants less rows_now others rows_same both.1;
        rows = subst (λ (xs : List Extent). AreAmong (extents_of again.rows rematched) xs) (sym same)
            (subst (λ (xs : List Extent). AreAmong xs (rows_again table last matched wants before others)) (sym rows) among.0);
        all = subst (λ (xs : List Extent). AreAmong xs (extents_of again.rows rematched)) (sym same)
            (subst (λ (xs : List Extent). AreAmong (rows_again table last matched wants before others) xs) (sym rows) among.1);
      }
