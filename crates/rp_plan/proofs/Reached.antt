-- The rows of the goal lie where partitions are laid out.
use Rattle.std.proofs.Common.{◌≡◌, ◌∙◌, ℕ, ℤ, suc, ◌+◌, Bool, true, false, cond, List, [], ◌∷◌, ◌++◌, map, Option, Some, None, arith, refl, ap, sym, slice_get}
use Rattle.std.specs.Prelude.{◌&&◌, int_le}
use Rattle.std.specs.List.{cons_option, enumerate_from, filter, filter_map}
use Rattle.std.specs.Option.{option_and_then, option_map, option_map_or}
use Rattle.std.proofs.lemmas.List.{map-append}
use Rattle.rp_base.specs.declared.table.Row.{Row}
use Rattle.rp_base.specs.declared.want.Want.{Want}
use Rattle.rp_areas.specs.Areas.{extent_of, extents_of, file_of}
use Rattle.rp_areas.specs.declared.extents.Extent.{Extent}
use Rattle.rp_place.specs.declared.fit.New.{New}
use Rattle.rp_defs.specs.declared.definition.Definition.{Definition}
use Rattle.rp_layout.specs.declared.spot.Spot.{Spot}
use Rattle.rp_layout.specs.Layout.{added, extents_after, grown, spot_at}
use Rattle.rp_sizes.specs.Needs.{is_new}
use Rattle.rp_sizes.specs.News.{new_of, news_of}
use Rattle.rp_plan.specs.Kept.{first_free, is_kept, kept_of}
use Rattle.rp_plan.specs.Rows.{row_again, row_for, rows_laid, size_of, start_of}
use Rattle.rp_plan.proofs.Listing.{map_same, maps_same}

abbrev pub reach_row : Row → ℕ × ℕ
reach_row row = (row.start, row.size)

abbrev pub reach : Extent → ℕ × ℕ
reach e = (e.start, e.size)

abbrev reach_sized : Row → ℕ → ℕ × ℕ
reach_sized row size = (row.start, size)

resized : (o : Option Spot) (row : Row)
    → reach_row (option_map_or (λ (spot : Spot). record row { size = spot.size }) o row) ≡ reach_sized row (option_map_or (λ (spot : Spot). spot.size) o row.size)
resized None row = refl
resized (Some spot) row = refl

old_reach : (matched : List (Option ℕ)) (spots : List (Option Spot)) (e : ℕ × Row)
    → reach_row (row_again matched spots e) ≡ reach (grown spots (extent_of matched e))
old_reach matched spots e = resized (option_and_then (spot_at spots) (file_of matched e.0)) e.1

-- where a kept definition lies, and that a dropped one lies nowhere
abbrev pub Lies : List (Option Spot) → ℤ → ℕ → Definition → Type 0
Lies spots t k def = (int_le def.priority t ≡ true → (s : Spot) × (spot_at spots k ≡ Some s)) × (int_le def.priority t ≡ false → spot_at spots k ≡ None)

abbrev pub reach_at : List (Option Spot) → ℕ → ℕ × ℕ
reach_at spots k = (start_of spots k, size_of spots k)

abbrev pub reach_spot : Spot → ℕ × ℕ
reach_spot s = (s.start, s.size)

pub found_reach : (spots : List (Option Spot)) (k : ℕ) (s : Spot) → spot_at spots k ≡ Some s → reach_at spots k ≡ reach_spot s
found_reach spots k s is = ap (λ (o : Option Spot). (option_map_or (λ (s : Spot). s.start) o 0, option_map_or (λ (s : Spot). s.size) o 0)) is

new_step : (spots : List (Option Spot)) (b le : Bool) (k : ℕ) (def : Definition) (need : ℕ) (slot : ℕ) (rest : List (ℕ × Definition)) (news : List New)
    → (b ≡ true → le ≡ true → (s : Spot) × (spot_at spots k ≡ Some s)) → (b ≡ true → le ≡ false → spot_at spots k ≡ None)
    → ((slot : ℕ) → map reach_row (map (row_for spots) (enumerate_from slot rest)) ≡ map reach (filter_map (added spots) news))
    → map reach_row (map (row_for spots) (enumerate_from slot (cond (b && le) ((k, def) ∷ rest) rest)))
    ≡ map reach (filter_map (added spots) (cons_option (cond b (Some (record { file = k; need = need; priority = def.priority })) None) news))
new_step spots false le k def need slot rest news has none is = is slot
new_step spots true true k def need slot rest news has none is =
    let found = has refl refl in
    ap (λ (r : ℕ × ℕ). r ∷ map reach_row (map (row_for spots) (enumerate_from (slot + 1) rest))) (found_reach spots k found.0 found.1)
    ∙ ap (λ rs. (found.0.start, found.0.size) ∷ rs) (is (slot + 1))
    ∙ ap (λ (o : Option Spot). map reach (cons_option (option_map (λ (s : Spot). record { start = s.start; size = s.size; file = Some k }) o) (filter_map (added spots) news))) (sym found.1)
new_step spots true false k def need slot rest news has none is =
    is slot
    ∙ ap (λ (o : Option Spot). map reach (cons_option (option_map (λ (s : Spot). record { start = s.start; size = s.size; file = Some k }) o) (filter_map (added spots) news))) (sym (none refl refl))

new_reach : (spots : List (Option Spot)) (matched : List (Option ℕ)) (wants : List Want) (t : ℤ) (n slot : ℕ) (defs : List Definition)
    → ((j k : ℕ) (def : Definition) → k ≡ n + j → slice_get defs j ≡ Some def → is_new matched k ≡ true → Lies spots t k def)
    → map reach_row (map (row_for spots) (enumerate_from slot (filter (is_kept matched t) (enumerate_from n defs))))
    ≡ map reach (filter_map (added spots) (filter_map (new_of matched wants) (enumerate_from n defs)))
new_reach spots matched wants t n slot [] lies = refl
new_reach spots matched wants t n slot (def ∷ defs) lies =
    new_step spots (is_new matched n) (int_le def.priority t) n def _ slot (filter (is_kept matched t) (enumerate_from (n + 1) defs))
    (filter_map (new_of matched wants) (enumerate_from (n + 1) defs))
    (λ new le. (lies 0 n def (omega arith) refl new).0 le) (λ new le. (lies 0 n def (omega arith) refl new).1 le)
    (λ s. new_reach spots matched wants t (n + 1) s defs (λ j k d e at new. lies (suc j) k d (omega (arith, e)) at new))

-- the rows of the goal reach as far as those that are laid out
pub rows_reach : (rows : List Row) (matched : List (Option ℕ)) (wants : List Want) (t : ℤ) (defs : List Definition) (spots : List (Option Spot))
    → ((k : ℕ) (def : Definition) → slice_get defs k ≡ Some def → is_new matched k ≡ true → Lies spots t k def)
    → map reach_row (rows_laid rows matched t defs spots) ≡ map reach (extents_after rows matched (news_of matched wants defs) spots)
rows_reach rows matched wants t defs spots lies =
    map-append reach_row (map (row_again matched spots) (enumerate_from 0 rows))
    (map (row_for spots) (enumerate_from (first_free rows) (kept_of matched t defs)))
    ∙ ap (λ rs. rs ++ map reach_row (map (row_for spots) (enumerate_from (first_free rows) (kept_of matched t defs))))
    (maps_same reach_row (row_again matched spots) (λ e. reach (grown spots e)) (extent_of matched) (old_reach matched spots) (enumerate_from 0 rows)
    ∙ sym (map_same reach (grown spots) (λ e. reach (grown spots e)) (λ e. refl) (extents_of rows matched)))
    ∙ ap (λ rs. map reach (map (grown spots) (extents_of rows matched)) ++ rs)
    (new_reach spots matched wants t 0 (first_free rows) defs (λ j k def e at new. lies k def (let same : k ≡ j = omega (arith, e) in rw same at) new))
    ∙ sym (map-append reach (map (grown spots) (extents_of rows matched)) (filter_map (added spots) (news_of matched wants defs)))
