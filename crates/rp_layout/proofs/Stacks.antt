-- The partitions of each area are a stack.
use Rattle.std.proofs.Common.{◌≡◌, ℕ, ◌+◌, ◌≤◌, List, [], ◌∷◌, length, get_or, map, max, Option, Some, None, Result, Ok, Err, IfSome, All, slice_get, arith, refl, ap, sym, ◌∙◌, subst}
use Rattle.std.specs.List.{Contains, cons_option, enumerate_from}
use Rattle.std.specs.Option.{option_map_or}
use Rattle.std.proofs.lemmas.List.Elements.{All-contains, All-head, All-tail, All-weaker}
use Rattle.rp_base.specs.declared.table.Table.{Table}
use Rattle.rp_base.specs.declared.want.Want.{Want}
use Rattle.rp_areas.specs.declared.behind.Refusal.{Refusal}
use Rattle.rp_areas.specs.declared.extents.Extent.{Extent}
use Rattle.rp_areas.specs.declared.gaps.Area.{Area}
use Rattle.rp_areas.specs.declared.gaps.AreaFault.{AreaFault}
use Rattle.rp_areas.specs.declared.gaps.AreaFault.TheVariants.{Existing}
use Rattle.rp_areas.specs.Again.{AreStacks, IsPiece, IsStack, Piece, rows_by_start}
use Rattle.rp_areas.specs.Areas.{area_before, area_behind, areas_behind, areas_of, grains_up, least_refusal, limit_of, refusals_of, want_at}
use Rattle.rp_place.specs.declared.fit.New.{New}
use Rattle.rp_place.specs.declared.threshold.Placed.{Placed}
use Rattle.rp_layout.specs.Facts.{IsReady}
use Rattle.rp_layout.specs.Layout.{stack_in, stacks_of}
use Rattle.rp_layout.specs.Seats.{files_in, items_of, pieces_of, units_at}
use Rattle.rp_layout.proofs.Lists.{All-enumerated, mapped_Contains}
use Rattle.rp_layout.proofs.Shared.{files_here, named_pieces, one_each_here, pieces_here, shared_pieces, shares_here, sized, total_here}
use Rattle.rp_layout.proofs.Shares.{IsShared, seat}

-- an anchor is the first of its area
first_is : (wants : List Want) (has : ℕ → ℕ) (o : Option ℕ) (files shares : List ℕ)
    → length shares ≡ length (items_of (map (seat wants has) (cons_option o files)))
    → IfSome o (λ file. (p : Piece) × (qs : List Piece) × (pieces_of (map (seat wants has) (cons_option o files)) shares ≡ p ∷ qs) ×
    (p.file ≡ file))
first_is wants has None files shares each = tt
first_is wants has (Some file) files [] each = absurd (omega (arith, each))
first_is wants has (Some file) files (x ∷ []) each = absurd (omega (arith, each))
first_is wants has (Some file) files (x ∷ y ∷ shares) each = (_, pieces_of (map (seat wants has) files) shares, refl, refl)

-- what areas are answered are those between the rows
answered : (o : Option Refusal) (ys areas : List Area) → option_map_or (λ r. Err (Existing r.file r.need r.have)) o (Ok ys) ≡ Ok areas
    → ys ≡ areas
answered None ys areas is = let e : ◌≡◌ {A = Result (List Area) AreaFault} (Ok ys) (Ok areas) = is in cc
answered (Some r) ys areas is = absurd (let e : ◌≡◌ {A = Result (List Area) AreaFault} (Err (Existing r.file r.need r.have))
    (Ok areas) = is in cc)

pub areas_are : (table : Table) (last : ℕ) (matched : List (Option ℕ)) (wants : List Want) (areas : List Area)
    → areas_of table last matched wants ≡ Ok areas
    → area_before table.first last (rows_by_start table matched) ∷ areas_behind last wants (rows_by_start table matched) ≡ areas
areas_are table last matched wants areas is =
    answered (least_refusal (refusals_of last wants (rows_by_start table matched)))
    (area_before table.first last (rows_by_start table matched) ∷ areas_behind last wants (rows_by_start table matched)) areas is

stacks_behind : (last : ℕ) (wants : List Want) (f : ℕ × Area → List Piece) (n : ℕ) (es : List Extent)
    → All (λ e. IsStack wants e.1 (f e)) (enumerate_from n (areas_behind last wants es))
    → AreStacks last wants es (map f (enumerate_from n (areas_behind last wants es)))
stacks_behind last wants f n [] each = tt
stacks_behind last wants f n (e ∷ es) each =
    let here : Area = area_behind wants (limit_of last es) e in
    let rest : List (ℕ × Area) = enumerate_from (n + 1) (areas_behind last wants es) in (
      All-head (λ a. IsStack wants a.1 (f a)) (n, here) rest each,
      stacks_behind last wants f (n + 1) es (All-tail (λ a. IsStack wants a.1
          (f a)) (n, here) rest each),
    )

split : (last first : ℕ) (wants : List Want) (f : ℕ × Area → List Piece) (es : List Extent) (before : List Piece) (others : List
    (List Piece))
    → All (λ e. IsStack wants e.1 (f e)) (enumerate_from 0 (area_before first last es ∷ areas_behind last wants es))
    → map f (enumerate_from 0 (area_before first last es ∷ areas_behind last wants es)) ≡ before ∷ others
    → IsStack wants (area_before first last es) before × AreStacks last wants es others
split last first wants f es before others each is =
    let rest : List (ℕ × Area) = enumerate_from 1 (areas_behind last wants es) in
    let whole : f (0, area_before first last es) ∷ map f rest ≡ before ∷ others = is in
    let one : f (0, area_before first last es) ≡ before = cc in
    let more : map f rest ≡ others = cc in (
      subst (IsStack wants (area_before first last es)) one (All-head (λ a. IsStack wants a.1 (f a))
          (0, area_before first last es) rest each),
      subst (AreStacks last wants es) more (stacks_behind last wants f 1 es (All-tail (λ a. IsStack wants a.1 (f a))
          (0, area_before first last es) rest each)),
    )

-- pieces keep to what is asked for where that is no more
pub piece_of_less : (own wants : List Want) → ((file : ℕ) → ((want_at own file).min ≤ (want_at wants file).min) ×
    ((want_at own file).pad_min ≤ (want_at wants file).pad_min))
    → (area : Area) (ps : List Piece) → IsStack wants area ps → IsStack own area ps
piece_of_less own wants less area ps stack = record {
  fits = stack.fits;
  each = All-weaker (IsPiece wants) (IsPiece own)
      (λ p is. record {
        some = is.some;
        min = omega (arith, is.min, (less p.file).0);
        pad_min = omega (
          arith,
          is.pad_min,
          (less p.file).1,
        );
      }) ps stack.each;
  anchor = stack.anchor;
}

module _ (table : Table) (last : ℕ) (matched : List (Option ℕ)) (wants : List Want) (areas : List Area) (news : List New) (kept : Placed)
    (ready : IsReady table last matched wants areas news kept) where
  pub stack_is : (i : ℕ) (area : Area) → slice_get areas i ≡ Some area
      → IsStack wants area (stack_in table.rows matched wants news kept.areas (i, area))
  stack_is i area at =
      let own : ℕ → ℕ = units_at table.rows matched in
      let files : List ℕ = files_here table last matched wants areas news kept ready i area at in
      let pieces : List Piece = pieces_here table last matched wants areas news kept ready i area at in
      let shared = shared_pieces table last matched wants areas news kept ready i area at in
      let named : map (λ (p : Piece). p.file) pieces ≡ files = named_pieces table last matched wants areas news kept ready i area at in
      let grains = sized table last matched wants areas news kept ready i area at area.anchor refl in
      record {
        fits = total_here table last matched wants areas news kept ready i area at;
        each = λ k d below.
            let p : Piece = get_or pieces k d in
            let is : IsShared (want_at wants p.file) (own p.file) p.units p.pad = shared k d below in
            let listed : Contains files p.file = subst (λ (fs : List ℕ). Contains fs p.file) named (mapped_Contains (λ
            (q : Piece). q.file) pieces k d below) in
            let some : 1 ≤ max (grains_up (own p.file)) (want_at wants p.file).min =
            All-contains (λ f. 1 ≤ max (grains_up (own f)) (want_at wants f).min) files p.file grains listed in
            record { some = omega (arith, some, is.least, is.min); min = is.min; pad_min = is.pad_min };
        anchor = first_is wants own area.anchor (files_in i news kept.areas)
            (shares_here table last matched wants areas news kept ready i area at) (one_each_here table last matched wants areas news kept
            ready i area at);
      }

  pub stacks_are : (before : List Piece) (others : List (List Piece))
      → stacks_of table.rows matched wants areas news kept.areas ≡ before ∷ others
      → IsStack wants (area_before table.first last (rows_by_start table matched)) before
      × AreStacks last wants (rows_by_start table matched) others
  stacks_are before others is =
      let f : ℕ × Area → List Piece = stack_in table.rows matched wants news kept.areas in
      let all = areas_are table last matched wants areas ready.are_areas in
      split last table.first wants f (rows_by_start table matched) before others
      (subst (λ (rest : List Area). All (λ e. IsStack wants e.1 (f e)) (enumerate_from 0 rest)) (sym all)
      (All-enumerated (λ e. IsStack wants e.1 (f e)) areas stack_is))
      (ap (λ (rest : List Area). map f (enumerate_from 0 rest)) all ∙ is)
