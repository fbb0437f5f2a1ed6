-- What the areas behind chained extents keep.
use Rattle.std.proofs.Common.{◌≡◌, ℕ, ◌+◌, ◌-◌, ◌*◌, ◌/◌, ◌%◌, ◌≤◌, ◌&&◌, List, [], ◌∷◌, Option, Some, None, IfSome, All, AllPairs, arith, refl, eqb, leb}
use Rattle.std.specs.Option.{option_map_or}
use Rattle.std.proofs.lemmas.Bool.{and_parts, cond_both, eqb-true, leb-true}
use Rattle.std.proofs.lemmas.List.Elements.{All-cons, All-head, All-nil, All-tail, All-weaker}
use Rattle.std.proofs.lemmas.List.Kept.{AllPairs-cons}
use Rattle.rp_base.specs.declared.want.Want.{Want}
use Rattle.rp_areas.specs.declared.extents.Extent.{Extent}
use Rattle.rp_areas.specs.declared.gaps.Area.{Area}
use Rattle.rp_areas.specs.Areas.{anchor_of, area_before, area_behind, areas_behind, grains_up, limit_of, used_of, want_at}
use Rattle.rp_areas.proofs.Chain.{IsBefore, IsChained}

-- an anchor's row is its definition's, begins at a grain and ends at the limit at most
abbrev pub Fits : ℕ → Extent → ℕ → Type 0
Fits limit e file = (e.file ≡ Some file) × (e.start % 8 ≡ 0) × (e.start / 8 + grains_up e.size ≤ limit)

some_self : (o : Option ℕ) (P : Type 0) (Q : Type 0) → P → Q → IfSome o (λ file. (o ≡ Some file) × P × Q)
some_self None P Q p q = tt
some_self (Some file) P Q p q = (refl, p, q)

pub anchor_fits : (limit : ℕ) (e : Extent) → IfSome (anchor_of limit e) (Fits limit e)
anchor_fits limit e = cond_both (eqb (e.start % 8) 0 && leb (e.start / 8 + grains_up e.size) limit) e.file None
    (λ o. IfSome o (Fits limit e))
    (λ t. let both = and_parts (eqb (e.start % 8) 0) (leb (e.start / 8 + grains_up e.size) limit) t in
    some_self e.file _ _ (eqb-true (e.start % 8) 0 both.0) (leb-true (e.start / 8 + grains_up e.size) limit both.1))
    (λ _. tt)

-- the area behind a row with this anchor
abbrev pub area_with : List Want → ℕ → Extent → Option ℕ → Area
area_with wants limit e o = option_map_or
    (λ file. record { from = e.start / 8; span = limit - e.start / 8; anchor = Some file; used = used_of (want_at wants file) e })
    o
    (record { from = grains_up (e.start + e.size); span = limit - grains_up (e.start + e.size); anchor = None; used = 0 })

-- where an area lies
pub record Lies (limit : ℕ) (e : Extent) (a : Area) : Type 0 where
  pub low : e.start ≤ 8 * a.from
  pub up : grains_up e.start ≤ a.from
  pub high : a.from ≤ grains_up (e.start + e.size)
  pub span : a.span ≡ limit - a.from

lies_with : (wants : List Want) (limit : ℕ) (e : Extent) (o : Option ℕ) → IfSome o (Fits limit e) → Lies limit e (area_with wants limit e o)
lies_with wants limit e None fits = record { low = omega arith; up = omega arith; high = omega arith; span = refl }
lies_with wants limit e (Some file) fits = record {
  low = omega (arith, fits.1);
  up = omega (arith, fits.1);
  high = omega arith;
  span =
      refl;
}

pub lies : (wants : List Want) (limit : ℕ) (e : Extent) → Lies limit e (area_behind wants limit e)
lies wants limit e = lies_with wants limit e (anchor_of limit e) (anchor_fits limit e)

-- areas behind extents from a grain on begin at it or later
from_grain : (last : ℕ) (wants : List Want) (n : ℕ) (es : List Extent) → All (λ (e : Extent). n ≤ grains_up e.start) es
    → All (λ (a : Area). n ≤ a.from) (areas_behind last wants es)
from_grain last wants n [] each = All-nil (λ (a : Area). n ≤ a.from)
from_grain last wants n (e ∷ es) each =
    let here : n ≤ grains_up e.start = All-head (λ (f : Extent). n ≤ grains_up f.start) e es each in
    let l = lies wants (limit_of last es) e in
    All-cons (λ (a : Area). n ≤ a.from) (area_behind wants (limit_of last es) e) (areas_behind last wants es) (omega (arith, here, l.up))
    (from_grain last wants n es (All-tail (λ (f : Extent). n ≤ grains_up f.start) e es each))

-- an area ends before another begins
abbrev pub EndsBefore : Area → Area → Type 0
EndsBefore a b = a.from + a.span ≤ b.from

ends_before : (last : ℕ) (wants : List Want) (a : Area) (es : List Extent) → a.span ≡ limit_of last es - a.from
    → All (λ (e : Extent). a.from ≤ grains_up e.start) es → IsChained es
    → All (EndsBefore a) (areas_behind last wants es)
ends_before last wants a [] span each chain = All-nil (EndsBefore a)
ends_before last wants a (e ∷ es) span each chain =
    let here : a.from ≤ grains_up e.start = All-head (λ (f : Extent). a.from ≤ grains_up f.start) e es each in
    let end : a.from + a.span ≤ grains_up e.start = omega (arith, here, span) in
    from_grain last wants (a.from + a.span) (e ∷ es) (All-cons (λ (f : Extent). a.from + a.span ≤ grains_up f.start) e es end
    (All-weaker (IsBefore e) (λ (f : Extent). a.from + a.span ≤ grains_up f.start) (λ f h. omega (arith, end, h)) es chain.0))

apart_behind : (last : ℕ) (wants : List Want) (es : List Extent) → IsChained es → AllPairs EndsBefore (areas_behind last wants es)
apart_behind last wants [] chain = λ i j d before below. absurd (omega (arith, below))
apart_behind last wants (e ∷ es) chain =
    let l = lies wants (limit_of last es) e in
    AllPairs-cons EndsBefore (area_behind wants (limit_of last es) e) (areas_behind last wants es)
    (ends_before last wants (area_behind wants (limit_of last es) e) es l.span
    (All-weaker (IsBefore e) (λ (f : Extent). (area_behind wants (limit_of last es) e).from ≤ grains_up f.start)
    (λ f h. omega (arith, h, l.high)) es chain.0) chain.1)
    (apart_behind last wants es chain.1)

pub apart_all : (first last : ℕ) (wants : List Want) (es : List Extent) → IsChained es → All (λ (e : Extent). first ≤ e.start) es
    → AllPairs EndsBefore (area_before first last es ∷ areas_behind last wants es)
apart_all first last wants es chain from = AllPairs-cons EndsBefore (area_before first last es) (areas_behind last wants es)
    (ends_before last wants (area_before first last es) es refl (All-weaker (λ (e : Extent). first ≤ e.start)
    (λ (f : Extent). grains_up first ≤ grains_up f.start) (λ f h. omega (arith, h)) es from) chain)
    (apart_behind last wants es chain)
