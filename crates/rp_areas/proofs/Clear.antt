-- What the areas of a laid out table keep clear of, and what their anchors are.
use Rattle.std.proofs.Common.{◌≡◌, ℕ, ◌+◌, ◌-◌, ◌*◌, ◌/◌, ◌<◌, ◌≤◌, ◌⊎◌, Bool, true, false, cond, List, [], ◌∷◌, get_or, slice_get, fold, Option, Some, None, IfSome, IsSome, All, arith, refl, sym, ap, ◌∙◌, inl, inr, max, nat_lt}
use Rattle.std.specs.List.{cons_option}
use Rattle.std.specs.Option.{option_and_then, is_some}
use Rattle.std.proofs.lemmas.Bool.{ltb-false}
use Rattle.std.proofs.lemmas.List.Elements.{All-cons, All-head, All-nil, All-tail, All-weaker}
use Rattle.rp_base.specs.declared.table.Row.{Row}
use Rattle.rp_base.specs.declared.want.Want.{Want}
use Rattle.rp_areas.specs.declared.behind.Refusal.{Refusal}
use Rattle.rp_areas.specs.declared.extents.Extent.{Extent}
use Rattle.rp_areas.specs.declared.gaps.Area.{Area}
use Rattle.rp_areas.specs.Areas.{anchor_of, area_before, area_behind, areas_behind, grains_up, least_refusal, lesser, limit_of, refusal_of, refusals_of, refused_below, used_of, want_at}
use Rattle.rp_areas.specs.Facts.{IsAnchored, IsWithin}
use Rattle.rp_areas.proofs.Chain.{IsBefore, IsChained}
use Rattle.rp_areas.proofs.Facts.{Fits, anchor_fits, area_with, lies}

-- Bounds.

small_limit : (last : ℕ) (es : List Extent) → All (λ (e : Extent). e.start ≤ last + 1) es → 8 * limit_of last es ≤ last + 1
small_limit last [] each = omega arith
small_limit last (e ∷ es) each = omega (arith, All-head (λ (f : Extent). f.start ≤ last + 1) e es each)

within_behind : (first last : ℕ) (wants : List Want) (es : List Extent) → All (λ (e : Extent). first ≤ e.start) es
    → All (λ (e : Extent). e.start ≤ last + 1) es
    → All (IsWithin first last) (areas_behind last wants es)
within_behind first last wants [] from to = All-nil (IsWithin first last)
within_behind first last wants (e ∷ es) from to =
    let l = lies wants (limit_of last es) e in
    let small : 8 * limit_of last es ≤ last + 1 = small_limit last es (All-tail (λ (f : Extent). f.start ≤ last + 1) e es to) in
    let here : first ≤ e.start = All-head (λ (f : Extent). first ≤ f.start) e es from in
    All-cons (IsWithin first last) (area_behind wants (limit_of last es) e) (areas_behind last wants es)
    (omega (arith, here, l.low), λ some. omega (arith, some, small, l.span))
    (within_behind first last wants es (All-tail (λ (f : Extent). first ≤ f.start) e es from)
    (All-tail (λ (f : Extent). f.start ≤ last + 1) e es to))

pub within_all : (first last : ℕ) (wants : List Want) (es : List Extent) → All (λ (e : Extent). first ≤ e.start) es
    → All (λ (e : Extent). e.start ≤ last + 1) es
    → All (IsWithin first last) (area_before first last es ∷ areas_behind last wants es)
within_all first last wants es from to =
    let small : 8 * limit_of last es ≤ last + 1 = small_limit last es to in
    All-cons (IsWithin first last) (area_before first last es) (areas_behind last wants es)
    (omega arith, λ some. omega (arith, some, small)) (within_behind first last wants es from to)

-- What is used fits, where nothing is refused.

abbrev refusal_with : List Want → ℕ → Extent → Option ℕ → Option ℕ → Option Refusal
refusal_with wants limit e o f = option_and_then
    (λ file. cond (is_some o)
    (refused_below file (4096 * used_of (want_at wants file) e) (4096 * (limit - e.start / 8)))
    (refused_below file (4096 * (want_at wants file).min) (512 * e.size)))
    f

not_taken : {X : Type 0} (b : Bool) (x : X) → cond b (Some x) None ≡ None → b ≡ false
not_taken true x h = absurd (let k : Some x ≡ None = h in cc)
not_taken false x h = refl

used_with : (wants : List Want) (limit : ℕ) (e : Extent) (o f : Option ℕ) → IfSome o (λ file. f ≡ Some file)
    → refusal_with wants limit e o f ≡ None
    → (area_with wants limit e o).used ≤ (area_with wants limit e o).span
used_with wants limit e None f same none = omega arith
used_with wants limit e (Some file) f same none =
    let need : ℕ = used_of (want_at wants file) e in
    let enough : 4096 * need ≤ 4096 * (limit - e.start / 8) =
    ltb-false (4096 * (limit - e.start / 8)) (4096 * need) (not_taken _ _
    (ap (refusal_with wants limit e (Some file)) (sym same) ∙ none)) in
    omega (arith, enough)

fits_file : (limit : ℕ) (e : Extent) (o : Option ℕ) → IfSome o (Fits limit e) → IfSome o (λ file. e.file ≡ Some file)
fits_file limit e None fits = tt
fits_file limit e (Some file) fits = fits.0

no_option : {X : Type 0} (o : Option X) (xs : List X) → cons_option o xs ≡ [] → (o ≡ None) × (xs ≡ [])
no_option None xs h = (refl, h)
no_option (Some x) xs h = absurd (let k : x ∷ xs ≡ [] = h in cc)

used_behind : (last : ℕ) (wants : List Want) (es : List Extent) → refusals_of last wants es ≡ []
    → All (λ (a : Area). a.used ≤ a.span) (areas_behind last wants es)
used_behind last wants [] none = All-nil (λ (a : Area). a.used ≤ a.span)
used_behind last wants (e ∷ es) none =
    let split = no_option (refusal_of wants (limit_of last es) e) (refusals_of last wants es) none in
    All-cons (λ (a : Area). a.used ≤ a.span) (area_behind wants (limit_of last es) e) (areas_behind last wants es)
    (used_with wants (limit_of last es) e (anchor_of (limit_of last es) e) e.file
    (fits_file (limit_of last es) e (anchor_of (limit_of last es) e) (anchor_fits (limit_of last es) e)) split.0)
    (used_behind last wants es split.1)

stays_some : (b : Refusal) (rs : List Refusal) → fold lesser (Some b) rs ≡ None → ⊥
stays_some b [] h = let k : Some b ≡ None = h in cc
stays_some b (r ∷ rs) h = stays_some (cond (nat_lt r.file b.file) r b) rs h

pub none_refused : (rs : List Refusal) → least_refusal rs ≡ None → rs ≡ []
none_refused [] h = refl
none_refused (r ∷ rs) h = absurd (stays_some r rs h)

pub used_all : (first last : ℕ) (wants : List Want) (es : List Extent) → least_refusal (refusals_of last wants es) ≡ None
    → All (λ (a : Area). a.used ≤ a.span) (area_before first last es ∷ areas_behind last wants es)
used_all first last wants es none = All-cons (λ (a : Area). a.used ≤ a.span) (area_before first last es) (areas_behind last wants es)
    (omega arith)
    (used_behind last wants es (none_refused (refusals_of last wants es) none))

-- Anchors.

-- an extent is the row of its definition
abbrev pub Comes : List Row → List (Option ℕ) → Extent → Type 0
Comes rows matched e = IfSome e.file (λ file. (place : ℕ) × (row : Row) × (slice_get matched file ≡ Some (Some place)) × (slice_get rows
    place ≡ Some row) × (row.start ≡ e.start) × (row.size ≡ e.size))

anchored_with : (rows : List Row) (matched : List (Option ℕ)) (wants : List Want) (limit : ℕ) (e : Extent) (o : Option ℕ)
    → Comes rows matched e → IfSome o (Fits limit e)
    → IsAnchored rows matched wants (area_with wants limit e o)
anchored_with rows matched wants limit e None comes fits = refl
anchored_with rows matched wants limit e (Some file) comes fits =
    let at : (place : ℕ) × (row : Row) × (slice_get matched file ≡ Some (Some place)) × (slice_get rows place ≡ Some
    row) × (row.start ≡ e.start) × (row.size ≡ e.size) = rw fits.0 at comes in
    record {
      place = at.0;
      row = at.1;
      has = at.2;
      found = at.3;
      begins = omega (arith, at.4, fits.1);
      uses = ap (λ (size : ℕ). max (grains_up size) (want_at wants file).min + (want_at wants file).pad_min) (sym at.5);
    }

anchored_behind : (rows : List Row) (matched : List (Option ℕ)) (last : ℕ) (wants : List Want) (es : List Extent)
    → All (Comes rows matched) es → All (IsAnchored rows matched wants) (areas_behind last wants es)
anchored_behind rows matched last wants [] each = All-nil (IsAnchored rows matched wants)
anchored_behind rows matched last wants (e ∷ es) each =
    All-cons (IsAnchored rows matched wants) (area_behind wants (limit_of last es) e) (areas_behind last wants es)
    (anchored_with rows matched wants (limit_of last es) e (anchor_of (limit_of last es) e) (All-head (Comes rows matched) e es each)
    (anchor_fits (limit_of last es) e))
    (anchored_behind rows matched last wants es (All-tail (Comes rows matched) e es each))

pub anchored_all : (rows : List Row) (matched : List (Option ℕ)) (first last : ℕ) (wants : List Want) (es : List Extent)
    → All (Comes rows matched) es
    → All (IsAnchored rows matched wants) (area_before first last es ∷ areas_behind last wants es)
anchored_all rows matched first last wants es each = All-cons (IsAnchored rows matched wants) (area_before first last es)
    (areas_behind last wants es) refl (anchored_behind rows matched last wants es each)

-- Clear of rows.

-- as for a row
abbrev pub Misses : Area → Extent → Type 0
Misses area e = (e.start + e.size ≤ 8 * area.from) ⊎ ((8 * (area.from + area.span) ≤ e.start) ⊎ (IsSome
    area.anchor × (e.start ≡ 8 * area.from) × (e.size ≤ 8 * area.used)))

own_with : (wants : List Want) (limit : ℕ) (e : Extent) (o : Option ℕ) → IfSome o (Fits limit e) → Misses (area_with wants limit e o) e
own_with wants limit e None fits = inl (omega arith)
own_with wants limit e (Some file) fits = inr (inr (refl, omega (arith, fits.1), omega arith))

-- an area with grains ends before the extents that follow
later_missed : (last : ℕ) (a : Area) (es : List Extent) → a.span ≡ limit_of last es - a.from → 0 < a.span → IsChained es → All (Misses a) es
later_missed last a [] span some chain = All-nil (Misses a)
later_missed last a (e ∷ es) span some chain =
    let here : 8 * (a.from + a.span) ≤ e.start = omega (arith, span, some) in
    All-cons (Misses a) e es (inr (inl here)) (All-weaker (IsBefore e) (Misses a) (λ f h. inr (inl (omega (arith, here, h)))) es chain.0)

-- areas behind later extents begin behind an earlier one
earlier_missed : (last : ℕ) (wants : List Want) (end : ℕ) (es : List Extent) → All (λ (e : Extent). end ≤ e.start) es
    → All (λ (a : Area). end ≤ 8 * a.from) (areas_behind last wants es)
earlier_missed last wants end [] each = All-nil (λ (a : Area). end ≤ 8 * a.from)
earlier_missed last wants end (e ∷ es) each =
    let here : end ≤ e.start = All-head (λ (f : Extent). end ≤ f.start) e es each in
    let l = lies wants (limit_of last es) e in
    All-cons (λ (a : Area). end ≤ 8 * a.from) (area_behind wants (limit_of last es) e) (areas_behind last wants es)
    (omega (arith, here, l.low))
    (earlier_missed last wants end es (All-tail (λ (f : Extent). end ≤ f.start) e es each))

clear_behind : (last : ℕ) (wants : List Want) (es : List Extent) → IsChained es
    → All (λ (a : Area). 0 < a.span → All (Misses a) es) (areas_behind last wants es)
clear_behind last wants [] chain = All-nil (λ (a : Area). 0 < a.span → All (Misses a) [])
clear_behind last wants (e ∷ es) chain =
    let l = lies wants (limit_of last es) e in
    let rest : All (λ (a : Area). 0 < a.span → All (Misses a) es) (areas_behind last wants es) = clear_behind last wants es chain.1 in
    let past : All (λ (a : Area). e.start + e.size ≤ 8 * a.from) (areas_behind last wants es) = earlier_missed last wants
    (e.start + e.size) es chain.0 in
    All-cons (λ (a : Area). 0 < a.span → All (Misses a) (e ∷ es)) (area_behind wants (limit_of last es) e) (areas_behind last wants es)
    (λ some. All-cons (Misses (area_behind wants (limit_of last es) e)) e es
    (own_with wants (limit_of last es) e (anchor_of (limit_of last es) e) (anchor_fits (limit_of last es) e))
    (later_missed last (area_behind wants (limit_of last es) e) es l.span some chain.1))
    (λ k d below some. All-cons (Misses (get_or (areas_behind last wants es) k d)) e es (inl (past k d below)) (rest k d below some))

pub clear_all : (first last : ℕ) (wants : List Want) (es : List Extent) → IsChained es
    → All (λ (a : Area). 0 < a.span → All (Misses a) es) (area_before first last es ∷ areas_behind last wants es)
clear_all first last wants es chain = All-cons (λ (a : Area). 0 < a.span → All (Misses a) es) (area_before first last es)
    (areas_behind last wants es)
    (λ some. later_missed last (area_before first last es) es refl some chain) (clear_behind last wants es chain)
