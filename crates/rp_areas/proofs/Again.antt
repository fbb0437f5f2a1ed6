-- Areas behind rows that were placed in areas.
use Rattle.std.proofs.Common.{◌≡◌, ℕ, ◌+◌, ◌-◌, ◌*◌, ◌/◌, ◌%◌, ◌≤◌, ◌&&◌, true, List, [], ◌∷◌, Option, Some, None, All, arith, refl, sym, ap, ◌∙◌, eqb, leb, Bool, eq-eqb, if◌then◌else◌}
use Rattle.std.specs.Option.{is_some, option_and_then}
use Rattle.std.specs.List.{cons_option}
use Rattle.std.proofs.lemmas.Bool.{cond_both, and_parts, and_from, eqb-true, leb-true, le-leb, le-ltb}
use Rattle.std.proofs.lemmas.List.Elements.{All-head, All-tail}
use Rattle.rp_base.specs.declared.want.Want.{Want}
use Rattle.rp_areas.specs.declared.extents.Extent.{Extent}
use Rattle.rp_areas.specs.declared.gaps.Area.{Area}
use Rattle.rp_areas.specs.declared.behind.Refusal.{Refusal}
use Rattle.rp_areas.proofs.Facts.{area_with}
use Rattle.rp_areas.specs.Areas.{anchor_of, area_behind, areas_behind, grains_up, limit_of, used_of, want_at, refusal_of, refusals_of, refused_below}
use Rattle.rp_areas.specs.Again.{AreStacks, IsPiece, IsStack, Piece, areas_again, areas_of_pieces, areas_with, row_at, stacked, total, up_to, woven, woven_at}

-- where the area of a row ends before pieces and other rows
pub limit_stacked : (last from : ℕ) (ps : List Piece) (rest : List Extent)
    → limit_of last (stacked from ps rest) ≡ up_to from ps (limit_of last rest)
limit_stacked last from [] rest = refl
limit_stacked last from (p ∷ ps) rest = omega arith

-- a piece is an anchor where its whole grains end at the limit at most
piece_tests : (limit from : ℕ) (p : Piece) → from + grains_up p.units ≤ limit
    → (eqb (8 * from % 8) 0 && leb (8 * from / 8 + grains_up p.units) limit) ≡ true
piece_tests limit from p fits = and_from (eqb (8 * from % 8) 0) (leb (8 * from / 8 + grains_up p.units) limit)
    (eq-eqb (8 * from % 8) 0 (omega arith)) (le-leb (8 * from / 8 + grains_up p.units) limit (omega (arith, fits)))

piece_anchors : (limit from : ℕ) (p : Piece) → from + grains_up p.units ≤ limit → anchor_of limit (row_at from p) ≡ Some p.file
piece_anchors limit from p fits = ap (λ (b : Bool). if b then Some p.file else None) (piece_tests limit from p fits)

area_of_piece : (wants : List Want) (limit from : ℕ) (p : Piece) → from + grains_up p.units ≤ limit
    → area_behind wants limit (row_at from p) ≡ record {
      from = from;
      span = limit - from;
      anchor = Some p.file;
      used = used_of
          (want_at wants p.file) (row_at from p);
    }
area_of_piece wants limit from p fits =
    let grain : 8 * from / 8 ≡ from = omega arith in
    let at : ℕ → Area = λ n. record {
      from = n;
      span = limit - n;
      anchor = Some p.file;
      used = used_of (want_at wants p.file)
          (row_at from p);
    } in
    ap (area_with wants limit (row_at from p)) (piece_anchors limit from p fits) ∙ ap at grain

-- pieces from a grain on that fit end where the next begins, or at the limit, at most
up_to_fits : (limit from : ℕ) (ps : List Piece) → from + total ps ≤ limit → from ≤ up_to from ps limit
up_to_fits limit from [] fits = omega (arith, fits)
up_to_fits limit from (p ∷ ps) fits = omega arith

areas_stacked : (last : ℕ) (wants : List Want) (from : ℕ) (ps : List Piece) (rest : List Extent) → from + total ps ≤ limit_of last rest
    → areas_behind last wants (stacked from ps rest) ≡ areas_of_pieces wants (limit_of last rest) from ps (areas_behind last wants rest)
areas_stacked last wants from [] rest fits = refl
areas_stacked last wants from (p ∷ ps) rest fits =
    let next : ℕ = from + grains_up p.units + p.pad in
    let fit : next + total ps ≤ limit_of last rest = omega (arith, fits) in
    let limit : limit_of last (stacked next ps rest) ≡ up_to next ps (limit_of last rest) = limit_stacked last next ps rest in
    let room : next ≤ up_to next ps (limit_of last rest) = up_to_fits (limit_of last rest) next ps fit in
    let first = ap (λ (l : ℕ). area_behind wants l (row_at from p)) limit
    ∙ area_of_piece wants (up_to next ps (limit_of last rest)) from p (omega (arith, room)) in
    let others = areas_stacked last wants next ps rest fit in
    cc

-- why a row with this anchor can't stay
abbrev refusal_with : List Want → ℕ → Extent → Option ℕ → Option Refusal
refusal_with wants limit e o = option_and_then
    (λ file. if is_some o
    then refused_below file (4096 * used_of (want_at wants file) e) (4096 * (limit - e.start / 8))
    else refused_below file (4096 * (want_at wants file).min) (512 * e.size))
    e.file

-- and none of them is refused
stays : (wants : List Want) (limit from : ℕ) (p : Piece) → IsPiece wants p → from + grains_up p.units + p.pad ≤ limit
    → refusal_of wants limit (row_at from p) ≡ None
stays wants limit from p is fits =
    let need : ℕ = 4096 * used_of (want_at wants p.file) (row_at from p) in
    let enough : need ≤ 4096 * (limit - 8 * from / 8) = omega (arith, fits, is.min, is.pad_min) in
    ap (refusal_with wants limit (row_at from p)) (piece_anchors limit from p (omega (arith, fits)))
    ∙ ap (λ (b : Bool). if b then Some (record { file = p.file; need = need; have = 4096 * (limit - 8 * from / 8) }) else None)
    (le-ltb _ _ enough)

refusals_stacked : (last : ℕ) (wants : List Want) (from : ℕ) (ps : List Piece) (rest : List Extent) → All (IsPiece wants) ps
    → from + total ps ≤ limit_of last rest
    → refusals_of last wants (stacked from ps rest) ≡ refusals_of last wants rest
refusals_stacked last wants from [] rest each fits = refl
refusals_stacked last wants from (p ∷ ps) rest each fits =
    let next : ℕ = from + grains_up p.units + p.pad in
    let fit : next + total ps ≤ limit_of last rest = omega (arith, fits) in
    let limit : limit_of last (stacked next ps rest) ≡ up_to next ps (limit_of last rest) = limit_stacked last next ps rest in
    let room : next ≤ limit_of last (stacked next ps rest) = omega (arith, limit, up_to_fits (limit_of last rest) next ps fit) in
    ap (λ (r : Option Refusal). cons_option r (refusals_of last wants (stacked next ps rest)))
    (stays wants (limit_of last (stacked next ps rest)) from p (All-head (IsPiece wants) p ps each) room)
    ∙ refusals_stacked last wants next ps rest (All-tail (IsPiece wants) p ps each) fit

-- a row that is no anchor is none up to another limit that its whole grains keep only where they keep the first
still_none : (limit other : ℕ) (e : Extent) (file : Option ℕ) → (if (eqb (e.start % 8) 0) && leb (e.start / 8 + grains_up e.size) limit
    then file else None) ≡ None
    → (e.start % 8 ≡ 0 → e.start / 8 + grains_up e.size ≤ other → e.start / 8 + grains_up e.size ≤ limit)
    → (if (eqb (e.start % 8) 0) && leb (e.start / 8 + grains_up e.size) other then file else None) ≡ None
still_none limit other e None none keeps = cond_both (eqb (e.start % 8) 0 && leb (e.start / 8 + grains_up e.size) other) None None
    (λ (o : Option ℕ). o ≡ None) (λ _. refl) (λ _. refl)
still_none limit other e (Some file) none keeps =
    cond_both (eqb (e.start % 8) 0 && leb (e.start / 8 + grains_up e.size) other) (Some file) None (λ (o : Option ℕ). o ≡ None)
    (λ t.
    let both = and_parts (eqb (e.start % 8) 0) (leb (e.start / 8 + grains_up e.size) other) t in
    let begins : e.start % 8 ≡ 0 = eqb-true (e.start % 8) 0 both.0 in
    let kept : e.start / 8 + grains_up e.size ≤ limit = keeps begins (leb-true (e.start / 8 + grains_up e.size) other both.1) in
    let test : (eqb (e.start % 8) 0 && leb (e.start / 8 + grains_up e.size) limit) ≡ true = and_from (eqb (e.start % 8) 0)
    (leb (e.start / 8 + grains_up e.size) limit) both.0 (le-leb _ _ kept) in
    let some : (if (eqb (e.start % 8) 0) && leb (e.start / 8 + grains_up e.size) limit then Some file else None) ≡ Some file = ap
    (λ (b : Bool). if b then Some file else None) test in
    cc)
    (λ _. refl)

total_some : (wants : List Want) (p : Piece) (ps : List Piece) → All (IsPiece wants) (p ∷ ps) → 1 ≤ total (p ∷ ps)
total_some wants p ps each = let is = All-head (IsPiece wants) p ps each in omega (arith, is.some)

-- it is none before the pieces in the area behind it
none_before : (wants : List Want) (limit : ℕ) (e : Extent) (ps : List Piece) → anchor_of limit e ≡ None → All (IsPiece wants) ps
    → total ps ≤ limit - grains_up (e.start + e.size)
    → anchor_of (up_to (grains_up (e.start + e.size)) ps limit) e ≡ None
none_before wants limit e [] none each fits = none
none_before wants limit e (p ∷ ps) none each fits =
    still_none limit (grains_up (e.start + e.size)) e e.file none (λ begins ends. omega (arith, fits, total_some wants p ps each))

module _ (last : ℕ) (wants : List Want) (e : Extent) (limit : ℕ) (ps : List Piece) (rest : List Extent)
    (ends : limit_of last rest ≡ limit) where
  -- what is to be shown of a row with this anchor and the pieces in the area behind it
  abbrev now : Option ℕ → List Extent
  now o = woven_at (area_with wants limit e o).anchor (area_with wants limit e o).from e ps rest

  abbrev Stays : Option ℕ → Type 0
  Stays o = (limit_of last (now o) ≡ e.start / 8)
      × (areas_behind last wants (now o) ≡ areas_with wants limit (area_with wants limit e o).anchor (area_with wants limit e o).from ps
      (areas_behind last wants rest))
      × (refusals_of last wants (now o) ≡ refusals_of last wants rest)

  pub pieces_stay : (from : ℕ) (qs : List Piece) → All (IsPiece wants) qs → total qs ≤ limit - from
      → (areas_behind last wants (stacked from qs rest) ≡ areas_of_pieces wants limit from qs (areas_behind last wants rest))
      × (refusals_of last wants (stacked from qs rest) ≡ refusals_of last wants rest)
  pieces_stay from [] each fits = (refl, refl)
  pieces_stay from (p ∷ qs) each fits =
      let fit : from + total (p ∷ qs) ≤ limit_of last rest = omega (arith, fits, total_some wants p qs each, ends) in (
        areas_stacked last wants from (p ∷ qs) rest fit ∙ ap (λ (l : ℕ). areas_of_pieces wants l from (p ∷ qs)
            (areas_behind last wants rest)) ends,
        refusals_stacked last wants from (p ∷ qs) rest each fit,
      )

  row_of_none : anchor_of limit e ≡ None → refusal_of wants limit e ≡ None → IsStack wants (area_with wants limit e None) ps → Stays None
  row_of_none none kept stack =
      let from : ℕ = grains_up (e.start + e.size) in
      let to : ℕ = up_to from ps limit in
      let reaches : limit_of last (stacked from ps rest) ≡ to = limit_stacked last from ps rest ∙ ap (up_to from ps) ends in
      let still : anchor_of to e ≡ None = none_before wants limit e ps none stack.each stack.fits in
      let area : area_behind wants (limit_of last (stacked from ps rest)) e ≡ record
      { from = from; span = to - from; anchor = None; used = 0 } =
      ap (λ (l : ℕ). area_behind wants l e) reaches ∙ ap (area_with wants to e) still in
      let refusal : refusal_of wants (limit_of last (stacked from ps rest)) e ≡ None =
      ap (λ (l : ℕ). refusal_of wants l e) reaches ∙ ap (refusal_with wants to e) still ∙ sym (ap (refusal_with wants limit e) none)
      ∙ kept in
      let pieces = pieces_stay from ps stack.each stack.fits in
      let both : ◌≡◌ {A = List Area} (area_behind wants (limit_of last (stacked from ps rest)) e ∷ areas_behind last wants
      (stacked from ps rest))
      (record { from = from; span = to - from; anchor = None; used = 0 } ∷ areas_of_pieces wants limit from ps
      (areas_behind last wants rest)) =
      ap (λ (a : Area). a ∷ areas_behind last wants (stacked from ps rest)) area
      ∙ ap (λ (ys : List Area). record { from = from; span = to - from; anchor = None; used = 0 } ∷ ys) pieces.0 in
      (refl, both, ap (λ (r : Option Refusal). cons_option r (refusals_of last wants (stacked from ps rest))) refusal ∙ pieces.1)

  row_of_some : (file : ℕ) → IsStack wants (area_with wants limit e (Some file)) ps → Stays (Some file)
  row_of_some file stack =
      let from : ℕ = e.start / 8 in
      let pieces = pieces_stay from ps stack.each stack.fits in
      let first = stack.anchor in
      let starts : limit_of last (stacked from ps rest) ≡ from = limit_stacked last from ps rest
      ∙ ap (λ (qs : List Piece). up_to from qs (limit_of last rest)) first.2 in
      (starts, pieces.0, pieces.1)

  row_stays : (o : Option ℕ) → anchor_of limit e ≡ o → refusal_of wants limit e ≡ None → IsStack wants (area_with wants limit e o) ps
      → Stays o
  row_stays None is kept stack = row_of_none is kept stack
  row_stays (Some file) is kept stack = row_of_some file stack

-- none of the refusals is one
none_first : (r : Option Refusal) (rs : List Refusal) → cons_option r rs ≡ [] → (r ≡ None) × (rs ≡ [])
none_first None rs none = (refl, none)
none_first (Some r) rs none = absurd (cc)

-- the areas of a table whose rows are the old ones, the anchors as large as their pieces, and the pieces placed in its areas: none of
-- its rows is refused
pub areas_woven : (last : ℕ) (wants : List Want) (es : List Extent) (stacks : List (List Piece)) → AreStacks last wants es stacks
    → refusals_of last wants es ≡ []
    → (limit_of last (woven last wants es stacks) ≡ limit_of last es)
    × (areas_behind last wants (woven last wants es stacks) ≡ areas_again last wants es stacks)
    × (refusals_of last wants (woven last wants es stacks) ≡ [])
areas_woven last wants [] stacks are none = (refl, refl, refl)
areas_woven last wants (e ∷ es) [] are none = absurd are
areas_woven last wants (e ∷ es) (ps ∷ stacks) are none =
    let limit : ℕ = limit_of last es in
    let apart = none_first (refusal_of wants limit e) (refusals_of last wants es) none in
    let later = areas_woven last wants es stacks are.1 apart.1 in
    let here = row_stays last wants e limit ps (woven last wants es stacks) later.0 (anchor_of limit e) refl apart.0 are.0 in (
      here.0,
      here.1 ∙ ap (λ (ys : List Area). areas_with wants limit (area_behind wants limit e).anchor (area_behind wants limit e).from ps ys)
          later.1,
      here.2 ∙ later.2,
    )
