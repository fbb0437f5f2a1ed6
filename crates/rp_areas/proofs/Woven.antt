-- Rows by rising start are one list.
use Rattle.std.proofs.Common.{get_or, ◌≡◌, ℕ, ◌+◌, ◌-◌, ◌*◌, ◌/◌, ◌<◌, ◌≤◌, ◌⊎◌, List, [], ◌∷◌, Option, Some, None, IfSome, Result, Ok, Err, All, AllPairs, arith, refl, ap, ◌∙◌, inl, inr}
use Rattle.std.specs.Option.{option_map_or}
use Rattle.std.proofs.lemmas.List.Elements.{All-cons, All-contains, All-head, All-nil, All-tail, All-weaker, Contains-get_or}
use Rattle.rp_base.specs.declared.want.Want.{Want}
use Rattle.rp_base.specs.declared.table.Table.{Table}
use Rattle.rp_areas.specs.declared.extents.Extent.{Extent}
use Rattle.rp_areas.specs.declared.gaps.Area.{Area}
use Rattle.rp_areas.specs.declared.gaps.AreaFault.{AreaFault}
use Rattle.rp_areas.specs.declared.gaps.AreaFault.TheVariants.{Existing}
use Rattle.rp_areas.specs.declared.behind.Refusal.{Refusal}
use Rattle.rp_areas.specs.Areas.{anchor_of, area_before, areas_behind, areas_of, by_start, extents_of, grains_up, least_refusal, limit_of, refusals_of}
use Rattle.rp_areas.specs.Again.{AreAmong, AreStacks, IsFilled, IsPiece, IsStack, Piece, areas_again, areas_filled, areas_of_pieces, row_at, rows_again, rows_by_start, stacked, total, up_to, woven, woven_at}
use Rattle.rp_areas.proofs.Again.{areas_woven, pieces_stay, limit_stacked}
use Rattle.rp_areas.proofs.Chain.{AllPairs-head, AllPairs-tail, IsApart, IsBefore, IsChained, IsChained-by_start, IsSized}
use Rattle.rp_areas.proofs.Clear.{none_refused}
use Rattle.rp_areas.proofs.Facts.{anchor_fits, area_with, Fits}
use Rattle.rp_areas.proofs.Order.{All-by_start}
use Rattle.rp_base.specs.Table.{IsLaidOut}
use Rattle.rp_areas.proofs.Laid.{apart, chained, from_by_start, least_none, sized}

-- a start above a number
abbrev pub Above : ℕ → Extent → Type 0
Above n e = n < e.start

-- starts rise
abbrev pub IsRising : List Extent → Type 0
IsRising [] = Unit {0}
IsRising (e ∷ es) = All (Above e.start) es × IsRising es

-- what holds of each of the second holds of each of the first
abbrev pub Covers : List Extent → List Extent → Type 1
Covers fs es = (P : Extent → Type 0) → All P es → All P fs

same_first : (e f : Extent) (es fs : List Extent) → IsRising (e ∷ es) → IsRising (f ∷ fs) → Covers (f ∷ fs) (e ∷ es)
    → Covers (e ∷ es) (f ∷ fs) → f ≡ e
same_first e f es fs up_e up_f into back =
    let P : Extent → Type 0 = λ x. (x ≡ e) ⊎ (e.start < x.start) in
    let Q : Extent → Type 0 = λ x. (f.start ≤ x.start) in
    let one : (f ≡ e) ⊎ (e.start < f.start) = All-head P f fs (into P (All-cons P e es (inl refl)
    (All-weaker (Above e.start) P (λ x h. inr h) es up_e.0))) in
    let other : f.start ≤ e.start = All-head Q e es (back Q (All-cons Q f fs (omega arith)
    (All-weaker (Above f.start) Q (λ x h. omega (arith, h)) fs up_f.0))) in
    elim one [ inl same ↦ same | inr later ↦ absurd (omega (arith, later, other)) ]

-- one list is among the rest of another, if it is among all and begins behind the first
among_rest : (e : Extent) (es fs : List Extent) → All (Above e.start) fs → ((P : Extent → Type 0) → All P (e ∷ es) → All P fs)
    → Covers fs es
among_rest e es fs behind into P each k d below =
    let Q : Extent → Type 0 = λ x. (x ≡ e) ⊎ P x in
    let all : All Q fs = into Q (All-cons Q e es (inl refl) (All-weaker P Q (λ x h. inr h) es each)) in
    elim (all k d below) [
      | inl same ↦ let start = ap (λ (x : Extent). x.start) same in absurd (omega (arith, start, behind k d below))
      | inr holds ↦ holds
    ]

pub rising_once : (es fs : List Extent) → IsRising es → IsRising fs → Covers fs es → Covers es fs → fs ≡ es
rising_once [] [] up_e up_f into back = refl
rising_once [] (f ∷ fs) up_e up_f into back = absurd (All-head (λ (x : Extent). ⊥) f fs
    (into (λ (x : Extent). ⊥) (All-nil (λ (x : Extent). ⊥))))
rising_once (e ∷ es) [] up_e up_f into back = absurd (All-head (λ (x : Extent). ⊥) e es
    (back (λ (x : Extent). ⊥) (All-nil (λ (x : Extent). ⊥))))
rising_once (e ∷ es) (f ∷ fs) up_e up_f into back =
    let same : f ≡ e = same_first e f es fs up_e up_f into back in
    let start : f.start ≡ e.start = ap (λ (x : Extent). x.start) same in
    let behind_e : All (Above e.start) fs = All-weaker (Above f.start) (Above e.start) (λ x h. omega (arith, h, start)) fs up_f.0 in
    let behind_f : All (Above f.start) es = All-weaker (Above e.start) (Above f.start) (λ x h. omega (arith, h, start)) es up_e.0 in
    let rest : fs ≡ es = rising_once es fs up_e.1 up_f.1
    (among_rest e es fs behind_e (λ P each. All-tail P f fs (into P each)))
    (among_rest f fs es behind_f (λ P each. All-tail P e es (back P each))) in
    cc

rising_chain : (es : List Extent) → All IsSized es → IsChained es → IsRising es
rising_chain [] sized chain = tt
rising_chain (e ∷ es) sized chain =
    let here : 1 ≤ e.size = All-head IsSized e es sized in (
      All-weaker (IsBefore e) (Above e.start) (λ f h. omega (arith, h, here)) es chain.0,
      rising_chain es (All-tail IsSized e es sized)
          chain.1,
    )

-- rows in order are the rising list that has the same rows
in_order : (xs es : List Extent) → All IsSized xs → AllPairs IsApart xs → IsRising es → Covers xs es → Covers es xs → by_start xs ≡ es
in_order xs es sized apart up into back =
    rising_once es (by_start xs) up (rising_chain (by_start xs) (All-by_start IsSized xs sized) (IsChained-by_start xs sized apart))
    (λ P each. All-by_start P xs (into P each)) (λ P each. back P (from_by_start P xs each))

-- a start that isn't below a number
abbrev pub From : ℕ → Extent → Type 0
From n e = n ≤ e.start

-- pieces from a grain on rise, before rows that begin where they end at the least
from_stacked : (n from : ℕ) (ps : List Piece) (rest : List Extent) → n ≤ 8 * from → All (From n) rest → All (From n) (stacked from ps rest)
from_stacked n from [] rest low each = each
from_stacked n from (p ∷ ps) rest low each = All-cons (From n) (row_at from p) (stacked (from + grains_up p.units + p.pad) ps rest) low
    (from_stacked n (from + grains_up p.units + p.pad) ps rest (omega (arith, low)) each)

rising_stacked : (wants : List Want) (from : ℕ) (ps : List Piece) (rest : List Extent) → All (IsPiece wants) ps
    → All (From (8 * (from + total ps))) rest → IsRising rest → IsRising (stacked from ps rest)
rising_stacked wants from [] rest each behind up = up
rising_stacked wants from (p ∷ ps) rest each behind up =
    let is = All-head (IsPiece wants) p ps each in
    let next : ℕ = from + grains_up p.units + p.pad in
    let later : All (From (8 * (next + total ps))) rest = All-weaker (From (8 * (from + total (p ∷ ps)))) (From (8 * (next + total ps)))
    (λ f h. omega (arith, h)) rest behind in
    let some : 8 * from < 8 * next = omega (arith, is.some) in
    let above : All (From (8 * next)) (stacked next ps rest) = from_stacked (8 * next) next ps rest (omega arith)
    (All-weaker (From (8 * (next + total ps))) (From (8 * next)) (λ f h. omega (arith, h)) rest later) in (
      All-weaker (From (8 * next)) (Above (8 * from)) (λ f h. omega (arith, h, some)) (stacked next ps rest) above,
      rising_stacked wants
          next ps rest (All-tail (IsPiece wants) p ps each) later up,
    )

rising_pieces : (wants : List Want) (from limit : ℕ) (ps : List Piece) (rest : List Extent) → All (IsPiece wants) ps
    → total ps ≤ limit - from → All (From (8 * limit)) rest → IsRising rest → IsRising (stacked from ps rest)
rising_pieces wants from limit [] rest each fits behind up = up
rising_pieces wants from limit (p ∷ ps) rest each fits behind up =
    let is = All-head (IsPiece wants) p ps each in
    rising_stacked wants from (p ∷ ps) rest each (All-weaker (From (8 * limit)) (From (8 * (from + total (p ∷ ps))))
    (λ f h. omega (arith, h, fits, is.some)) rest behind) up

-- rows and the pieces in their areas begin no lower than the rows
from_row : (wants : List Want) (limit m : ℕ) (e : Extent) (ps : List Piece) (rest : List Extent) (o : Option ℕ) → IfSome o (Fits limit e)
    → m ≤ e.start → All (From m) rest
    → All (From m) (woven_at (area_with wants limit e o).anchor (area_with wants limit e o).from e ps rest)
from_row wants limit m e ps rest None fits low each = All-cons (From m) e (stacked (grains_up (e.start + e.size)) ps rest) low
    (from_stacked m (grains_up (e.start + e.size)) ps rest (omega (arith, low)) each)
from_row wants limit m e ps rest (Some file) fits low each = from_stacked m (e.start / 8) ps rest (omega (arith, low, fits.1)) each

from_woven : (last : ℕ) (wants : List Want) (m : ℕ) (es : List Extent) (stacks : List (List Piece)) → All (From m) es
    → All (From m) (woven last wants es stacks)
from_woven last wants m [] stacks each = All-nil (From m)
from_woven last wants m (e ∷ es) [] each = each
from_woven last wants m (e ∷ es) (ps ∷ stacks) each =
    from_row wants (limit_of last es) m e ps (woven last wants es stacks) (anchor_of (limit_of last es) e)
    (anchor_fits (limit_of last es) e) (All-head (From m) e es each)
    (from_woven last wants m es stacks (All-tail (From m) e es each))

-- rows in order begin where the area before them ends at the least
from_limit : (last : ℕ) (es : List Extent) → IsRising es → All (From (8 * limit_of last es)) es
from_limit last [] up = All-nil (From (8 * limit_of last []))
from_limit last (e ∷ es) up = All-cons (From (8 * (e.start / 8))) e es (omega arith)
    (All-weaker (Above e.start) (From (8 * (e.start / 8))) (λ f h. omega (arith, h)) es up.0)

rising_row : (wants : List Want) (limit : ℕ) (e : Extent) (ps : List Piece) (rest : List Extent) (o : Option ℕ) → 1 ≤ e.size
    → IsStack wants (area_with wants limit e o) ps
    → All (From (e.start + e.size)) rest → All (From (8 * limit)) rest → IsRising rest
    → IsRising (woven_at (area_with wants limit e o).anchor (area_with wants limit e o).from e ps rest)
rising_row wants limit e ps rest None sized stack behind beyond up =
    let from : ℕ = grains_up (e.start + e.size) in (
      All-weaker (From (e.start + e.size)) (Above e.start) (λ f h. omega (arith, h, sized)) (stacked from ps rest)
          (from_stacked (e.start + e.size) from ps rest (omega arith) behind),
      rising_pieces wants from limit ps rest stack.each stack.fits beyond up,
    )
rising_row wants limit e ps rest (Some file) sized stack behind beyond up = rising_pieces wants (e.start / 8) limit ps rest stack.each
    stack.fits beyond up

pub rising_woven : (last : ℕ) (wants : List Want) (es : List Extent) (stacks : List (List Piece)) → All IsSized es → IsChained es
    → AreStacks last wants es stacks → IsRising (woven last wants es stacks)
rising_woven last wants [] stacks sized chain are = tt
rising_woven last wants (e ∷ es) [] sized chain are = absurd are
rising_woven last wants (e ∷ es) (ps ∷ stacks) sized chain are =
    let rest : List Extent = woven last wants es stacks in
    let later : All IsSized es = All-tail IsSized e es sized in
    rising_row wants (limit_of last es) e ps rest (anchor_of (limit_of last es) e) (All-head IsSized e es sized) are.0
    (from_woven last wants (e.start + e.size) es stacks (All-weaker (IsBefore e) (From (e.start + e.size)) (λ f h. h) es chain.0))
    (from_woven last wants (8 * limit_of last es) es stacks (from_limit last es (rising_chain es later chain.1)))
    (rising_woven last wants es stacks later chain.1 are.1)

covers : (fs es : List Extent) → AreAmong fs es → Covers fs es
covers fs es among P each k d below = All-contains P es (get_or fs k d) each (among (get_or fs k d) (Contains-get_or fs k d below))

rises : (es : List Extent) → AllPairs (λ (a b : Extent). a.start < b.start) es → IsRising es
rises [] pairs = tt
rises (e ∷ es) pairs = (
  AllPairs-head (λ (a b : Extent). a.start < b.start) e es pairs,
  rises es
      (AllPairs-tail (λ (a b : Extent). a.start < b.start) e es pairs),
)

-- a laid out table's rows by rising start are the rising list in which the same rows stand
pub by_start_is : (table : Table) (matched : List (Option ℕ)) (es : List Extent) → IsLaidOut table
    → AllPairs (λ (a b : Extent). a.start < b.start) es
    → AreAmong (extents_of table.rows matched) es → AreAmong es (extents_of table.rows matched) → rows_by_start table matched ≡ es
by_start_is table matched es laid up rows all =
    in_order (extents_of table.rows matched) es (sized table matched laid) (apart table matched laid) (rises es up)
    (covers (extents_of table.rows matched) es rows) (covers es (extents_of table.rows matched) all)

module _ (table again : Table) (last : ℕ) (matched rematched : List (Option ℕ)) (wants : List Want) (before : List Piece)
    (stacks : List (List Piece)) where
  abbrev es : List Extent
  es = rows_by_start table matched

  abbrev filled : List Extent
  filled = rows_again table last matched wants before stacks

  abbrev answer : List Extent → List Refusal → Result (List Area) AreaFault
  answer xs rs = option_map_or (λ r. Err (Existing r.file r.need r.have)) (least_refusal rs)
      (Ok (area_before again.first last xs ∷ areas_behind last wants xs))

  -- the areas of a table to which rows were added: an anchor's ends at the next row or piece, and none is refused
  pub areas_of_again : IsFilled table again last matched rematched wants before stacks
      → areas_of again last rematched wants ≡ Ok (areas_filled table last matched wants before stacks)
  areas_of_again is =
      let from : ℕ = grains_up table.first in
      let limit : ℕ = limit_of last es in
      let none : refusals_of last wants es ≡ [] = none_refused (refusals_of last wants es) (least_none table last matched wants is.kept) in
      let all_sized : All IsSized es = All-by_start IsSized (extents_of table.rows matched) (sized table matched is.old) in
      let chain : IsChained es = chained table matched is.old in
      let rest : List Extent = woven last wants es stacks in
      let stack = is.first_stack in
      let facts = areas_woven last wants es stacks is.other_stacks none in
      let pieces = pieces_stay last wants (record { start = 0; size = 0; file = None }) limit before rest facts.0 from before stack.each
      stack.fits in
      let behind_rows = from_woven last wants (8 * limit) es stacks (from_limit last es (rising_chain es all_sized chain)) in
      let up : IsRising filled = rising_pieces wants from limit before rest stack.each stack.fits behind_rows
      (rising_woven last wants es stacks all_sized chain is.other_stacks) in
      let order : by_start (extents_of again.rows rematched) ≡ filled =
      in_order (extents_of again.rows rematched) filled (sized again rematched is.laid_out) (apart again rematched is.laid_out) up
      (covers (extents_of again.rows rematched) filled is.rows) (covers filled (extents_of again.rows rematched) is.all) in
      let reaches : limit_of last filled ≡ up_to from before limit = limit_stacked last from before rest ∙ ap (up_to from before) facts.0 in
      let behind : areas_behind last wants filled ≡ areas_of_pieces wants limit from before (areas_again last wants es stacks) =
      pieces.0 ∙ ap (areas_of_pieces wants limit from before) facts.1 in
      let area : ℕ → ℕ → Area = λ f l. record { from = grains_up f; span = l - grains_up f; anchor = None; used = 0 } in
      let is_ordered : areas_of again last rematched wants ≡ answer filled (refusals_of last wants filled) = ap
      (λ (xs : List Extent). answer xs (refusals_of last wants xs)) order in
      let is_kept : answer filled (refusals_of last wants filled) ≡ answer filled [] = ap (answer filled) (pieces.1 ∙ facts.2) in
      is_ordered ∙ is_kept
      ∙ ap (λ (f : ℕ). Ok (area f (limit_of last filled) ∷ areas_behind last wants filled)) is.first
      ∙ ap (λ (l : ℕ). Ok (area table.first l ∷ areas_behind last wants filled)) reaches
      ∙ ap (λ (ys : List Area). Ok (area table.first (up_to from before limit) ∷ ys)) behind
