-- The plan of a reset fits what was seen, and what is left can be planned for.
use Rattle.std.proofs.Common.{◌≡◌, ◌≢◌, ◌∙◌, ℕ, ◌+◌, ◌<◌, ◌≤◌, Bool, true, false, List, [], ◌∷◌, length, get_or, map, slice_get, Option, Some, None, Result, Ok, All, AllPairs, arith, inl, inr, refl, ap, sym, subst}
use Rattle.std.specs.Prelude.{Contains, zip}
use Rattle.std.proofs.lemmas.Bool.{cases_order}
use Rattle.std.proofs.lemmas.List.{get_or_default}
use Rattle.std.proofs.lemmas.List.Elements.{All-map, All-weaker}
use Rattle.rp_base.specs.Plan.{Fits, FitsRows, HasPartner, HoldsSource, IsWellFormed, KeepsRow, Noted, noted_of}
use Rattle.rp_base.specs.Table.{AreApart, IsWritableRow, RowFits, TableFits}
use Rattle.rp_base.specs.declared.plan.Change.TheVariants.{New, Same}
use Rattle.rp_base.specs.declared.plan.Note.{Note}
use Rattle.rp_base.specs.declared.plan.Plan.{Plan}
use Rattle.rp_base.specs.declared.seen.Seen.{Seen}
use Rattle.rp_base.specs.declared.table.Row.{Row}
use Rattle.rp_defs.specs.declared.definition.Definition.{Definition}
use Rattle.rp_demand.specs.declared.demand.Demand.{Demand}
use Rattle.rp_plan.specs.Goal.{unless}
use Rattle.rp_plan.specs.Plannable.{IsPlannable}
use Rattle.rp_sizes.specs.Needs.{matched_of}
use Rattle.rp_stops.specs.After.{seen_after}
use Rattle.rp_reset.specs.Mix.{mix}
use Rattle.rp_reset.specs.Reset.{is_reset, left_note, plan_to, plan_where, reset, reset_table, taken_out}
use Rattle.rp_reset.proofs.Left.{all_left, gone, left_are_old, pairs_left, stays}

-- a plan that a reset answers is the one to the table without the rows
made_by : (o : Option Demand) (slots : List ℕ) (plan made : Plan) → ◌≡◌ {A = Result (Option Plan) Demand} (unless o (Ok (plan_where slots plan))) (Ok (Some made))
    → made ≡ plan
made_by (Some demand) slots plan made e = absurd (cc)
made_by None [] plan made e = absurd (cc)
made_by None (slot ∷ slots) plan made e = cc

pub reset_is : (seen : Seen) (defs : List Definition) (plan : Plan) → reset seen defs ≡ Ok (Some plan)
    → plan ≡ plan_to seen (reset_table seen.shown defs)
unfolding reset
reset_is seen defs plan is = made_by (mix defs) (taken_out seen.shown defs) (plan_to seen (reset_table seen.shown defs)) plan is

-- each row with its note
zip_notes : (rows : List Row) → zip rows (map left_note rows) ≡ map (λ row. (row, left_note row)) rows
zip_notes [] = refl
zip_notes (row ∷ rows) = ap (λ ys. (row, left_note row) ∷ ys) (zip_notes rows)

note_slots : (rows : List Row) → map (λ (note : Note). note.slot) (map left_note rows) ≡ map (λ (row : Row). row.slot) rows
note_slots [] = refl
note_slots (row ∷ rows) = ap (λ ys. row.slot ∷ ys) (note_slots rows)

all_noted : (P : Noted → Type 0) (rows : List Row) → All (λ row. P (row, left_note row)) rows → All P (zip rows (map left_note rows))
all_noted P rows all = subst (All P) (sym (zip_notes rows)) (All-map P (λ row. (row, left_note row)) rows all)

-- rows of one slot are one row
one_row : (old : List Row) → AllPairs (λ (a b : Row). a.slot < b.slot) old → (k j : ℕ) (d row : Row) → k < length old → j < length old
    → get_or old j row ≡ row → (get_or old k d).slot ≡ row.slot → get_or old k d ≡ row
one_row old rising k j d row below inside at same = elim (cases_order k j) [
  | inl one ↦ let here : get_or old j d ≡ get_or old j row = get_or_default old j d row inside in ap (λ n. get_or old n d) one ∙ here ∙ at
  | inr order ↦ absurd (elim order [
    | inl before ↦
        let less = rising k j d before inside in
        omega (arith, less, same, ap (λ (r : Row). r.slot) (get_or_default old j d row inside ∙ at))
    | inr behind ↦
        let less = rising j k d behind below in
        omega (arith, less, same, ap (λ (r : Row). r.slot) (get_or_default old j d row inside ∙ at))
  ])
]

-- an old row with its note fits
row_fits : (old : List Row) → AllPairs (λ (a b : Row). a.slot < b.slot) old → (row : Row) → Contains old row → FitsRows old (row, left_note row)
row_fits old rising row has = (
  λ k d below same.
      subst (KeepsRow (row, left_note row)) (sym (one_row old rising k has.0 d row below has.1 has.2 same))
      (record { kind = refl; start = refl; attrs = refl; size = omega arith; change = λ e. let f : Same ≡ New = e in cc }),
  λ none. absurd (none has.0 row has.1 (ap (λ (r : Row). r.slot) has.2)),
)

module _ (seen : Seen) (defs : List Definition) where
  abbrev left : List Row
  left = (reset_table seen.shown defs).rows

  abbrev out : ℕ → Bool
  out place = is_reset (matched_of seen.shown defs) defs place

  pub made_fits : IsPlannable seen → Fits seen (plan_to seen (reset_table seen.shown defs))
  made_fits is = record {
    well_formed = record {
      target = record { whole = is.whole; least = omega arith; most = is.most };
      sector = refl;
      entries = refl;
      writable = record {
        sector = is.writable.sector;
        entries = is.writable.entries;
        bounds = record { first = is.writable.bounds.first; last = is.writable.bounds.last };
        rows = record {
          rows = all_left (IsWritableRow seen.shown.sector seen.shown.entries) out 0 seen.shown.rows is.writable.rows.rows;
          rising = pairs_left (λ (a b : Row). a.slot < b.slot) out 0 seen.shown.rows is.writable.rows.rising;
        };
      };
      in_place = record {
        bounded = record { first = is.in_place.bounded.first; last = is.in_place.bounded.last };
        bounds = is.in_place.bounds;
        rows = record {
          sized = all_left (λ row. 1 ≤ row.size) out 0 seen.shown.rows is.in_place.rows.sized;
          in_bounds = all_left (λ row. (seen.shown.first ≤ row.start) × (row.start + row.size ≤ seen.shown.last + 1)) out 0
              seen.shown.rows is.in_place.rows.in_bounds;
          apart = pairs_left AreApart out 0 seen.shown.rows is.in_place.rows.apart;
        };
      };
      notes = note_slots left;
      sources = all_noted HoldsSource left (λ k d below. tt);
      pairs = all_noted (λ noted. HasPartner (zip left (map left_note left)) noted noted.1.role) left (λ k d below. tt);
    };
    grows = inl refl;
    rows = all_noted (FitsRows seen.shown.rows) left
        (All-weaker (Contains seen.shown.rows) (λ row. FitsRows seen.shown.rows (row, left_note row))
        (row_fits seen.shown.rows is.writable.rows.rising) left (left_are_old out seen.shown.rows));
  }

  pub made_writes : TableFits seen.shown → TableFits (reset_table seen.shown defs)
  made_writes is = record {
    disk = is.disk;
    first = is.first;
    last = is.last;
    rows = all_left RowFits out 0 seen.shown.rows is.rows;
  }

-- what is seen behind a well formed plan
pub plannable_after : (seen : Seen) (plan : Plan) → IsWellFormed seen plan → IsPlannable (seen_after seen plan)
plannable_after seen plan is = record {
  whole = is.target.whole;
  most = is.target.most;
  writable = is.writable;
  in_place = is.in_place;
}

module _ (seen : Seen) (defs : List Definition) (plan : Plan) (is : reset seen defs ≡ Ok (Some plan)) where
  abbrev is_out : ℕ → Bool
  is_out place = is_reset (matched_of seen.shown defs) defs place

  pub reset_fits : IsPlannable seen → Fits seen plan
  reset_fits plannable = subst (Fits seen) (sym (reset_is seen defs plan is)) (made_fits seen defs plannable)

  pub all_same : All (λ (noted : Noted). noted.1.change ≡ Same) (noted_of plan)
  all_same = subst (λ (p : Plan). All (λ (noted : Noted). noted.1.change ≡ Same) (noted_of p)) (sym (reset_is seen defs plan is))
      (all_noted (λ noted. noted.1.change ≡ Same) (reset_table seen.shown defs).rows (λ k d below. refl))

  pub reset_writes : TableFits seen.shown → TableFits plan.goal
  reset_writes fits = subst (λ (p : Plan). TableFits p.goal) (sym (reset_is seen defs plan is)) (made_writes seen defs fits)

  pub rows_old : All (Contains seen.shown.rows) plan.goal.rows
  rows_old = subst (λ (p : Plan). All (Contains seen.shown.rows) p.goal.rows) (sym (reset_is seen defs plan is)) (left_are_old is_out seen.shown.rows)

  pub row_stays : (place : ℕ) (row : Row) → slice_get seen.shown.rows place ≡ Some row → is_out place ≡ false → Contains plan.goal.rows row
  row_stays place row at in' = subst (λ (p : Plan). Contains p.goal.rows row) (sym (reset_is seen defs plan is))
      (stays is_out 0 seen.shown.rows place row at (ap is_out (omega arith) ∙ in'))

  pub row_gone : (place : ℕ) (row : Row) → IsPlannable seen → slice_get seen.shown.rows place ≡ Some row → is_out place ≡ true
      → All (λ (left : Row). left.slot ≢ row.slot) plan.goal.rows
  row_gone place row plannable at out = subst (λ (p : Plan). All (λ (left : Row). left.slot ≢ row.slot) p.goal.rows)
      (sym (reset_is seen defs plan is))
      (gone is_out 0 seen.shown.rows place row plannable.writable.rows.rising at (ap is_out (omega arith) ∙ out))
