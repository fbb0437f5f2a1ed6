-- By the part that is turned.
use Rattle.std.proofs.Common.{◌≡◌, ◌≢◌, inl, inr, refl, ap, get_or, arith}
use Rattle.rp_base.specs.declared.guid.Guid.{Guid}
use Rattle.rp_base.specs.declared.table.Row.{Row}
use Rattle.rp_rows_plans.specs.Values.{kept, old}
use Rattle.rp_rows_plans.proofs.Meeting.{blank_fits, fits, grown_fits, without_fits}
use Rattle.rp_rows_plans.proofs.Three.{all_of_one}
use Rattle.rp_rows_plans.proofs.plans.what_fits.Goals as goal

pub returns-clause-met : goal.returns-clause-met
returns-clause-met c = fits

pub returns-clause-row_is_left_out : goal.returns-clause-row_is_left_out
returns-clause-row_is_left_out c = without_fits

pub returns-clause-grown : goal.returns-clause-grown
returns-clause-grown c = grown_fits

pub returns-clause-neither : goal.returns-clause-neither
returns-clause-neither c = blank_fits

pub returns-clause-kind : goal.returns-clause-kind
returns-clause-kind c = λ fine.
    let kind = ((fine.rows 0 (old, kept) (omega arith)).0 0 old (omega arith) refl).kind in
    let byte : 2 ≡ 1 = ap (λ (g : Guid). get_or g.0 0 0) kind in
    absurd (omega (arith, byte))

pub returns-clause-start : goal.returns-clause-start
returns-clause-start c = λ fine. absurd (omega (arith, ((fine.rows 0 (old, kept) (omega arith)).0 0 old (omega arith) refl).start))

pub returns-clause-attrs : goal.returns-clause-attrs
returns-clause-attrs c = λ fine. absurd (omega (arith, ((fine.rows 0 (old, kept) (omega arith)).0 0 old (omega arith) refl).attrs))

pub returns-clause-size : goal.returns-clause-size
returns-clause-size c = λ fine. absurd (omega (arith, ((fine.rows 0 (old, kept) (omega arith)).0 0 old (omega arith) refl).size))

pub returns-clause-change : goal.returns-clause-change
returns-clause-change c = λ fine. ((fine.rows 0 (old, kept) (omega arith)).0 0 old (omega arith) refl).change refl

pub returns-clause-not_new : goal.returns-clause-not_new
returns-clause-not_new c = λ fine.
    let change = ((fine.rows 1 (old, kept) (omega arith)).1 (all_of_one (λ (row : Row). row.slot ≢ 1) old (λ same. cc))).change in
    cc

pub returns-clause-apart : goal.returns-clause-apart
returns-clause-apart c = λ fine.
    let is_new = (fine.rows 0 (old, kept) (omega arith)).1 (all_of_one (λ (row : Row). row.slot ≢ 1) old (λ same. cc)) in
    elim (is_new.apart 0 old (omega arith)) [
      | inl w ↦ absurd (omega (arith, w))
      | inr w ↦ absurd (omega (arith, w))
    ]
