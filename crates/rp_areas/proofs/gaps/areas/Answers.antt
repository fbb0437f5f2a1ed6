use Rattle.std.proofs.Common.{◌≡◌, ◌∙◌, ◌∷◌, ap, sym}
use Rattle.rp_areas.specs.Areas.{area_before, areas_behind, by_start, extents_of, least_refusal, refusals_of}
use Rattle.rp_areas.proofs.Laid.{answer_is, areas_used}
use Rattle.rp_areas.proofs.Rows.{bounded, distinct}
use Rattle.rp_areas.proofs.gaps.areas.Goals as goal

pub by_start-requires : goal.by_start-requires
by_start-requires c =
    let e : c.deref.result.now ≡ extents_of c.args.table.now.rows c.args.matched.now = c.deref.ensures.value ∙ c.in_ok-extents.ensures
    ∙ ap (λ rows. extents_of rows c.args.matched.now) c.as_slice.ensures in
    rw e (distinct c.args.table.now c.args.matched.now c.requires.laid_out)

pub least_refusal-requires-clause-bounded : goal.least_refusal-requires-clause-bounded
least_refusal-requires-clause-bounded c =
    let e : c.deref.result.now ≡ extents_of c.args.table.now.rows c.args.matched.now = c.deref.ensures.value ∙ c.in_ok-extents.ensures
    ∙ ap (λ rows. extents_of rows c.args.matched.now) c.as_slice.ensures in
    let s : c.deref-2.result.now ≡ by_start (extents_of c.args.table.now.rows c.args.matched.now) = c.deref-2.ensures.value
    ∙ c.in_ok-ordered.ensures ∙ ap by_start e in
    rw s (bounded c.args.table.now c.args.last c.args.matched.now c.args.wants.now c.requires.laid_out c.requires.last c.requires.bounds
    c.requires.matched)

pub areas_between-requires-clause-bounded : goal.areas_between-requires-clause-bounded
areas_between-requires-clause-bounded c =
    let e : c.deref.result.now ≡ extents_of c.args.table.now.rows c.args.matched.now = c.deref.ensures.value ∙ c.in_ok-extents.ensures
    ∙ ap (λ rows. extents_of rows c.args.matched.now) c.as_slice.ensures in
    let s : c.deref-3.result.now ≡ by_start (extents_of c.args.table.now.rows c.args.matched.now) = c.deref-3.ensures.value
    ∙ c.in_ok-ordered.ensures ∙ ap by_start e in
    rw s (bounded c.args.table.now c.args.last c.args.matched.now c.args.wants.now c.requires.laid_out c.requires.last c.requires.bounds
    c.requires.matched)

pub returns-clause-used : goal.returns-clause-used
returns-clause-used c =
    let table = c.args.table.now in
    let last = c.args.last in
    let matched = c.args.matched.now in
    let wants = c.args.wants.now in
    let e : c.deref.result.now ≡ extents_of table.rows matched = c.deref.ensures.value ∙ c.in_ok-extents.ensures
    ∙ ap (λ rows. extents_of rows matched) c.as_slice.ensures in
    let judged : c.deref-2.result.now ≡ by_start (extents_of table.rows matched) = c.deref-2.ensures.value ∙ c.in_ok-ordered.ensures
    ∙ ap by_start e in
    let taken : c.deref-3.result.now ≡ by_start (extents_of table.rows matched) = c.deref-3.ensures.value ∙ c.in_ok-ordered.ensures
    ∙ ap by_start e in
    let none = ap (λ es. least_refusal (refusals_of last wants es)) (sym judged) ∙ sym c.least_refusal.ensures ∙ c.in_default.is in
    let are = c.in_ok-areas_between.ensures ∙ ap (λ es. area_before table.first last es ∷ areas_behind last wants es) taken in
    areas_used table last matched wants c.in_ok-areas_between.field-0 (answer_is table last matched wants c.in_ok-areas_between.field-0
    none are)
