-- Where each definition has a row, and the goal's rows are those that are there, each row is noted as the same.
use Rattle.std.proofs.Common.{◌≡◌, ◌∙◌, ℕ, ℤ, ◌<◌, Bool, true, cond, List, length, get_or, Option, All, arith, eq-eqb, refl, ap, sym, subst, zero-add}
use Rattle.std.specs.Prelude.{◌&&◌, map}
use Rattle.std.specs.List.{enumerate_from}
use Rattle.std.proofs.lemmas.Cmp.{nat_list_eq_equiv}
use Rattle.std.proofs.lemmas.List.{get_or_default}
use Rattle.std.proofs.lemmas.List.Elements.{All-append, All-map, All-nil}
use Rattle.std.proofs.lemmas.List.FromFn.{get_or-enumerate_from, length-enumerate_from}
use Rattle.rp_base.specs.declared.guid.Guid.{Guid}
use Rattle.rp_base.specs.declared.plan.Change.TheVariants.{Changed, Same}
use Rattle.rp_base.specs.declared.plan.Note.{Note}
use Rattle.rp_base.specs.declared.seen.Seen.{Seen}
use Rattle.rp_base.specs.declared.table.Row.{Row}
use Rattle.rp_defs.specs.declared.definition.Definition.{Definition}
use Rattle.rp_sizes.specs.declared.need.Fact.{Fact}
use Rattle.rp_sizes.specs.Needs.{matched_of}
use Rattle.rp_plan.specs.Goal.{notes_of}
use Rattle.rp_plan.specs.Kept.{first_free, kept_files, kept_of}
use Rattle.rp_plan.specs.Notes.{new_note, old_note, same_row}
use Rattle.rp_idle.proofs.Wanted.{AllHave, none_kept}

all_hold : (a b c d e f g : Bool) → a ≡ true → b ≡ true → c ≡ true → d ≡ true → e ≡ true → f ≡ true → g ≡ true
    → (a && b && c && d && e && f && g) ≡ true
all_hold a b c d e f g ha hb hc hd he hf hg = rw (ha, hb, hc, hd, he, hf, hg) refl

-- a row is the same as itself
same_itself : (row : Row) → same_row row row ≡ true
same_itself row = all_hold _ _ _ _ _ _ _ (eq-eqb row.slot row.slot refl) (nat_list_eq_equiv.refl row.kind.0)
    (nat_list_eq_equiv.refl row.id.0)
    (eq-eqb row.start row.start refl) (eq-eqb row.size row.size refl) (eq-eqb row.attrs row.attrs refl) (nat_list_eq_equiv.refl row.name)

abbrev pub IsSame : Note → Type 0
IsSame note = note.change ≡ Same

old_same : (matched : List (Option ℕ)) (rows : List Row) → All (λ (e : ℕ × Row). IsSame (old_note matched rows e)) (enumerate_from 0 rows)
old_same matched rows k d below =
    let l : k < length rows = omega (arith, below, length-enumerate_from 0 rows) in
    let row : Row = get_or rows k d.1 in
    let at : get_or (enumerate_from 0 rows) k d ≡ (k, row) = get_or-enumerate_from 0 rows k d l
    ∙ ap (λ n. (n, get_or rows k d.1)) (zero-add k) in
    subst (λ (e : ℕ × Row). IsSame (old_note matched rows e)) (sym at)
    (ap (λ r. cond (same_row row r) Same Changed) (get_or_default rows k row d.1 l) ∙ ap (λ b. cond b Same Changed) (same_itself row))

pub notes_same : (seen : Seen) (defs : List Definition) (facts : List Fact) (seed : Guid) (t : ℤ)
    → AllHave (matched_of seen.shown defs) defs
    → All IsSame (notes_of seen defs facts seed t seen.shown.rows)
unfolding notes_of
notes_same seen defs facts seed t have =
    let rows = seen.shown.rows in
    let matched = matched_of seen.shown defs in
    let files = kept_files matched t defs in
    All-append IsSame (map (old_note matched rows) (enumerate_from 0 rows))
    (map (new_note seed defs facts (first_free rows) files) (enumerate_from (first_free rows) (kept_of matched t defs)))
    (All-map IsSame (old_note matched rows) (enumerate_from 0 rows) (old_same matched rows))
    (subst (λ (es : List (ℕ × Definition)). All IsSame (map (new_note seed defs facts (first_free rows) files)
    (enumerate_from (first_free rows) es)))
    (sym (none_kept matched defs have t)) (All-nil IsSame))
