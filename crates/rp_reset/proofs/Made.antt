-- The plan of a reset, from what the code has.
use Rattle.std.proofs.Common.{◌≡◌, ◌∙◌, ℕ, List, [], ◌∷◌, Option, Some, None, Result, Ok, Err, map, pos, ap, sym}
use Rattle.std.specs.Prelude.{IfSome}
use Rattle.rp_base.specs.Plan.{Fits}
use Rattle.rp_base.specs.declared.plan.Note.{Note}
use Rattle.rp_base.specs.declared.plan.Plan.{Plan}
use Rattle.rp_base.specs.declared.seen.Seen.{Seen}
use Rattle.rp_base.specs.declared.table.Row.{Row}
use Rattle.rp_base.specs.declared.table.Table.{Table}
use Rattle.rp_defs.specs.declared.definition.Definition.{Definition}
use Rattle.rp_demand.specs.declared.demand.Demand.{Demand}
use Rattle.rp_plan.specs.Goal.{unless}
use Rattle.rp_plan.specs.Plannable.{IsPlannable}
use Rattle.rp_sizes.specs.Needs.{matched_of}
use Rattle.rp_reset.specs.Mix.{mix}
use Rattle.rp_reset.specs.Reset.{left_note, plan_to, plan_where, reset, slots_out, table_left}
use Rattle.rp_reset.proofs.Fitting.{reset_fits}

-- what a reset is, where no definition disagrees, by the places of the rows that definitions have
abbrev planned_by : Seen → List Definition → List (Option ℕ) → Option Plan
planned_by seen defs matched = plan_where (slots_out matched defs seen.shown.rows) (plan_to seen (table_left seen.shown matched defs))

pub demand_is : (seen : Seen) (defs : List Definition) (demand : Demand) → mix defs ≡ Some demand
    → ◌≡◌ {A = Result (Option Plan) Demand} (Err demand) (reset seen defs)
unfolding reset
demand_is seen defs demand is =
    sym (ap (λ o. unless o (Ok (planned_by seen defs (matched_of seen.shown defs)))) is)

pub plan_is : (seen : Seen) (defs : List Definition) (matched : List (Option ℕ)) (plan : Option Plan) → mix defs ≡ None
    → matched ≡ matched_of seen.shown defs → plan ≡ planned_by seen defs matched
    → ◌≡◌ {A = Result (Option Plan) Demand} (Ok plan) (reset seen defs)
unfolding reset
plan_is seen defs matched plan none own is =
    ap Ok (is ∙ ap (planned_by seen defs) own)
    ∙ sym (ap (λ o. unless o (Ok (planned_by seen defs (matched_of seen.shown defs)))) none)

pub fits_if : (seen : Seen) (defs : List Definition) (plan : Option Plan) → IsPlannable seen
    → ◌≡◌ {A = Result (Option Plan) Demand} (Ok plan) (reset seen defs) → IfSome plan (Fits seen)
fits_if seen defs None plannable is = tt
fits_if seen defs (Some plan) plannable is = reset_fits seen defs plan (sym is) plannable

-- with no slot there is no plan, and with some there is
pub none_where : (slots out : List ℕ) (plan : Plan) → slots ≡ out → slots ≡ [] → None ≡ plan_where out plan
none_where slots out plan same empty = ap (λ s. plan_where s plan) (sym empty ∙ same)

pub some_where : (slots out : List ℕ) (plan made : Plan) → slots ≡ out → (slots ≡ [] → ⊥) → made ≡ plan → Some made ≡ plan_where out plan
some_where slots [] plan made same some is = absurd (some same)
some_where slots (slot ∷ out) plan made same some is = ap Some is

-- the plan with these rows and notes
pub plan_of : (seen : Seen) (table : Table) (rows : List Row) (notes : List Note) → rows ≡ table.rows → notes ≡ map left_note rows
    → record { target = seen.sectors; goal = record table { rows = rows }; notes = notes; dropped = []; threshold = pos 0 } ≡ plan_to seen table
plan_of seen table rows notes same noted =
    ap (λ (n : List Note). record { target = seen.sectors; goal = record table { rows = rows }; notes = n; dropped = []; threshold = pos 0 }) noted
    ∙ ap (λ (r : List Row). record { target = seen.sectors; goal = record table { rows = r }; notes = map left_note r; dropped = []; threshold = pos 0 }) same
