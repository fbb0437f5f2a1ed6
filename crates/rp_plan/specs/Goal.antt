-- The goal: what is to become of an image, by the definitions, or what is demanded first (systemd-repart(8)).
use Rattle.std.specs.Prelude.{ℕ, ℤ, ◌*◌, List, ◌++◌, map, length, Option, Some, None, Result, Ok, Err}
use Rattle.std.specs.List.{enumerate_from}
use Rattle.rp_base.specs.declared.guid.Guid.{Guid}
use Rattle.rp_base.specs.declared.plan.Note.{Note}
use Rattle.rp_base.specs.declared.plan.Plan.{Plan}
use Rattle.rp_base.specs.declared.seen.Seen.{Seen}
use Rattle.rp_base.specs.declared.table.Row.{Row}
use Rattle.rp_base.specs.declared.table.Table.{Table}
use Rattle.rp_base.specs.declared.want.Want.{Want}
use Rattle.rp_areas.specs.declared.gaps.Area.{Area}
use Rattle.rp_areas.specs.declared.gaps.AreaFault.{AreaFault}
use Rattle.rp_areas.specs.declared.gaps.AreaFault.TheVariants as areas
use Rattle.rp_areas.specs.Areas.{areas_of}
use Rattle.rp_place.specs.declared.fit.PlaceFault.{PlaceFault}
use Rattle.rp_place.specs.declared.fit.PlaceFault.TheVariants as places
use Rattle.rp_place.specs.declared.threshold.Placed.{Placed}
use Rattle.rp_place.specs.Placing.{settled}
use Rattle.rp_ident.specs.declared.fault.IdentFault.{IdentFault}
use Rattle.rp_ident.specs.declared.fault.IdentFault.TheVariants as idents
use Rattle.rp_ident.specs.Naming.{named}
use Rattle.rp_layout.specs.declared.spot.Spot.{Spot}
use Rattle.rp_layout.specs.Layout.{laid}
use Rattle.rp_demand.specs.declared.demand.Demand.{Demand}
use Rattle.rp_demand.specs.declared.demand.Demand.TheVariants.{Existing, Room, Slot, TakenIdentifier, NoIdentifier, Memory}
use Rattle.rp_defs.specs.declared.definition.Definition.{Definition}
use Rattle.rp_sizes.specs.declared.need.Fact.{Fact}
use Rattle.rp_sizes.specs.Needs.{matched_of}
use Rattle.rp_sizes.specs.News.{news_of}
use Rattle.rp_sizes.specs.Sizes.{asked, first_demand}
use Rattle.rp_plan.specs.Kept.{dropped_files, first_free, free_slots, kept_files, kept_of}
use Rattle.rp_plan.specs.Names.{namings_of}
use Rattle.rp_plan.specs.Notes.{new_note, old_note}
use Rattle.rp_plan.specs.Rows.{last_of, rows_laid, table_laid}

-- what the faults of areas, placing and naming demand, in bytes
abbrev pub area_demand : AreaFault → Demand
area_demand (areas.Existing file need have) = Existing file need have
area_demand areas.Memory = Memory

abbrev pub place_demand : PlaceFault → Demand
place_demand (places.Room file need largest) = Room file (4096 * need) (4096 * largest)
place_demand (places.Slot file) = Slot file
place_demand places.Memory = Memory

abbrev pub ident_demand : IdentFault → Demand
ident_demand (idents.TakenIdentifier file) = TakenIdentifier file
ident_demand (idents.NoIdentifier file) = NoIdentifier file

-- an answer taken from the value of one before, or the demand of its fault
abbrev pub after : {A B F : Type 0} → (F → Demand) → Result A F → (A → Result B Demand) → Result B Demand
after demand (Ok value) next = next value
after demand (Err fault) next = Err (demand fault)

-- a demand, or else the answer
abbrev pub unless : {A : Type 0} → Option Demand → Result A Demand → Result A Demand
unless (Some demand) answer = Err demand
unless None answer = answer

-- where the partitions lie
unfoldable pub spots_of : Seen → List Definition → List Want → List Area → Placed → List (Option Spot)
spots_of seen defs wants areas placed =
    let matched = matched_of seen.shown defs in
    laid seen.shown.rows matched wants areas (news_of matched wants defs) placed.areas

-- the goal's table
unfoldable pub goal_table : Seen → ℕ → List Definition → List Fact → Guid → List Want → List Area → Placed → Result Table IdentFault
goal_table seen target defs facts seed wants areas placed =
    let matched = matched_of seen.shown defs in
    let kept = kept_files matched placed.threshold defs in
    let rows = rows_laid seen.shown.rows matched placed.threshold defs (spots_of seen defs wants areas placed) in
    named (table_laid seen target rows) (namings_of facts matched (length seen.shown.rows) kept defs) seed

-- a note on each row of the goal
unfoldable pub notes_of : Seen → List Definition → List Fact → Guid → ℤ → List Row → List Note
notes_of seen defs facts seed threshold goal =
    let matched = matched_of seen.shown defs in
    let free = first_free seen.shown.rows in
    let kept = kept_files matched threshold defs in
    map (old_note matched goal) (enumerate_from 0 seen.shown.rows)
    ++ map (new_note seed defs facts free kept) (enumerate_from free (kept_of matched threshold defs))

-- the plan with a table
abbrev pub plan_with : Seen → ℕ → List Definition → List Fact → Guid → ℤ → Table → Plan
plan_with seen target defs facts seed threshold goal = record {
  target = target;
  goal = goal;
  notes = notes_of seen defs facts seed threshold goal.rows;
  dropped = dropped_files (matched_of seen.shown defs) threshold defs;
  threshold = threshold;
}

-- the plan, from where new partitions are placed: its rows are laid out and named
unfoldable pub plan_placed : Seen → ℕ → List Definition → List Fact → Guid → List Want → List Area → Placed → Result Plan Demand
plan_placed seen target defs facts seed wants areas placed =
    after ident_demand (goal_table seen target defs facts seed wants areas placed) (λ table.
    Ok (plan_with seen target defs facts seed placed.threshold table))

-- the plan, from the areas: the placement in them that is kept
unfoldable pub plan_among : Seen → ℕ → List Definition → List Fact → Guid → List Want → List Area → Result Plan Demand
plan_among seen target defs facts seed wants areas =
    after place_demand (settled areas (news_of (matched_of seen.shown defs) wants defs) (free_slots seen.shown)) (λ placed.
    plan_placed seen target defs facts seed wants areas placed)

-- the plan, from what is asked for: the areas of the table
unfoldable pub plan_asked : Seen → ℕ → List Definition → List Fact → Guid → List Want → Result Plan Demand
plan_asked seen target defs facts seed wants =
    after area_demand (areas_of seen.shown (last_of seen target) (matched_of seen.shown defs) wants) (λ areas.
    plan_among seen target defs facts seed wants areas)

-- the goal, or the first demand: halves of pairs, sizes, rows that are there, room and slots, identifiers
unfoldable pub goal : Seen → ℕ → List Definition → List Fact → Guid → Result Plan Demand
goal seen target defs facts seed =
    let matched = matched_of seen.shown defs in
    unless (first_demand matched defs facts) (plan_asked seen target defs facts seed (asked matched defs facts))
