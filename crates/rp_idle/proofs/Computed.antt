-- Goals for worked goals come out of the definitions as they were: images of 64 MiB with 128 entries, whose usable units from 2,048 on are
-- 16,123 grains.
use Rattle.std.proofs.Common.{◌≡◌, ℕ, ℤ, ◌+◌, ◌^◌, true, false, List, [], ◌∷◌, map, Option, Some, None, Result, Ok, Err, pos, refl}
use Rattle.std.specs.Prelude.{replicate}
use Rattle.rp_base.specs.declared.guid.Guid.{Guid}
use Rattle.rp_base.specs.declared.plan.Plan.{Plan}
use Rattle.rp_base.specs.declared.seen.Mbr.TheVariants as mbrs
use Rattle.rp_base.specs.declared.seen.Origin.TheVariants.{Primary}
use Rattle.rp_base.specs.declared.seen.Seen.{Seen}
use Rattle.rp_base.specs.declared.table.Row.{Row}
use Rattle.rp_base.specs.declared.table.Table.{Table}
use Rattle.rp_share.specs.Value.{can_take, next_below, shares_of, sooner_of, with_grain, with_grains}
use Rattle.rp_ident.specs.Naming.{changed, in_turn, named, rows_named}
use Rattle.rp_demand.specs.declared.demand.Demand.{Demand}
use Rattle.rp_defs.specs.declared.definition.Definition.{Definition}
use Rattle.rp_defs.specs.declared.definition.Verity.TheVariants.{Off}
use Rattle.rp_sizes.specs.Needs.{matched_of}
use Rattle.rp_plan.specs.Goal.{goal, goal_table, plan_among, plan_asked, plan_placed, spots_of}

abbrev guid : ℕ → Guid
guid n = record { 0 = replicate 16 n }

-- an image with this table
abbrev image : Table → Seen
image table = record {
  sectors = 131072;
  shown = table;
  origin = Primary;
  primary_same = true;
  backup_same = true;
  mbr = mbrs.Same;
}

-- a table with these rows
abbrev table_with : List Row → Table
table_with rows = record { sector = 512; entries = 128; disk = guid 9; first = 2048; last = 131038; rows = rows }

abbrev entry : ℕ → ℕ → ℕ → ℕ → Row
entry slot kind start size = record {
  slot = slot;
  kind = guid kind;
  id = guid (100 + slot);
  start = start;
  size = size;
  attrs = 0;
  name = replicate 36 65;
}

-- a definition of a type with an identifier, a priority, a least and a greatest size in grains, a weight, and a padding's weight
abbrev def : ℕ → ℕ → ℤ → ℕ → ℕ → ℕ → ℕ → Definition
def kind id priority least most weight padding = record {
  file = [];
  kind = guid kind;
  label = Some (replicate 36 66);
  id = Some (guid id);
  priority = priority;
  want = record { min = least; max = most; weight = weight; pad_min = 0; pad_max = 2 ^ 52; pad_weight = padding };
  attrs = 0;
  source = None;
  verity = Off;
  factory_reset = false;
  split = None;
}

-- the slots, starts and sizes of the goal's rows, and the definitions that are dropped
abbrev shown : Result Plan Demand → Result (List (ℕ × ℕ × ℕ) × List ℕ) Demand
shown (Ok plan) = Ok (map (λ (r : Row). (r.slot, r.start, r.size)) plan.goal.rows, plan.dropped)
shown (Err demand) = Err demand

-- the goal for a goal's table, with nothing known of sources and with another seed
abbrev again : Result Plan Demand → List Definition → Result Plan Demand
again (Ok plan) defs = goal (image plan.goal) 131072 defs [] (guid 6)
again (Err demand) defs = Err demand

-- what becomes of a table with these rows, planned twice
abbrev becomes_again : List Row → List Definition → Result (List (ℕ × ℕ × ℕ) × List ℕ) Demand
becomes_again rows defs = shown (again (goal (image (table_with rows)) 131072 defs [] (guid 5)) defs)

-- what row each definition has then
abbrev matched_again : Result Plan Demand → List Definition → Result (List (Option ℕ)) Demand
matched_again (Ok plan) defs = Ok (matched_of plan.goal defs)
matched_again (Err demand) defs = Err demand

by_weight : becomes_again [] (def 1 11 (pos 0) 2560 (2 ^ 52) 1000 0 ∷ def 2 12 (pos 0) 2560 (2 ^ 52) 2000 0 ∷ [])
    ≡ Ok ((0, 2048, 42992) ∷ (1, 45040, 85992) ∷ [], [])
unfolding goal plan_asked plan_among plan_placed goal_table spots_of named rows_named in_turn changed shares_of with_grains with_grain next_below sooner_of can_take
by_weight = refl

-- paddings with weight, and a maximum that leaves space
with_padding : becomes_again [] (def 1 11 (pos 0) 2560 (2 ^ 52) 1000 1000 ∷ def 2 12 (pos 0) 2560 3000 2000 1000 ∷ [])
    ≡ Ok ((0, 2048, 35000) ∷ (1, 72040, 24000) ∷ [], [])
unfolding goal plan_asked plan_among plan_placed goal_table spots_of named rows_named in_turn changed shares_of with_grains with_grain next_below sooner_of can_take
with_padding = refl

-- a row of a definition that has grown, and a new one behind it
grown : becomes_again (entry 3 1 2048 80 ∷ []) (def 1 11 (pos 0) 2560 2560 1000 0 ∷ def 2 12 (pos 0) 2560 (2 ^ 52) 1000 0 ∷ [])
    ≡ Ok ((3, 2048, 20480) ∷ (4, 22528, 108504) ∷ [], [])
unfolding goal plan_asked plan_among plan_placed goal_table spots_of named rows_named in_turn changed shares_of with_grains with_grain next_below sooner_of can_take
grown = refl

abbrev two : List Definition
two = def 1 11 (pos 10) 9000 (2 ^ 52) 1000 0 ∷ def 2 12 (pos 0) 9000 (2 ^ 52) 1000 0 ∷ []

-- a definition that was dropped has no row, so the law asks that none was
dropped : matched_again (goal (image (table_with [])) 131072 two [] (guid 5)) two ≡ Ok (None ∷ Some 0 ∷ [])
unfolding goal plan_asked plan_among plan_placed goal_table spots_of named rows_named in_turn changed shares_of with_grains with_grain next_below sooner_of can_take
dropped = refl
