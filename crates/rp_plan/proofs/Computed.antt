-- Goals that were worked out by hand come out of the definitions: images of 64 MiB with 128 entries, whose usable units from 2,048 on are
-- 16,123 grains.
use Rattle.std.proofs.Common.{◌≡◌, ℕ, ℤ, ◌+◌, ◌*◌, ◌^◌, true, false, List, [], ◌∷◌, map, Some, None, Result, Ok, Err, pos, refl}
use Rattle.std.specs.Prelude.{replicate}
use Rattle.rp_base.specs.declared.guid.Guid.{Guid}
use Rattle.rp_base.specs.declared.plan.Plan.{Plan}
use Rattle.rp_base.specs.declared.seen.Mbr.TheVariants as mbrs
use Rattle.rp_base.specs.declared.seen.Origin.TheVariants.{Primary}
use Rattle.rp_base.specs.declared.seen.Seen.{Seen}
use Rattle.rp_base.specs.declared.table.Row.{Row}
use Rattle.rp_share.specs.Value.{can_take, next_below, shares_of, sooner_of, with_grain, with_grains}
use Rattle.rp_ident.specs.Naming.{changed, in_turn, named, rows_named}
use Rattle.rp_demand.specs.declared.demand.Demand.{Demand}
use Rattle.rp_demand.specs.declared.demand.Demand.TheVariants.{Existing, Room, SourceTooLarge, TakenIdentifier}
use Rattle.rp_defs.specs.declared.definition.Definition.{Definition}
use Rattle.rp_defs.specs.declared.definition.Verity.TheVariants.{Off}
use Rattle.rp_sizes.specs.declared.need.Fact.{Fact}
use Rattle.rp_plan.specs.Goal.{goal, goal_table, plan_among, plan_asked, plan_placed, spots_of}

abbrev guid : ℕ → Guid
guid n = record { 0 = replicate 16 n }

-- an image with these rows
abbrev image : List Row → Seen
image rows = record {
  sectors = 131072;
  shown = record { sector = 512; entries = 128; disk = guid 9; first = 2048; last = 131038; rows = rows };
  origin = Primary;
  primary_same = true;
  backup_same = true;
  mbr = mbrs.Same;
}

abbrev entry : ℕ → ℕ → ℕ → ℕ → Row
entry slot kind start size = record {
  slot = slot;
  kind = guid kind;
  id = guid (100 + slot);
  start = start;
  size = size;
  attrs = 0;
  name = replicate 36 65;
}

-- a definition of a type with an identifier, a priority, a least and a greatest size in grains, and a weight
abbrev def : ℕ → ℕ → ℤ → ℕ → ℕ → ℕ → Definition
def kind id priority least most weight = record {
  file = [];
  kind = guid kind;
  label = Some (replicate 36 66);
  id = Some (guid id);
  priority = priority;
  want = record { min = least; max = most; weight = weight; pad_min = 0; pad_max = 2 ^ 52; pad_weight = 0 };
  attrs = 0;
  source = None;
  verity = Off;
  factory_reset = false;
  split = None;
}

-- the slots, starts and sizes of the goal's rows, and the definitions that are dropped
abbrev shown : Result Plan Demand → Result (List (ℕ × ℕ × ℕ) × List ℕ) Demand
shown (Ok plan) = Ok (map (λ (r : Row). (r.slot, r.start, r.size)) plan.goal.rows, plan.dropped)
shown (Err demand) = Err demand

-- what becomes of such an image
abbrev becomes : List Row → List Definition → List Fact → Result (List (ℕ × ℕ × ℕ) × List ℕ) Demand
becomes rows defs facts = shown (goal (image rows) 131072 defs facts (guid 5))

by_weight : becomes [] (def 1 11 (pos 0) 2560 (2 ^ 52) 1000 ∷ def 2 12 (pos 0) 2560 (2 ^ 52) 2000 ∷ []) []
    ≡ Ok ((0, 2048, 42992) ∷ (1, 45040, 85992) ∷ [], [])
unfolding goal plan_asked plan_among plan_placed goal_table spots_of named rows_named in_turn changed shares_of with_grains with_grain next_below sooner_of can_take
by_weight = refl

equal_weights : becomes [] (def 1 11 (pos 0) 2560 (2 ^ 52) 1000 ∷ def 2 12 (pos 0) 2560 (2 ^ 52) 1000 ∷ []) []
    ≡ Ok ((0, 2048, 64496) ∷ (1, 66544, 64488) ∷ [], [])
unfolding goal plan_asked plan_among plan_placed goal_table spots_of named rows_named in_turn changed shares_of with_grains with_grain next_below sooner_of can_take
equal_weights = refl

-- a row of a definition grows, and the new one stands behind it in the next slot
grown : becomes (entry 3 1 2048 80 ∷ []) (def 1 11 (pos 0) 2560 2560 1000 ∷ def 2 12 (pos 0) 2560 (2 ^ 52) 1000 ∷ []) []
    ≡ Ok ((3, 2048, 20480) ∷ (4, 22528, 108504) ∷ [], [])
unfolding goal plan_asked plan_among plan_placed goal_table spots_of named rows_named in_turn changed shares_of with_grains with_grain next_below sooner_of can_take
grown = refl

-- the one of the higher priority number is dropped where there is no room for both
dropped : becomes [] (def 1 11 (pos 10) 9000 (2 ^ 52) 1000 ∷ def 2 12 (pos 0) 9000 (2 ^ 52) 1000 ∷ []) []
    ≡ Ok ((0, 2048, 128984) ∷ [], 0 ∷ [])
unfolding goal plan_asked plan_among plan_placed goal_table spots_of named rows_named in_turn changed shares_of with_grains with_grain next_below sooner_of can_take
dropped = refl

no_room : becomes [] (def 1 11 (pos 0) 8000 (2 ^ 52) 1000 ∷ def 2 12 (pos 0) 9000 (2 ^ 52) 1000 ∷ []) []
    ≡ Err (Room 1 (4096 * 9000) (4096 * 8123))
unfolding goal plan_asked plan_among
no_room = refl

-- a source of one grain more than the maximum
source_too_large : becomes [] (record (def 1 11 (pos 0) 10 100 1000) { source = Some (47 ∷ []) } ∷ []) (record { file = 0; len = 413696; root = None } ∷ [])
    ≡ Err (SourceTooLarge 0 413696 409600)
unfolding goal
source_too_large = refl

identifier_taken : becomes [] (def 1 11 (pos 0) 2560 (2 ^ 52) 0 ∷ def 2 11 (pos 0) 2560 (2 ^ 52) 0 ∷ []) [] ≡ Err (TakenIdentifier 1)
unfolding goal plan_asked plan_among plan_placed goal_table spots_of named rows_named in_turn changed shares_of with_grains with_grain next_below sooner_of can_take
identifier_taken = refl

-- a row of a definition has a foreign one behind it
no_room_behind : becomes (entry 0 1 2048 80 ∷ entry 1 7 2128 8 ∷ []) (def 1 11 (pos 0) 2560 (2 ^ 52) 1000 ∷ []) []
    ≡ Err (Existing 0 10485760 40960)
unfolding goal plan_asked
no_room_behind = refl

-- a row that ends past the last grain keeps its size, and grows where the image does
stays_odd : becomes (entry 0 1 2048 128991 ∷ []) (def 1 11 (pos 0) 2560 (2 ^ 52) 1000 ∷ []) [] ≡ Ok ((0, 2048, 128991) ∷ [], [])
unfolding goal plan_asked plan_among plan_placed goal_table spots_of named rows_named in_turn changed shares_of with_grains with_grain next_below sooner_of can_take
stays_odd = refl

grows_with_the_image : shown (goal (image (entry 0 1 2048 128991 ∷ [])) 262144 (def 1 11 (pos 0) 2560 (2 ^ 52) 1000 ∷ []) [] (guid 5))
    ≡ Ok ((0, 2048, 260056) ∷ [], [])
unfolding goal plan_asked plan_among plan_placed goal_table spots_of named rows_named in_turn changed shares_of with_grains with_grain next_below sooner_of can_take
grows_with_the_image = refl
