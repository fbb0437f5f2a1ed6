-- Resets that were worked out by hand come out of the definitions: images of 64 MiB with 128 entries.
use Rattle.std.proofs.Common.{◌≡◌, ℕ, ◌+◌, ◌^◌, true, false, Bool, List, [], ◌∷◌, map, Some, None, Option, Result, Ok, Err, pos, refl}
use Rattle.std.specs.Prelude.{replicate}
use Rattle.rp_base.specs.declared.guid.Guid.{Guid}
use Rattle.rp_base.specs.declared.plan.Plan.{Plan}
use Rattle.rp_base.specs.declared.seen.Mbr.TheVariants as mbrs
use Rattle.rp_base.specs.declared.seen.Origin.TheVariants.{Backup}
use Rattle.rp_base.specs.declared.seen.Seen.{Seen}
use Rattle.rp_base.specs.declared.table.Row.{Row}
use Rattle.rp_demand.specs.declared.demand.Demand.{Demand}
use Rattle.rp_demand.specs.declared.demand.Demand.TheVariants.{ResetMix}
use Rattle.rp_defs.specs.declared.definition.Definition.{Definition}
use Rattle.rp_defs.specs.declared.definition.Verity.TheVariants.{Off}
use Rattle.rp_ident.specs.Naming.{changed, in_turn, named, rows_named}
use Rattle.rp_plan.specs.Goal.{goal, goal_table, plan_among, plan_asked, plan_placed, spots_of}
use Rattle.rp_share.specs.Value.{can_take, next_below, shares_of, sooner_of, with_grain, with_grains}
use Rattle.rp_stops.specs.After.{seen_after}
use Rattle.rp_reset.specs.Reset.{reset, taken_out}

abbrev guid : ℕ → Guid
guid n = record { 0 = replicate 16 n }

-- an image with these rows, shown by its backup, with partitions of another table in its MBR
abbrev image : List Row → Seen
image rows = record {
  sectors = 131072;
  shown = record { sector = 512; entries = 128; disk = guid 9; first = 2048; last = 131038; rows = rows };
  origin = Backup;
  primary_same = false;
  backup_same = true;
  mbr = mbrs.Foreign;
}

abbrev entry : ℕ → ℕ → ℕ → ℕ → Row
entry slot kind start size = record {
  slot = slot;
  kind = guid kind;
  id = guid (100 + slot);
  start = start;
  size = size;
  attrs = 0;
  name = replicate 36 65;
}

-- a definition of a type with an identifier, a least size in grains and a weight, which is reset or isn't
abbrev def : ℕ → ℕ → ℕ → ℕ → Bool → Definition
def kind id least weight is_reset = record {
  file = [];
  kind = guid kind;
  label = Some (replicate 36 66);
  id = Some (guid id);
  priority = pos 0;
  want = record { min = least; max = 2 ^ 52; weight = weight; pad_min = 0; pad_max = 2 ^ 52; pad_weight = 0 };
  attrs = 0;
  source = None;
  verity = Off;
  factory_reset = is_reset;
  split = None;
}

abbrev laid : List Row → List (ℕ × ℕ × ℕ)
laid rows = map (λ (r : Row). (r.slot, r.start, r.size)) rows

-- the slots, starts and sizes of the rows that stay
abbrev left : Result (Option Plan) Demand → Result (Option (List (ℕ × ℕ × ℕ))) Demand
left (Ok None) = Ok None
left (Ok (Some plan)) = Ok (Some (laid plan.goal.rows))
left (Err demand) = Err demand

abbrev small_and_large : List Row
small_and_large = entry 0 1 2048 8192 ∷ entry 1 2 10240 81920 ∷ []

abbrev first_reset : List Definition
first_reset = def 1 11 1024 0 true ∷ def 2 12 2560 1000 false ∷ []

-- the row of the first is taken out
one_out : left (reset (image small_and_large) first_reset) ≡ Ok (Some ((1, 10240, 81920) ∷ []))
unfolding reset
one_out = refl

slots_of_one_out : taken_out (image small_and_large).shown first_reset ≡ 0 ∷ []
slots_of_one_out = refl

-- of two rows of its type the foreign one stays
foreign_stays : left (reset (image (entry 3 1 2048 8 ∷ entry 7 1 4096 8 ∷ [])) first_reset) ≡ Ok (Some ((7, 4096, 8) ∷ []))
unfolding reset
foreign_stays = refl

-- nothing is to be taken out, where such a definition has no row
none_out : left (reset (image (entry 0 2 2048 8192 ∷ [])) first_reset) ≡ Ok None
unfolding reset
none_out = refl

-- two of a type that disagree, without a row: the later one is told
mixed : left (reset (image []) (def 2 11 1024 0 true ∷ def 1 13 1024 0 false ∷ def 2 12 2560 1000 false ∷ [])) ≡ Err (ResetMix 2)
unfolding reset
mixed = refl

-- planned anew: the other grows, and the row of the first is made again where it was, in the next slot
abbrev planned : Result Plan Demand → Result (List (ℕ × ℕ × ℕ)) Demand
planned (Ok plan) = Ok (laid plan.goal.rows)
planned (Err demand) = Err demand

abbrev anew : Result (Option Plan) Demand → Result (List (ℕ × ℕ × ℕ)) Demand
anew (Ok (Some plan)) = planned (goal (seen_after (image small_and_large) plan) 131072 first_reset [] (guid 5))
anew (Ok None) = Ok []
anew (Err demand) = Err demand

made_anew : anew (reset (image small_and_large) first_reset) ≡ Ok ((1, 10240, 120792) ∷ (2, 2048, 8192) ∷ [])
unfolding reset goal plan_asked plan_among plan_placed goal_table spots_of named rows_named in_turn changed shares_of with_grains with_grain next_below sooner_of can_take
made_anew = refl
