-- How large new partitions are at least, and what is asked for them (repart.d(5), SizeMinBytes=, CopyBlocks=, Verity=; the exact sizes of
-- pairs are own rules). Sizes are in grains of 4,096 bytes.
use Rattle.std.specs.Prelude.{ℕ, ◌*◌, ◌-◌, ◌^◌, ◌&&◌, max, min, Bool, true, false, not, nat_lt, nat_le, List, [], ◌∷◌, map, Option, Some, None, slice_get, if◌then◌else◌}
use Rattle.std.specs.List.{enumerate_from}
use Rattle.std.specs.Option.{option_map_or, option_or}
use Rattle.rp_base.specs.Trees.{hash_blocks}
use Rattle.rp_base.specs.declared.want.Want.{Want}
use Rattle.rp_defs.specs.declared.definition.Definition.{Definition}
use Rattle.rp_defs.specs.declared.definition.Verity.{Verity}
use Rattle.rp_defs.specs.declared.definition.Verity.TheVariants.{Off, Data, Hash}
use Rattle.rp_sizes.specs.declared.need.Fact.{Fact}
use Rattle.rp_demand.specs.declared.demand.Demand.{Demand}
use Rattle.rp_demand.specs.declared.demand.Demand.TheVariants.{VerityHalf, SourceTooLarge}
use Rattle.rp_sizes.specs.Needs.{is_new, len_of}
use Rattle.rp_sizes.specs.Pairs.{bytes_grains, pair_blocks}

-- the blocks of the data of the pair whose data is the definition at this place
abbrev pub blocks_at : List Definition → List Fact → ℕ → ℕ
blocks_at defs facts file = option_map_or (λ def. pair_blocks def (len_of facts file)) (slice_get defs file) 1

-- the blocks of the tree over so many blocks, 2^32 at most
abbrev pub tree_over : ℕ → ℕ
tree_over blocks = hash_blocks (min blocks (2 ^ 32))

-- the least size of a new partition by its verity: the exact one of each half of a pair, else its minimum or its source, whichever
-- is greater
abbrev pub least_by : List Definition → List Fact → (ℕ × Definition) → Verity → ℕ
least_by defs facts e Off = max e.1.want.min (bytes_grains (len_of facts e.0))
least_by defs facts e (Data partner) = pair_blocks e.1 (len_of facts e.0)
least_by defs facts e (Hash partner) = max e.1.want.min (tree_over (blocks_at defs facts partner))

abbrev pub least_of : List Definition → List Fact → (ℕ × Definition) → ℕ
least_of defs facts e = least_by defs facts e e.1.verity

-- the most that a size may be: no partition has more than 2^32 grains
abbrev pub most_of : Definition → ℕ
most_of def = min def.want.max (2 ^ 32)

-- a hash isn't judged whose data is larger than a tree can be over: its data is refused
abbrev pub is_judged : List Definition → List Fact → Verity → Bool
is_judged defs facts (Hash partner) = nat_le (blocks_at defs facts partner) (2 ^ 32)
is_judged defs facts other = true

-- a new definition, given with its place, whose size is more than it may be, in bytes
abbrev pub too_large : List (Option ℕ) → List Definition → List Fact → (ℕ × Definition) → Option Demand
too_large matched defs facts e =
    if is_new matched e.0 && is_judged defs facts e.1.verity && nat_lt (most_of e.1) (least_of defs facts e)
    then Some (SourceTooLarge e.0 (min (4096 * least_of defs facts e) (2 ^ 64 - 1)) (4096 * most_of e.1))
    else None

-- one of the two holds and the other doesn't
abbrev pub differ : Bool → Bool → Bool
differ a b = if a then not b else b

-- one half of a pair, given with its place, has a row and the other hasn't
abbrev pub is_split : List (Option ℕ) → ℕ → Verity → Bool
is_split matched file Off = false
is_split matched file (Data partner) = differ (is_new matched file) (is_new matched partner)
is_split matched file (Hash partner) = differ (is_new matched file) (is_new matched partner)

abbrev pub half_alone : List (Option ℕ) → (ℕ × Definition) → Option Demand
half_alone matched e = if is_split matched e.0 e.1.verity then Some (VerityHalf e.0) else None

-- the first answer among those for some items
abbrev pub first_of : {A B : Type 0} → (A → Option B) → List A → Option B
first_of f [] = None
first_of f (x ∷ xs) = option_or (f x) (first_of f xs)

-- the demand of the least half of a pair that has a row where the other has none, or has none where the other has one
abbrev pub half_demand : List (Option ℕ) → List Definition → Option Demand
half_demand matched defs = first_of (half_alone matched) (enumerate_from 0 defs)

-- the demand of the least new definition that is too large
abbrev pub size_demand : List (Option ℕ) → List Definition → List Fact → Option Demand
size_demand matched defs facts = first_of (too_large matched defs facts) (enumerate_from 0 defs)

-- the first of both
abbrev pub first_demand : List (Option ℕ) → List Definition → List Fact → Option Demand
first_demand matched defs facts = option_or (half_demand matched defs) (size_demand matched defs facts)

-- what is asked for a new partition of such a least size: halves of a pair have it exactly
abbrev pub sized : Verity → ℕ → Want → Want
sized Off least want = record want { min = least }
sized half least want = record want { min = least; max = least }

-- what is asked for a definition, given with its place: what it says itself where it has a row
abbrev pub asked_of : List (Option ℕ) → List Definition → List Fact → (ℕ × Definition) → Want
asked_of matched defs facts e =
    if is_new matched e.0 then sized e.1.verity (least_of defs facts e) e.1.want else e.1.want

-- what is asked for each
abbrev pub asked : List (Option ℕ) → List Definition → List Fact → List Want
asked matched defs facts = map (asked_of matched defs facts) (enumerate_from 0 defs)
