-- Which row of a table is a designator's (Discoverable Partitions Specification), and which are left over.
use Rattle.std.specs.Prelude.{ℕ, ◌==◌, List, Bool, false, not, ◌&&◌, Option, Some, None, find, filter, map, option_and_then}
use Rattle.std.specs.Option.{option_map_or}
use Rattle.rp_base.specs.declared.table.Row.{Row}
use Rattle.rp_policy.specs.Flags.{has}
use Rattle.rp_policy.specs.Judging.{place}
use Rattle.rp_types.specs.Table.{no_auto}
use Rattle.rp_types.specs.Types.{designator_of}
use Rattle.rp_types.specs.declared.arch.Arch.{Arch}
use Rattle.rp_types.specs.declared.arch.Designator.{Designator}
use Rattle.rp_types.specs.declared.arch.Designator.TheVariants.{Root, Usr, Home, Srv, Esp, Xbootldr, Swap, RootVerity, RootVeritySig, UsrVerity, UsrVeritySig, Tmp, Var}

-- a row has the type of a designator, for the architecture
abbrev pub has_type : Arch → Designator → Row → Bool
has_type arch d row = option_map_or (λ e. place e == place d) (designator_of row.kind arch) false

-- it may be found by itself too (the same, "no-auto")
unfoldable pub may_be : Arch → Designator → Row → Bool
may_be arch d row = not (has row.attrs no_auto) && has_type arch d row

-- the row of a designator: the first that may be it, in slot order
unfoldable pub row_of : Arch → List Row → Designator → Option Row
row_of arch rows d = find (may_be arch d) rows

-- the designator of the hash tree of data
abbrev pub tree_of : Designator → Option Designator
tree_of Root = Some RootVerity
tree_of Usr = Some UsrVerity
tree_of Home = None
tree_of Srv = None
tree_of Esp = None
tree_of Xbootldr = None
tree_of Swap = None
tree_of RootVerity = None
tree_of RootVeritySig = None
tree_of UsrVerity = None
tree_of UsrVeritySig = None
tree_of Tmp = None
tree_of Var = None

-- the row of the hash tree of a designator's data
unfoldable pub tree_row : Arch → List Row → Designator → Option Row
tree_row arch rows d = option_and_then (row_of arch rows) (tree_of d)

-- a row has the slot of this one
abbrev pub is_at : ℕ → Option Row → Bool
is_at slot row = option_map_or (λ row. row.slot == slot) row false

-- a row is left over: it has the type of a designator whose row is another, or none
unfoldable pub is_extra : Arch → List Row → Row → Bool
is_extra arch rows row = option_map_or (λ d. not (is_at row.slot (row_of arch rows d))) (designator_of row.kind arch) false

-- the slots of the rows that are left over
unfoldable pub extra : Arch → List Row → List ℕ
extra arch rows = map (λ row. row.slot) (filter (is_extra arch rows) rows)
