-- What differs first, case by case.
use Rattle.std.proofs.Common.{◌≡◌, ℕ, List, Option, Some, None, refl}
use Rattle.std.specs.Prelude.{option_map}
use Rattle.std.specs.Option.{option_or}
use Rattle.rp_base.specs.declared.plan.Plan.{Plan}
use Rattle.rp_base.specs.declared.seen.Seen.{Seen}
use Rattle.rp_base.specs.declared.table.Row.{Row}
use Rattle.rp_difference.specs.Difference.{bad_of, difference, table_difference, tree_difference}
use Rattle.rp_difference.specs.declared.difference.Difference.{Difference}
use Rattle.rp_difference.specs.declared.difference.Difference.TheVariants as differences
use Rattle.rp_tree.specs.declared.bad.Bad.{Bad}
use Rattle.rp_types.specs.declared.arch.Arch.{Arch}
use Rattle.rp_types.specs.declared.arch.Designator.{Designator}
use Rattle.rp_types.specs.declared.arch.Designator.TheVariants.{Root, Usr}
use Rattle.rp_verdict.specs.Rows.{row_of, tree_row}

module _ (image : List ℕ) (arch : Arch) where
  module _ (rows : List Row) (d : Designator) where
    -- there is no data
    pub no_data : row_of arch rows d ≡ None → tree_difference image arch rows d ≡ None
    unfolding tree_difference
    no_data none = rw none refl

    -- there is no hash tree
    pub no_tree : (payload : Row) → row_of arch rows d ≡ Some payload → tree_row arch rows d ≡ None → tree_difference image arch rows d ≡ None
    unfolding tree_difference
    no_tree payload is none = rw (is, none) refl

    -- there are both
    pub both : (payload hash : Row) (bad : Option Bad) → row_of arch rows d ≡ Some payload → tree_row arch rows d ≡ Some hash
        → bad ≡ bad_of image payload hash → option_map (differences.Tree d) bad ≡ tree_difference image arch rows d
    unfolding tree_difference
    both payload hash bad is too e = rw (is, too, e) refl

  module _ (seen : Seen) (plan : Plan) where
    -- the table differs, or what stands in it
    pub by_table : (found : Difference) → table_difference seen plan ≡ Some found → Some found ≡ difference image arch seen plan
    unfolding difference
    by_table found is = rw is refl

    -- it doesn't
    pub by_trees : (found : Option Difference) → table_difference seen plan ≡ None
        → found ≡ option_or (tree_difference image arch seen.shown.rows Root) (tree_difference image arch seen.shown.rows Usr)
        → found ≡ difference image arch seen plan
    unfolding difference
    by_trees found none e = rw none e

  module _ (rows : List Row) where
    -- the tree of root is first
    pub by_root : (found : Difference) → Some found ≡ tree_difference image arch rows Root
        → Some found ≡ option_or (tree_difference image arch rows Root) (tree_difference image arch rows Usr)
    by_root found e = rw (← e) refl

    pub by_usr : (found : Option Difference) → None ≡ tree_difference image arch rows Root → found ≡ tree_difference image arch rows Usr
        → found ≡ option_or (tree_difference image arch rows Root) (tree_difference image arch rows Usr)
    by_usr found none e = rw (← none) e
