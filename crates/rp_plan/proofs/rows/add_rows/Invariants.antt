use Rattle.std.proofs.Common.{◌≡◌, ◌≤◌, ◌+◌, ◌++◌, drop, map}
use Rattle.std.specs.List.{enumerate_from, filter}
use Rattle.rp_plan.specs.Kept.{is_kept, kept_of}
use Rattle.rp_plan.specs.Rows.{row_for}
use Rattle.rp_plan.proofs.rows.add_rows.Given as goal

abbrev pub invariant-loop-file : goal.invariant-loop-file
invariant-loop-file l = record {
  slot : l.slot ≤ l.free + l.file;
  rows : l.laid ++ map (row_for l.spots) (enumerate_from l.slot (filter (is_kept l.matched l.fn.threshold) (enumerate_from l.file (drop l.file l.defs))))
      ≡ l.initial.laid ++ map (row_for l.spots) (enumerate_from l.free (kept_of l.matched l.fn.threshold l.defs));
}
